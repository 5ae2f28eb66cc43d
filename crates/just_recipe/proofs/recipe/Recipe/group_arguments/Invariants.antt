use Rattle.std.proofs.Common.{◌≡◌, ◌≤◌, ◌++◌, drop, length}
use Rattle.just_recipe.specs.Grouping.{grouped}
use Rattle.just_recipe.proofs.recipe.Recipe.group_arguments.Given as goal

abbrev pub invariant-loop-parameter : goal.invariant-loop-parameter
invariant-loop-parameter g l = record {
  within : l.taken ≤ length l.arguments;
  rest : grouped l.settings.lists l.self.parameters l.arguments ≡ l.groups.items ++ grouped l.settings.lists (drop l.parameter-index l.self.parameters) (drop l.taken l.arguments);
}

use Rattle.std.proofs.Common.{◌≡◌, ◌++◌, drop, map}
use Rattle.just_recipe.specs.declared.dependency.DependencyArgument.{DependencyArgument}
use Rattle.just_recipe_names.specs.Steps.{events}
use Rattle.just_recipe_names.specs.loops.Steps.{readings}
use Rattle.just_recipe_names.proofs.steps.push_arguments.Given as goal

abbrev pub invariant-loop-argument : goal.invariant-loop-argument
invariant-loop-argument l =
    events l.fn.found.items ++ readings (map (λ (a : DependencyArgument). a.expression) l.arguments)
    ≡ events l.found.items ++ readings (map (λ (a : DependencyArgument). a.expression) (drop l.argument-index l.arguments))

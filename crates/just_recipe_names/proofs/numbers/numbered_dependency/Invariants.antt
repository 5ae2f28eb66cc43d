use Rattle.std.proofs.Common.{◌≡◌, ◌++◌, drop, map}
use Rattle.just_recipe_names.specs.Numbered.{argument_given_by}
use Rattle.just_recipe_names.specs.loops.Numbered.{looked_up}
use Rattle.just_recipe_names.proofs.numbers.numbered_dependency.Given as goal

abbrev pub invariant-loop-argument : goal.invariant-loop-argument
invariant-loop-argument g l =
    let by = looked_up (g.S.Syntax.answers l.numbers.syntax.now) l.numbers in
    map (argument_given_by by) l.dependency.arguments ≡ l.arguments.items ++ map (argument_given_by by) (drop l.argument-index l.argument-items)

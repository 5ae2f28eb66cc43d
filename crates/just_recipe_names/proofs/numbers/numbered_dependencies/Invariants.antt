use Rattle.std.proofs.Common.{◌≡◌, ◌++◌, drop, map}
use Rattle.just_recipe_names.specs.Numbered.{dependency_by}
use Rattle.just_recipe_names.specs.loops.Numbered.{looked_up}
use Rattle.just_recipe_names.proofs.numbers.numbered_dependencies.Given as goal

abbrev pub invariant-loop-dependency : goal.invariant-loop-dependency
invariant-loop-dependency g l =
    let by = looked_up (g.S.Syntax.answers l.numbers.syntax.now) l.numbers in
    map (dependency_by by) l.dependencies ≡ l.made.items ++ map (dependency_by by) (drop l.dependency-index l.dependencies)

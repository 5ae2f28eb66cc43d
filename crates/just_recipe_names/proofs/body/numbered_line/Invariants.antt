use Rattle.std.proofs.Common.{◌≡◌, ◌++◌, drop, map}
use Rattle.just_recipe_names.specs.Numbered.{fragment_by}
use Rattle.just_recipe_names.specs.loops.Numbered.{looked_up}
use Rattle.just_recipe_names.proofs.body.numbered_line.Given as goal

abbrev pub invariant-loop-fragment : goal.invariant-loop-fragment
invariant-loop-fragment g l =
    let by = looked_up (g.S.Syntax.answers l.numbers.syntax.now) l.numbers in
    map (fragment_by by) l.line.fragments ≡ l.made.items ++ map (fragment_by by) (drop l.fragment-index l.fragment-items)

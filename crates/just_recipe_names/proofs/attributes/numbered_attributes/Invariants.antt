use Rattle.std.proofs.Common.{◌≡◌, ◌++◌, drop, map}
use Rattle.just_recipe_names.specs.Numbered.{attribute_with}
use Rattle.just_recipe_names.specs.loops.Numbered.{looked_up}
use Rattle.just_recipe_names.proofs.attributes.numbered_attributes.Given as goal

abbrev pub invariant-loop-named : goal.invariant-loop-named
invariant-loop-named g l =
    let by = attribute_with (looked_up (g.S.Syntax.answers l.outer.syntax.now) l.outer) (looked_up (g.S.Syntax.answers l.inner.syntax.now) l.inner) in
    map by l.attributes ≡ l.made.items ++ map by (drop l.named-index l.attributes)

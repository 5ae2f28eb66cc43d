use Rattle.std.proofs.Common.{map}
use Rattle.just_recipe_names.specs.Numbered.{attribute_with}
use Rattle.just_recipe_names.specs.loops.Numbered.{looked_up}
use Rattle.just_recipe_names.proofs.Seen.{one_made}
use Rattle.just_recipe_names.proofs.attributes.numbered_attributes.Goals as goal

pub loop-named-preserved : goal.loop-named-preserved
loop-named-preserved g c =
    let outer = looked_up (g.S.Syntax.answers c.args.outer.now.syntax.now) c.args.outer.now in
    let inner = looked_up (g.S.Syntax.answers c.args.inner.now.syntax.now) c.args.inner.now in
    one_made (attribute_with outer inner) (map (attribute_with outer inner) c.args.attributes.now) c.args.attributes.now c.loop-named.named-index c.named-item.result
    c.in_ok-numbered_named.field-0 c.loop-named.made.items c.push.new.self.items c.loop-named.invariant c.loop-named-test.true c.named-item.is c.in_ok-numbered_named.ensures
    c.in_ok-push.ensures.items

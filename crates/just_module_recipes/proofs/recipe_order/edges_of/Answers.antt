use Rattle.std.proofs.Common.{◌≡◌, ◌∙◌, [], get_or, ap}
use Rattle.std.proofs.lemmas.List.{get_or_default}
use Rattle.just_graph.specs.Building.{each_row_push}
use Rattle.just_module_recipes.specs.loops.Rows.{near}
use Rattle.just_module_recipes.proofs.recipe_order.edges_of.Goals as goal

pub loop-place-preserved : goal.loop-place-preserved
loop-place-preserved c =
    let read : c.index-rows-place.result ≡ get_or c.args.rows.now c.loop-place.place [] = c.index-rows-place.is ∙ get_or_default c.args.rows.now c.loop-place.place c.index-rows-place.result [] c.loop-place-test.true in
    each_row_push (λ a row. row ≡ near (get_or c.args.rows.now a [])) c.loop-place.place c.loop-place.edges.items c.push.new.self.items c.in_ok-near_of.field-0 c.loop-place.invariant
    (c.in_ok-near_of.ensures ∙ ap near (c.as_slice.ensures ∙ read)) c.in_ok-push.ensures.items

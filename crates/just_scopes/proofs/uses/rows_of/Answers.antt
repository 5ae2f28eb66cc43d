use Rattle.std.proofs.Common.{◌≡◌}
use Rattle.just_tasks.specs.Leading.{needed_places}
use Rattle.just_graph.specs.Building.{each_row_push}
use Rattle.just_scopes.proofs.uses.rows_of.Goals as goal

pub loop-place-preserved : goal.loop-place-preserved
loop-place-preserved c =
    each_row_push (λ place row. row ≡ needed_places c.args.recipes.now place) c.loop-place.place c.loop-place.rows.items c.push.new.self.items c.in_ok-row_of.field-0 c.loop-place.invariant c.in_ok-row_of.ensures c.in_ok-push.ensures.items

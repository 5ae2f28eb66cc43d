use Rattle.just_graph.specs.Building.{each_row_push}
use Rattle.just_module_headers.proofs.join.none_joined.Goals as goal

pub loop-preserved : goal.loop-preserved
loop-preserved c = (
  each_row_push _ _ _ _ _ c.loop.invariant.0 c.new.ensures.items c.in_ok-push.ensures.items,
  each_row_push _ _ _ _ _ c.loop.invariant.1 c.new-in-loop.ensures.items c.in_ok-push-2.ensures.items,
)

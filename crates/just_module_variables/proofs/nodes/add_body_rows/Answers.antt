use Rattle.std.specs.HashSet.{contains}
use Rattle.std.specs.Str.{bytes_eq}
use Rattle.just_module_variables.specs.loops.Places.{targets_in}
use Rattle.just_module_variables.proofs.Rows.{body_row_more}
use Rattle.just_module_variables.proofs.nodes.add_body_rows.Goals as goal

pub loop-function-preserved : goal.loop-function-preserved
loop-function-preserved c =
    body_row_more (targets_in c.args.places.now) _ _ _ c.in_ok-row.field-0 c.loop-function.yielded c.in-Some.function _ (contains bytes_eq c.in_ok-hidden.hidden)
    c.loop-function.invariant c.in_ok-push.ensures.items c.in_ok-row.ensures c.in_ok-hidden.ensures c.as_slice.ensures

use Rattle.std.proofs.Common.{◌∙◌, Some, ap, arith, cond}
use Rattle.std.specs.HashMap.{get}
use Rattle.just_names.specs.Texts.{Text}
use Rattle.just_parts.specs.Needs.{same_number}
use Rattle.just_module_variables.proofs.Overriding.{last_more_put}
use Rattle.just_module_variables.proofs.overrides.by_number.Goals as goal

pub loop-number-preserved : goal.loop-number-preserved
loop-number-preserved c n =
    let e = c.loop-number-item.result in
    last_more_put c.args.overrides.now c.loop-number.number-index e e n (get same_number c.insert.new.self n) (get same_number c.loop-number.found n) (omega arith) c.loop-number-item.is (c.loop-number.invariant n)
    (c.in_ok-insert.ensures.updates.0 n ∙ ap (λ (t : Text). cond (same_number e.0 n) (Some t) (get same_number c.loop-number.found n)) c.in_ok-clone.ensures.cases)

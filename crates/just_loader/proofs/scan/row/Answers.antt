use Rattle.std.proofs.Common.{◌≡◌, None, length, get_or, ap, sym, ◌∙◌, arith}
use Rattle.std.proofs.lemmas.List.{get_or_default}
use Rattle.just_loader.proofs.Scanning.{row_step}
use Rattle.just_loader.proofs.scan.row.Goals as goal

pub loop-place-preserved : goal.loop-place-preserved
loop-place-preserved c =
    let t = get_or c.args.targets.now c.loop-place.place None in
    let count : length c.args.targets.now ≡ length c.as_slice-items.result.now = c.requires.count ∙ ap length (sym c.as_slice-items.ensures) in
    let both = row_step c.as_slice-items.result.now c.args.targets.now c.loop-place.place c.index-items-place.result t
    c.args.names.now.names.items c.loop-place.names.names.items c.push_step.new.names.names.items c.loop-place.row.items c.push_step.new.row.items c.loop-place-test.true count c.index-items-place.is
    (get_or_default c.args.targets.now c.loop-place.place None t (omega (arith, c.loop-place-test.true, count))) c.loop-place.invariant.steps c.loop-place.invariant.extends c.in_ok-push_step.ensures.pushed c.in_ok-push_step.ensures.extends in
    record { steps = both.0; extends = both.1; numbered = c.in_ok-push_step.ensures.numbered }

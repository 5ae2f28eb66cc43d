use Rattle.std.proofs.Common.{rules, ◌≡◌, ◌||◌, ◌∙◌, sym, ap, true, false, drop, ◌+◌, arith}
use Rattle.just_names.specs.Texts.{texts}
use Rattle.just_tail.specs.Words.{as_texts}
use Rattle.just_tail.specs.Checks.{is_missing, any_missing}
use Rattle.just_tail.proofs.CheckLemmas.{both_at}
use Rattle.just_tail.proofs.checks.any_missing.Goals as goal

pub returns-then-is_missing : goal.returns-then-is_missing
returns-then-is_missing c =
    let p = c.index-parameters-place.result in
    let g = c.index-groups-place.result in
    let rest = any_missing (drop (c.loop-place.place + 1) c.args.parameters.now) (drop (c.loop-place.place + 1) (as_texts c.args.groups.now)) in
    let at = both_at any_missing c.args.parameters.now c.args.groups.now c.loop-place.place p g (omega arith) c.requires c.index-parameters-place.is c.index-groups-place.is in
    let here : is_missing p (texts g.items) ≡ true = search rules in
    sym (c.loop-place.invariant ∙ at ∙ ap (λ b. b || rest) here)

pub loop-place-preserved : goal.loop-place-preserved
loop-place-preserved c =
    let p = c.index-parameters-place.result in
    let g = c.index-groups-place.result in
    let rest = any_missing (drop (c.loop-place.place + 1) c.args.parameters.now) (drop (c.loop-place.place + 1) (as_texts c.args.groups.now)) in
    let at = both_at any_missing c.args.parameters.now c.args.groups.now c.loop-place.place p g (omega arith) c.requires c.index-parameters-place.is c.index-groups-place.is in
    let here : is_missing p (texts g.items) ≡ false = search rules in
    c.loop-place.invariant ∙ at ∙ ap (λ b. b || rest) here

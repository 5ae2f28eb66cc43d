use Rattle.std.proofs.Common.{rules, ◌≡◌, ◌∙◌, sym, ap, Some, None, drop, ◌+◌, arith}
use Rattle.just_names.specs.Texts.{texts}
use Rattle.just_tail.specs.Words.{as_texts}
use Rattle.just_tail.specs.Options.{first_of}
use Rattle.just_tail.specs.loops.Reader.{switch_of}
use Rattle.just_tail.specs.Checks.{missing_switch, first_missing}
use Rattle.just_tail.proofs.CheckLemmas.{both_at}
use Rattle.just_tail.proofs.checks.first_missing.Goals as goal

pub returns-in-Some : goal.returns-in-Some
returns-in-Some c =
    let p = c.index-parameters-place.result in
    let g = c.index-groups-place.result in
    let rest = first_missing (drop (c.loop-place.place + 1) c.args.parameters.now) (drop (c.loop-place.place + 1) (as_texts c.args.groups.now)) in
    let at = both_at first_missing c.args.parameters.now c.args.groups.now c.loop-place.place p g (omega arith) c.requires c.index-parameters-place.is c.index-groups-place.is in
    let here : missing_switch p (texts g.items) ≡ Some (switch_of c.in-Some.switch) = search rules in
    sym (c.loop-place.invariant ∙ at ∙ ap (λ b. first_of b rest) here)

pub loop-place-preserved : goal.loop-place-preserved
loop-place-preserved c =
    let p = c.index-parameters-place.result in
    let g = c.index-groups-place.result in
    let rest = first_missing (drop (c.loop-place.place + 1) c.args.parameters.now) (drop (c.loop-place.place + 1) (as_texts c.args.groups.now)) in
    let at = both_at first_missing c.args.parameters.now c.args.groups.now c.loop-place.place p g (omega arith) c.requires c.index-parameters-place.is c.index-groups-place.is in
    let here : missing_switch p (texts g.items) ≡ None = search rules in
    c.loop-place.invariant ∙ at ∙ ap (λ b. first_of b rest) here

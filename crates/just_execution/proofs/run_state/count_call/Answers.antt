use Rattle.std.proofs.Common.{◌≡◌, ℕ, ◌+◌, List, ◌∙◌, ap, set, get_or, rules}
use Rattle.just_execution.proofs.RunStates.{add-set}
use Rattle.just_execution.proofs.run_state.count_call.Goals as goal

pub returns-in-Some-clause-counted : goal.returns-in-Some-clause-counted
returns-in-Some-clause-counted c =
    let items : List ℕ = c.args.calls.now.items in
    let read : c.index.result.now ≡ get_or items c.args.number c.index.result.now = search rules in
    let more : c.in-Some.count ≡ c.index.result.now + 1 = search rules in
    ap (set items c.args.number) (more ∙ ap (λ x. x + 1) read) ∙ add-set items c.args.number c.index.result.now 1 c.requires

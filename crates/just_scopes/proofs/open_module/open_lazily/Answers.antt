use Rattle.std.proofs.Common.{◌≡◌, ◌∙◌, map, ap, subst, true}
use Rattle.std.specs.HashSet.{contains}
use Rattle.std.specs.List.{Contains}
use Rattle.just_graph.proofs.Members.{is_in}
use Rattle.just_parts.specs.Needs.{same_number}
use Rattle.just_run_layers.specs.Interactions.{HasTrace, both, log_of}
use Rattle.just_scopes.specs.Opening.{all_opened, handed_of, opened_in, opened_of}
use Rattle.just_scopes.specs.Open.{whose_placed}
use Rattle.just_scopes.specs.loops.Preorder.{placed}
use Rattle.just_scopes.proofs.Facts.{can-open, if-both}
use Rattle.just_scopes.proofs.LazyFacts.{are-lazy}
use Rattle.just_scopes.proofs.Standing.{one-order, placed-stand}
use Rattle.just_scopes.proofs.open_module.open_lazily.Goals as goal

pub open_all-requires : goal.open_all-requires
open_all-requires g c = λ p i.
    let ps = map placed c.in_ok-modules.modules.items in
    let here : Contains ps p = subst (λ ms. Contains (map placed ms) p) c.as_slice.ensures.value i in
    can-open c.args.overrides.now c.requires.can_run.2 c.requires.overridden p.justfile (placed-stand true c.args.root.now ps c.in_ok-modules.ensures p (is_in p ps here))

pub returns-clause-took : goal.returns-clause-took
returns-clause-took g c = λ sets needs ps order.
    let root = c.args.root.now in
    let handed = handed_of c.args.config.now c.args.overrides.now in
    let qs = map placed c.as_slice.result.now in
    let value : qs ≡ map placed c.in_ok-modules.modules.items = ap (map placed) c.as_slice.ensures.value in
    let same : qs ≡ ps = value ∙ one-order true root (map placed c.in_ok-modules.modules.items) ps c.in_ok-modules.ensures order in
    subst (λ xs. HasTrace (both (g.E.Evaluation.promised c.args.evaluation.now) (g.H.Host.promised c.args.host.now)) (all_opened sets handed xs) (log_of (g.H.Host.entries c.args.host.now) (g.E.Evaluation.requests c.args.evaluation.now))
    (log_of (g.H.Host.entries c.open_all.new.host) (g.E.Evaluation.requests c.open_all.new.evaluation)) (opened_in c.open_all.result)) same
    (c.open_all.ensures.took sets (λ p i. needs p.justfile (placed-stand true root ps order p (is_in p ps (subst (λ xs. Contains xs p) same i)))))

pub returns-clause-open : goal.returns-clause-open
returns-clause-open g c =
    let ps = map placed c.in_ok-modules.modules.items in
    let value : map placed c.as_slice.result.now ≡ ps = ap (map placed) c.as_slice.ensures.value in
    let run = c.requires.can_run in
    if-both c.open_all.result
    (λ os whose bound. are-lazy run.0 c.args.root.now run.1 run.2 (contains same_number c.args.numbers.now) (handed_of c.args.config.now c.args.overrides.now) ps c.in_ok-modules.ensures (map opened_of os.items)
    (whose ∙ ap (map whose_placed) value) bound)
    c.open_all.ensures.whose c.open_all.ensures.bound

use Rattle.std.proofs.Common.{◌≡◌, ◌∙◌, false, map, ap, subst}
use Rattle.std.specs.HashSet.{contains}
use Rattle.std.specs.List.{Contains}
use Rattle.just_graph.proofs.Members.{is_in}
use Rattle.just_parts.specs.Needs.{same_number}
use Rattle.just_run_layers.specs.Interactions.{HasTrace, both, log_of}
use Rattle.just_scopes.specs.Opening.{all_opened, handed_of, opened_in, opened_of}
use Rattle.just_scopes.specs.Open.{whose_placed}
use Rattle.just_scopes.specs.loops.Preorder.{placed}
use Rattle.just_scopes.proofs.Facts.{are-open, can-open, if-both}
use Rattle.just_scopes.proofs.Needed.{sets-found}
use Rattle.just_scopes.proofs.Standing.{one-order, placed-stand}
use Rattle.just_scopes.proofs.open_module.open_modules.Goals as goal

pub open_all-requires : goal.open_all-requires
open_all-requires g c = λ p i.
    let ps = map placed c.in_ok-modules.modules.items in
    let here : Contains ps p = subst (λ ms. Contains (map placed ms) p) c.as_slice.ensures.value i in
    can-open c.args.overrides.now c.requires.can_run c.requires.overridden p.justfile (placed-stand false c.args.root.now ps c.in_ok-modules.ensures p (is_in p ps here))

pub returns-clause-took : goal.returns-clause-took
returns-clause-took g c = λ sets needs ps order.
    let answers = g.S.Syntax.answers c.args.syntax.now in
    let root = c.args.root.now in
    let handed = handed_of c.args.config.now c.args.overrides.now in
    let qs = map placed c.as_slice.result.now in
    let value : qs ≡ map placed c.in_ok-modules.modules.items = ap (map placed) c.as_slice.ensures.value in
    let same : qs ≡ ps = value ∙ one-order false root (map placed c.in_ok-modules.modules.items) ps c.in_ok-modules.ensures order in
    subst (λ xs. HasTrace (both (g.E.Evaluation.promised c.args.evaluation.now) (g.H.Host.promised c.args.host.now)) (all_opened sets handed xs) (log_of (g.H.Host.entries c.args.host.now) (g.E.Evaluation.requests c.args.evaluation.now))
    (log_of (g.H.Host.entries c.open_all.new.host) (g.E.Evaluation.requests c.open_all.new.evaluation)) (opened_in c.open_all.result)) same
    (c.open_all.ensures.took sets (λ p i.
    sets-found answers root c.args.recipes.now c.args.tops.now (contains same_number c.in_ok-used.used) c.requires.can_run c.in_ok-used.ensures sets needs p.justfile
    (placed-stand false root ps order p (is_in p ps (subst (λ xs. Contains xs p) same i)))))

pub returns-clause-open : goal.returns-clause-open
returns-clause-open g c =
    let answers = g.S.Syntax.answers c.args.syntax.now in
    let ps = map placed c.in_ok-modules.modules.items in
    let value : map placed c.as_slice.result.now ≡ ps = ap (map placed) c.as_slice.ensures.value in
    if-both c.open_all.result
    (λ os whose bound. are-open answers c.args.root.now c.args.recipes.now c.args.tops.now (contains same_number c.in_ok-used.used) (handed_of c.args.config.now c.args.overrides.now) c.requires.can_run c.in_ok-used.ensures ps c.in_ok-modules.ensures (map opened_of os.items)
    (whose ∙ ap (map whose_placed) value) bound)
    c.open_all.ensures.whose c.open_all.ensures.bound

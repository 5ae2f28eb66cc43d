use Rattle.std.proofs.Common.{◌≡◌, ◌∙◌, ◌++◌, [], ◌∷◌, drop, length, map, take, ◌+◌, Some, Ok, Err, refl, sym, ap, subst, arith, rules}
use Rattle.std.specs.HashSet.{contains}
use Rattle.std.specs.List.{slice_get}
use Rattle.std.proofs.lemmas.List.{map-append}
use Rattle.std.proofs.lemmas.Option.{slice_get_read}
use Rattle.just_errors.specs.declared.halt.Halt.TheVariants.{Memory}
use Rattle.just_parts.specs.Needs.{same_number}
use Rattle.just_run_layers.proofs.InteractionLemmas.{keeps-both, keeps-then, took-give, took-out}
use Rattle.just_run_layers.specs.Interactions.{HasTrace, both, log_of}
use Rattle.just_scopes.specs.Opening.{all_opened, around, handed_of, open_steps, opened_in, opened_of, openings}
use Rattle.just_scopes.specs.loops.Preorder.{placed}
use Rattle.just_scopes.proofs.Turning.{IsOpening, at-end, at-place, is-listed, past-place, stops, turns}
use Rattle.just_scopes.proofs.open_module.open_all.Goals as goal

pub open_next-requires : goal.open_next-requires
open_next-requires g c =
    let modules = c.args.modules.now in
    let m = c.index-modules-place.result in
    let used = contains same_number c.args.used.now in
    let handed = handed_of c.args.config.now c.args.overrides.now in
    let opened = map opened_of c.loop-place.opened.items in
    let first = log_of (g.H.Host.entries c.args.host.now) (g.E.Evaluation.requests c.args.evaluation.now) in
    let now = log_of (g.H.Host.entries c.loop-place.host) (g.E.Evaluation.requests c.loop-place.evaluation) in
    let p = both (g.E.Evaluation.promised c.args.evaluation.now) (g.H.Host.promised c.args.host.now) in
    let q = both (g.E.Evaluation.promised c.loop-place.evaluation) (g.H.Host.promised c.loop-place.host) in
    let at : slice_get modules c.loop-place.place ≡ Some m = slice_get_read modules (length modules) c.loop-place.place m refl c.loop-place-test.true c.index-modules-place.is in
    let done = map placed (take c.loop-place.place modules) in
    let more = map placed (drop (c.loop-place.place + 1) modules) in
    let are = at-place used handed p q modules c.loop-place.place m at first now opened c.loop-place.invariant.3 in
    c.requires (placed m) (is-listed used handed p q (map placed modules) done more (placed m) first now opened are)

pub returns-in_err-next-clause-keeps : goal.returns-in_err-next-clause-keeps
returns-in_err-next-clause-keeps g c = keeps-then _ _ _ c.loop-place.invariant.0 c.in_err-next.ensures.keeps

pub returns-in_err-next-clause-keeps_host : goal.returns-in_err-next-clause-keeps_host
returns-in_err-next-clause-keeps_host g c = keeps-then _ _ _ c.loop-place.invariant.1 c.in_err-next.ensures.keeps_host

pub returns-in_err-next-clause-took : goal.returns-in_err-next-clause-took
returns-in_err-next-clause-took g c = λ sets found.
    let modules = c.args.modules.now in
    let m = c.index-modules-place.result in
    let used = contains same_number c.args.used.now in
    let handed = handed_of c.args.config.now c.args.overrides.now in
    let opened = map opened_of c.loop-place.opened.items in
    let first = log_of (g.H.Host.entries c.args.host.now) (g.E.Evaluation.requests c.args.evaluation.now) in
    let now = log_of (g.H.Host.entries c.loop-place.host) (g.E.Evaluation.requests c.loop-place.evaluation) in
    let p = both (g.E.Evaluation.promised c.args.evaluation.now) (g.H.Host.promised c.args.host.now) in
    let q = both (g.E.Evaluation.promised c.loop-place.evaluation) (g.H.Host.promised c.loop-place.host) in
    let at : slice_get modules c.loop-place.place ≡ Some m = slice_get_read modules (length modules) c.loop-place.place m refl c.loop-place-test.true c.index-modules-place.is in
    let done = map placed (take c.loop-place.place modules) in
    let more = map placed (drop (c.loop-place.place + 1) modules) in
    let are = at-place used handed p q modules c.loop-place.place m at first now opened c.loop-place.invariant.3 in
    let mid = log_of (g.H.Host.entries c.open_next.new.host) (g.E.Evaluation.requests c.open_next.new.evaluation) in
    let same : map opened_of c.as_slice.result.now ≡ opened = ap (map opened_of) c.as_slice.ensures.value in
    let out : c.from_residual.result ≡ Err c.in_err-next.field-0.0 = search rules in
    subst (λ r. HasTrace p (all_opened sets handed (map placed modules)) first mid (opened_in r)) (sym out)
    (stops used handed p q (map placed modules) done more (placed m) first now opened are mid c.in_err-next.field-0.0
    (λ sets found. subst (λ os. HasTrace q (open_steps sets handed (placed m) (around os m.parent)) now mid (Err c.in_err-next.field-0.0)) same (c.in_err-next.ensures.took sets found)) sets found)

pub returns-in_err-push-clause-keeps : goal.returns-in_err-push-clause-keeps
returns-in_err-push-clause-keeps g c = keeps-then _ _ _ c.loop-place.invariant.0 c.in_ok-next.ensures.keeps

pub returns-in_err-push-clause-keeps_host : goal.returns-in_err-push-clause-keeps_host
returns-in_err-push-clause-keeps_host g c = keeps-then _ _ _ c.loop-place.invariant.1 c.in_ok-next.ensures.keeps_host

pub returns-in_err-push-clause-took : goal.returns-in_err-push-clause-took
returns-in_err-push-clause-took g c = λ sets found.
    let modules = c.args.modules.now in
    let m = c.index-modules-place.result in
    let used = contains same_number c.args.used.now in
    let handed = handed_of c.args.config.now c.args.overrides.now in
    let opened = map opened_of c.loop-place.opened.items in
    let first = log_of (g.H.Host.entries c.args.host.now) (g.E.Evaluation.requests c.args.evaluation.now) in
    let now = log_of (g.H.Host.entries c.loop-place.host) (g.E.Evaluation.requests c.loop-place.evaluation) in
    let p = both (g.E.Evaluation.promised c.args.evaluation.now) (g.H.Host.promised c.args.host.now) in
    let q = both (g.E.Evaluation.promised c.loop-place.evaluation) (g.H.Host.promised c.loop-place.host) in
    let at : slice_get modules c.loop-place.place ≡ Some m = slice_get_read modules (length modules) c.loop-place.place m refl c.loop-place-test.true c.index-modules-place.is in
    let done = map placed (take c.loop-place.place modules) in
    let more = map placed (drop (c.loop-place.place + 1) modules) in
    let are = at-place used handed p q modules c.loop-place.place m at first now opened c.loop-place.invariant.3 in
    let mid = log_of (g.H.Host.entries c.open_next.new.host) (g.E.Evaluation.requests c.open_next.new.evaluation) in
    let same : map opened_of c.as_slice.result.now ≡ opened = ap (map opened_of) c.as_slice.ensures.value in
    let s = both (g.E.Evaluation.promised c.open_next.new.evaluation) (g.H.Host.promised c.open_next.new.host) in
    let later = opened ++ opened_of c.in_ok-next.next ∷ [] in
    let turned = past-place used handed p q modules c.loop-place.place m at first now opened c.loop-place.invariant.3 s mid later
    (turns used handed p q (map placed modules) done more (placed m) first now opened are s (keeps-both _ _ _ _ c.in_ok-next.ensures.keeps c.in_ok-next.ensures.keeps_host) mid (opened_of c.in_ok-next.next)
    (λ sets found. subst (λ os. HasTrace q (open_steps sets handed (placed m) (around os m.parent)) now mid (Ok (opened_of c.in_ok-next.next))) same (c.in_ok-next.ensures.took sets found))
    c.in_ok-next.ensures.whose c.in_ok-next.ensures.bound later refl) in
    let out : c.from_residual-in_err-push.result ≡ Err Memory = search rules in
    subst (λ r. HasTrace p (all_opened sets handed (map placed modules)) first mid (opened_in r)) (sym out)
    (turned.goes sets found mid (Err Memory) (took-out s (openings sets handed more later) mid mid refl))

pub loop-place-preserved : goal.loop-place-preserved
loop-place-preserved g c =
    let modules = c.args.modules.now in
    let m = c.index-modules-place.result in
    let used = contains same_number c.args.used.now in
    let handed = handed_of c.args.config.now c.args.overrides.now in
    let opened = map opened_of c.loop-place.opened.items in
    let first = log_of (g.H.Host.entries c.args.host.now) (g.E.Evaluation.requests c.args.evaluation.now) in
    let now = log_of (g.H.Host.entries c.loop-place.host) (g.E.Evaluation.requests c.loop-place.evaluation) in
    let p = both (g.E.Evaluation.promised c.args.evaluation.now) (g.H.Host.promised c.args.host.now) in
    let q = both (g.E.Evaluation.promised c.loop-place.evaluation) (g.H.Host.promised c.loop-place.host) in
    let at : slice_get modules c.loop-place.place ≡ Some m = slice_get_read modules (length modules) c.loop-place.place m refl c.loop-place-test.true c.index-modules-place.is in
    let done = map placed (take c.loop-place.place modules) in
    let more = map placed (drop (c.loop-place.place + 1) modules) in
    let are = at-place used handed p q modules c.loop-place.place m at first now opened c.loop-place.invariant.3 in
    let mid = log_of (g.H.Host.entries c.open_next.new.host) (g.E.Evaluation.requests c.open_next.new.evaluation) in
    let same : map opened_of c.as_slice.result.now ≡ opened = ap (map opened_of) c.as_slice.ensures.value in
    let s = both (g.E.Evaluation.promised c.open_next.new.evaluation) (g.H.Host.promised c.open_next.new.host) in
    let later = opened ++ opened_of c.in_ok-next.next ∷ [] in
    let turned = past-place used handed p q modules c.loop-place.place m at first now opened c.loop-place.invariant.3 s mid later
    (turns used handed p q (map placed modules) done more (placed m) first now opened are s (keeps-both _ _ _ _ c.in_ok-next.ensures.keeps c.in_ok-next.ensures.keeps_host) mid (opened_of c.in_ok-next.next)
    (λ sets found. subst (λ os. HasTrace q (open_steps sets handed (placed m) (around os m.parent)) now mid (Ok (opened_of c.in_ok-next.next))) same (c.in_ok-next.ensures.took sets found))
    c.in_ok-next.ensures.whose c.in_ok-next.ensures.bound later refl) in
    let pushed : map opened_of c.push.new.self.items ≡ later = ap (map opened_of) c.in_ok-push.ensures.items ∙ map-append opened_of c.loop-place.opened.items (c.in_ok-next.next ∷ []) in (
      keeps-then _ _ _ c.loop-place.invariant.0 c.in_ok-next.ensures.keeps,
      keeps-then _ _ _ c.loop-place.invariant.1 c.in_ok-next.ensures.keeps_host,
      c.in_ok-next.ensures.nothing_runs ∙ c.loop-place.invariant.2,
      subst (λ os. IsOpening used handed p s (map placed modules) (map placed (take (c.loop-place.place + 1) modules)) more first mid os) (sym pushed) turned,
    )

pub returns-clause-took : goal.returns-clause-took
returns-clause-took g c = λ sets found.
    let modules = c.args.modules.now in
    let used = contains same_number c.args.used.now in
    let handed = handed_of c.args.config.now c.args.overrides.now in
    let opened = map opened_of c.loop-place.opened.items in
    let first = log_of (g.H.Host.entries c.args.host.now) (g.E.Evaluation.requests c.args.evaluation.now) in
    let now = log_of (g.H.Host.entries c.loop-place.host) (g.E.Evaluation.requests c.loop-place.evaluation) in
    let p = both (g.E.Evaluation.promised c.args.evaluation.now) (g.H.Host.promised c.args.host.now) in
    let q = both (g.E.Evaluation.promised c.loop-place.evaluation) (g.H.Host.promised c.loop-place.host) in
    let last : c.loop-place.place ≡ length modules = omega (arith, c.loop-place.auto.place-end, c.loop-place-test.false) in
    let ended = at-end used handed p q modules c.loop-place.place last first now opened c.loop-place.invariant.3 in
    ended.goes sets found now (Ok opened) (took-give q now opened)

pub returns-clause-whose : goal.returns-clause-whose
returns-clause-whose g c =
    let modules = c.args.modules.now in
    let used = contains same_number c.args.used.now in
    let handed = handed_of c.args.config.now c.args.overrides.now in
    let opened = map opened_of c.loop-place.opened.items in
    let first = log_of (g.H.Host.entries c.args.host.now) (g.E.Evaluation.requests c.args.evaluation.now) in
    let now = log_of (g.H.Host.entries c.loop-place.host) (g.E.Evaluation.requests c.loop-place.evaluation) in
    let p = both (g.E.Evaluation.promised c.args.evaluation.now) (g.H.Host.promised c.args.host.now) in
    let q = both (g.E.Evaluation.promised c.loop-place.evaluation) (g.H.Host.promised c.loop-place.host) in
    let last : c.loop-place.place ≡ length modules = omega (arith, c.loop-place.auto.place-end, c.loop-place-test.false) in
    let ended = at-end used handed p q modules c.loop-place.place last first now opened c.loop-place.invariant.3 in
    ended.whose

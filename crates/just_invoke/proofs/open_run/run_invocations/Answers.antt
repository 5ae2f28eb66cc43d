use Rattle.std.proofs.Common.{◌≡◌, ◌∙◌, Result, Ok, Err, map, rules, sym, subst}
use Rattle.just_errors.specs.Halts.{come_to, error_of}
use Rattle.just_errors.specs.declared.halt.Halt.{Halt}
use Rattle.just_execution.specs.declared.run.Report.{Report}
use Rattle.just_justfile.specs.Closed.{is_closed}
use Rattle.just_run_layers.proofs.InteractionLemmas.{keeps-then}
use Rattle.just_run_layers.specs.Interactions.{log_of}
use Rattle.just_scopes.specs.Open.{AreOpenModules, Opens}
use Rattle.just_scopes.specs.Opening.{opened_of, setup_of}
use Rattle.just_invoke.specs.Results.{RunEndsAs, shut}
use Rattle.just_invoke.specs.loops.Outcome.{tops_of}
use Rattle.just_invoke.proofs.Wholes.{comes-to}
use Rattle.just_invoke.proofs.open_run.run_invocations.Goals as goal

pub returns-in_err-opened-clause-comes : goal.returns-in_err-opened-clause-comes
returns-in_err-opened-clause-comes g c =
    let promised = g.E.Evaluation.promised c.args.evaluation.now in
    let answers = g.H.Host.promised c.args.host.now in
    let setup = setup_of (g.S.Syntax.answers c.args.syntax.now) c.args.config.now c.args.overrides.now in
    let old = log_of (g.H.Host.entries c.args.host.now) (g.E.Evaluation.requests c.args.evaluation.now) in
    let new = log_of (g.H.Host.entries c.open_modules.new.host) (g.E.Evaluation.requests c.open_modules.new.evaluation) in
    let e = c.in_err-opened.field-0.0 in
    let is : c.from_residual-in_err-opened.result ≡ Err (error_of e) = search rules in
    shut e is (subst (λ ts. Opens promised answers setup c.args.root.now c.args.recipes.now ts old new (Err e)) (c.as_slice.ensures.value ∙ c.in_ok-tops.ensures.named) c.in_err-opened.ensures.took) c.in_err-opened.ensures.nothing_runs

pub run_open-requires-clause-resolved : goal.run_open-requires-clause-resolved
run_open-requires-clause-resolved g c = (is_closed c.requires.can_run.rooted.closed).resolved

pub returns-in_err-run_open-clause-keeps : goal.returns-in_err-run_open-clause-keeps
returns-in_err-run_open-clause-keeps g c = keeps-then _ _ _ c.in_ok-opened.ensures.keeps c.in_err-run_open.ensures.keeps

pub returns-in_err-run_open-clause-keeps_host : goal.returns-in_err-run_open-clause-keeps_host
returns-in_err-run_open-clause-keeps_host g c = keeps-then _ _ _ c.in_ok-opened.ensures.keeps_host c.in_err-run_open.ensures.keeps_host

pub returns-in_err-run_open-clause-comes : goal.returns-in_err-run_open-clause-comes
returns-in_err-run_open-clause-comes g c =
    let promised = g.E.Evaluation.promised c.args.evaluation.now in
    let later = g.E.Evaluation.promised c.open_modules.new.evaluation in
    let answers = g.H.Host.promised c.args.host.now in
    let after = g.H.Host.promised c.open_modules.new.host in
    let setup = setup_of (g.S.Syntax.answers c.args.syntax.now) c.args.config.now c.args.overrides.now in
    let old = log_of (g.H.Host.entries c.args.host.now) (g.E.Evaluation.requests c.args.evaluation.now) in
    let mid = log_of (g.H.Host.entries c.open_modules.new.host) (g.E.Evaluation.requests c.open_modules.new.evaluation) in
    let new = log_of (g.H.Host.entries c.run_open.new.host) (g.E.Evaluation.requests c.run_open.new.evaluation) in
    let opened = map opened_of c.in_ok-opened.opened.items in
    let root = c.args.root.now in
    let recipes = c.args.recipes.now in
    let ended : Result Report Halt = Err c.in_err-run_open.field-0.0 in
    let is : c.from_residual-in_err-run_open.result ≡ come_to ended = search rules in
    let comes : RunEndsAs promised answers setup root recipes c.in_ok-tops.tops.items old new (come_to ended) =
    comes-to promised later answers after c.in_ok-opened.ensures.keeps c.in_ok-opened.ensures.keeps_host setup root recipes c.in_ok-tops.tops.items opened old mid new ended
    (record { steps = subst (λ ts. Opens promised answers setup root recipes ts old mid (Ok opened)) c.as_slice.ensures.value c.in_ok-opened.ensures.took; are = subst (λ ts. AreOpenModules (g.S.Syntax.answers c.args.syntax.now) root recipes ts opened) c.as_slice.ensures.value c.in_ok-opened.ensures.open; unexecuted = c.in_ok-opened.ensures.nothing_runs }) c.in_err-run_open.ensures.runs in
    subst (λ r. RunEndsAs promised answers setup root recipes (tops_of recipes c.args.invocations.now) old new r) (sym is)
    (subst (λ ts. RunEndsAs promised answers setup root recipes ts old new (come_to ended)) c.in_ok-tops.ensures.named comes)

pub returns-clause-keeps : goal.returns-clause-keeps
returns-clause-keeps g c = keeps-then _ _ _ c.in_ok-opened.ensures.keeps c.in_ok-run_open.ensures.keeps

pub returns-clause-keeps_host : goal.returns-clause-keeps_host
returns-clause-keeps_host g c = keeps-then _ _ _ c.in_ok-opened.ensures.keeps_host c.in_ok-run_open.ensures.keeps_host

pub returns-clause-comes : goal.returns-clause-comes
returns-clause-comes g c =
    let promised = g.E.Evaluation.promised c.args.evaluation.now in
    let later = g.E.Evaluation.promised c.open_modules.new.evaluation in
    let answers = g.H.Host.promised c.args.host.now in
    let after = g.H.Host.promised c.open_modules.new.host in
    let setup = setup_of (g.S.Syntax.answers c.args.syntax.now) c.args.config.now c.args.overrides.now in
    let old = log_of (g.H.Host.entries c.args.host.now) (g.E.Evaluation.requests c.args.evaluation.now) in
    let mid = log_of (g.H.Host.entries c.open_modules.new.host) (g.E.Evaluation.requests c.open_modules.new.evaluation) in
    let new = log_of (g.H.Host.entries c.run_open.new.host) (g.E.Evaluation.requests c.run_open.new.evaluation) in
    let opened = map opened_of c.in_ok-opened.opened.items in
    let root = c.args.root.now in
    let recipes = c.args.recipes.now in
    let ended : Result Report Halt = Ok c.in_ok-run_open.field-0 in
    let is : Ok c.in_ok-run_open.field-0 ≡ come_to ended = search rules in
    let comes : RunEndsAs promised answers setup root recipes c.in_ok-tops.tops.items old new (come_to ended) =
    comes-to promised later answers after c.in_ok-opened.ensures.keeps c.in_ok-opened.ensures.keeps_host setup root recipes c.in_ok-tops.tops.items opened old mid new ended
    (record { steps = subst (λ ts. Opens promised answers setup root recipes ts old mid (Ok opened)) c.as_slice.ensures.value c.in_ok-opened.ensures.took; are = subst (λ ts. AreOpenModules (g.S.Syntax.answers c.args.syntax.now) root recipes ts opened) c.as_slice.ensures.value c.in_ok-opened.ensures.open; unexecuted = c.in_ok-opened.ensures.nothing_runs }) c.in_ok-run_open.ensures.runs in
    subst (λ r. RunEndsAs promised answers setup root recipes (tops_of recipes c.args.invocations.now) old new r) (sym is)
    (subst (λ ts. RunEndsAs promised answers setup root recipes ts old new (come_to ended)) c.in_ok-tops.ensures.named comes)

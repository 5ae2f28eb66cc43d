use Rattle.std.proofs.Common.{◌≡◌, ◌∙◌, [], None, Ok, Err, sym, subst, rules}
use Rattle.just_errors.specs.declared.halt.Halt.TheVariants.{Memory}
use Rattle.std.specs.HashSet.{contains}
use Rattle.just_parts.specs.Needs.{IsClosed, has_number, same_number}
use Rattle.just_justfile.specs.Running.{known_by_tables}
use Rattle.just_run_layers.specs.Evaluation.{config_contents, in_set, set_of}
use Rattle.just_run_layers.specs.Interactions.{HasTrace, both, log_of}
use Rattle.just_scopes.specs.Opening.{handed_of, open_steps}
use Rattle.just_scopes.specs.loops.Opening.{opened_as}
use Rattle.just_scopes.specs.loops.Opens.{IsSetFor, around_as, set_in}
use Rattle.just_scopes.specs.loops.Preorder.{placed}
use Rattle.just_scopes.proofs.Keeping.{dotenv-executes}
use Rattle.just_scopes.proofs.OneOpened.{opens, stops-first, stops-last, stops-out}
use Rattle.just_scopes.proofs.Turning.{set-asked, set-closed}
use Rattle.just_scopes.proofs.open_module.open_module.Goals as goal

pub returns-in_err-dotenv-clause-nothing_runs : goal.returns-in_err-dotenv-clause-nothing_runs
returns-in_err-dotenv-clause-nothing_runs g c =
    dotenv-executes (config_contents c.args.config.now) c.args.entry.now.justfile.now c.args.outer.now.dotenv (both (λ _. None) (g.H.Host.promised c.args.host.now)) _ _ (Err c.in_err-dotenv.field-0.0) (c.in_err-dotenv.ensures.took (λ _. None) [])

pub returns-in_err-dotenv-clause-took : goal.returns-in_err-dotenv-clause-took
returns-in_err-dotenv-clause-took g c = λ sets found.
    let out : c.from_residual.result ≡ Err c.in_err-dotenv.field-0.0 = search rules in
    subst (λ r. HasTrace (both (g.E.Evaluation.promised c.args.evaluation.now) (g.H.Host.promised c.args.host.now)) (open_steps sets (handed_of c.args.config.now c.args.overrides.now) (placed c.args.entry.now) (around_as c.args.outer.now))
    (log_of (g.H.Host.entries c.args.host.now) (g.E.Evaluation.requests c.args.evaluation.now)) (log_of (g.H.Host.entries c.ask_pairs.new.host) (g.E.Evaluation.requests c.args.evaluation.now)) (opened_as r)) (sym out)
    (stops-first (g.E.Evaluation.promised c.args.evaluation.now) (g.H.Host.promised c.args.host.now) (g.H.Host.promised c.ask_pairs.new.host) c.in_err-dotenv.ensures.keeps sets (handed_of c.args.config.now c.args.overrides.now) (placed c.args.entry.now) (around_as c.args.outer.now) _ _ _
    c.in_err-dotenv.field-0.0 c.in_err-dotenv.ensures.took)

pub returns-in_err-set-clause-nothing_runs : goal.returns-in_err-set-clause-nothing_runs
returns-in_err-set-clause-nothing_runs g c =
    dotenv-executes (config_contents c.args.config.now) c.args.entry.now.justfile.now c.args.outer.now.dotenv (both (λ _. None) (g.H.Host.promised c.args.host.now)) _ _ (Ok c.in_ok-dotenv.dotenv) (c.in_ok-dotenv.ensures.took (λ _. None) [])

pub returns-in_err-set-clause-took : goal.returns-in_err-set-clause-took
returns-in_err-set-clause-took g c = λ sets found.
    let out : c.from_residual-in_err-set.result ≡ Err Memory = search rules in
    subst (λ r. HasTrace (both (g.E.Evaluation.promised c.args.evaluation.now) (g.H.Host.promised c.args.host.now)) (open_steps sets (handed_of c.args.config.now c.args.overrides.now) (placed c.args.entry.now) (around_as c.args.outer.now))
    (log_of (g.H.Host.entries c.args.host.now) (g.E.Evaluation.requests c.args.evaluation.now)) (log_of (g.H.Host.entries c.ask_pairs.new.host) (g.E.Evaluation.requests c.args.evaluation.now)) (opened_as r)) (sym out)
    (stops-out (g.E.Evaluation.promised c.args.evaluation.now) (g.H.Host.promised c.args.host.now) (g.H.Host.promised c.ask_pairs.new.host) c.in_ok-dotenv.ensures.keeps sets (handed_of c.args.config.now c.args.overrides.now) (placed c.args.entry.now) (around_as c.args.outer.now) _ _ _
    c.in_ok-dotenv.dotenv c.in_ok-dotenv.ensures.took)

pub ask_scope-requires-clause-closed : goal.ask_scope-requires-clause-closed
ask_scope-requires-clause-closed g c =
    let same : set_of c.as_ref.result ≡ set_in c.in_ok-set.set = search rules in
    subst (λ s. IsClosed (known_by_tables c.args.entry.now.justfile.now) (has_number c.args.overrides.now) (in_set s)) (sym same) (set-closed c.in_ok-set.ensures c.requires)

pub returns-in_err-scope-clause-nothing_runs : goal.returns-in_err-scope-clause-nothing_runs
returns-in_err-scope-clause-nothing_runs g c =
    dotenv-executes (config_contents c.args.config.now) c.args.entry.now.justfile.now c.args.outer.now.dotenv (both (λ _. None) (g.H.Host.promised c.args.host.now)) _ _ (Ok c.in_ok-dotenv.dotenv) (c.in_ok-dotenv.ensures.took (λ _. None) [])

pub returns-in_err-scope-clause-took : goal.returns-in_err-scope-clause-took
returns-in_err-scope-clause-took g c = λ sets found.
    let out : c.from_residual-in_err-scope.result ≡ Err c.in_err-scope.field-0.0 = search rules in
    let same : set_of c.as_ref.result ≡ set_in c.in_ok-set.set = search rules in
    subst (λ r. HasTrace (both (g.E.Evaluation.promised c.args.evaluation.now) (g.H.Host.promised c.args.host.now)) (open_steps sets (handed_of c.args.config.now c.args.overrides.now) (placed c.args.entry.now) (around_as c.args.outer.now))
    (log_of (g.H.Host.entries c.args.host.now) (g.E.Evaluation.requests c.args.evaluation.now)) (log_of (g.H.Host.entries c.ask_pairs.new.host) (g.E.Evaluation.requests c.ask_scope.new.evaluation)) (opened_as r)) (sym out)
    (stops-last (g.E.Evaluation.promised c.args.evaluation.now) (g.H.Host.promised c.args.host.now) (g.H.Host.promised c.ask_pairs.new.host) c.in_ok-dotenv.ensures.keeps sets (handed_of c.args.config.now c.args.overrides.now) (placed c.args.entry.now) (around_as c.args.outer.now) _ _ _
    c.in_ok-dotenv.dotenv c.in_ok-dotenv.ensures.took (set_of c.as_ref.result) (same ∙ set-asked c.in_ok-set.ensures sets found) _ c.in_err-scope.field-0.0 c.in_err-scope.ensures.took)

pub returns-clause-nothing_runs : goal.returns-clause-nothing_runs
returns-clause-nothing_runs g c =
    dotenv-executes (config_contents c.args.config.now) c.args.entry.now.justfile.now c.args.outer.now.dotenv (both (λ _. None) (g.H.Host.promised c.args.host.now)) _ _ (Ok c.in_ok-dotenv.dotenv) (c.in_ok-dotenv.ensures.took (λ _. None) [])

pub returns-clause-took : goal.returns-clause-took
returns-clause-took g c = λ sets found.
    let same : set_of c.as_ref.result ≡ set_in c.in_ok-set.set = search rules in
    opens (g.E.Evaluation.promised c.args.evaluation.now) (g.H.Host.promised c.args.host.now) (g.H.Host.promised c.ask_pairs.new.host) c.in_ok-dotenv.ensures.keeps sets (handed_of c.args.config.now c.args.overrides.now) (placed c.args.entry.now) (around_as c.args.outer.now) _ _ _
    c.in_ok-dotenv.dotenv c.in_ok-dotenv.ensures.took (set_of c.as_ref.result) (same ∙ set-asked c.in_ok-set.ensures sets found) _ c.in_ok-scope.scope c.in_ok-scope.ensures.took

pub returns-clause-bound : goal.returns-clause-bound
returns-clause-bound g c =
    let same : set_of c.as_ref.result ≡ set_in c.in_ok-set.set = search rules in
    record { set = set_of c.as_ref.result; is_set = subst (IsSetFor (contains same_number c.args.used.now) c.args.entry.now.justfile.now c.args.entry.now.is_lazy) (sym same) c.in_ok-set.ensures; binds = c.in_ok-scope.ensures.binds }

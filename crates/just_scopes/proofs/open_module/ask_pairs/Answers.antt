use Rattle.std.proofs.Common.{◌≡◌, ◌++◌, true, Ok, Err, refl, ap, inl, inr, rules}
use Rattle.just_errors.specs.declared.halt.Halt.TheVariants.{Memory}
use Rattle.just_run_layers.specs.Evaluation.{config_contents}
use Rattle.just_run_layers.specs.Host.{Paired, Refused}
use Rattle.just_scopes.proofs.Asking.{dotenv-answered}
use Rattle.just_scopes.proofs.open_module.ask_pairs.Goals as goal

pub returns-in_err-laid_over-in-Ok-clause-took : goal.returns-in_err-laid_over-in-Ok-clause-took
returns-in_err-laid_over-in-Ok-clause-took g c =
    let on : c.args.config.now.load_dotenv ≡ true = search rules in
    let out : c.from_residual.result ≡ Err Memory = search rules in
    dotenv-answered (g.H.Host.promised c.args.host.now) (config_contents c.args.config.now) c.args.justfile.now c.args.before.now _ _ c.folder_for.result.now c.folder_for.ensures on (Paired c.in-Ok.pairs) _ refl c.in-Ok.ensures.answers c.in-Ok.ensures.recorded
    c.from_residual.result (λ p k. (refl, inr out))

pub returns-in_ok-laid_over-in-Ok-clause-took : goal.returns-in_ok-laid_over-in-Ok-clause-took
returns-in_ok-laid_over-in-Ok-clause-took g c =
    let on : c.args.config.now.load_dotenv ≡ true = search rules in
    let all : c.in_ok-laid_over-in-Ok.field-0 ≡ c.args.before.now ++ c.in-Ok.pairs = search rules in
    dotenv-answered (g.H.Host.promised c.args.host.now) (config_contents c.args.config.now) c.args.justfile.now c.args.before.now _ _ c.folder_for.result.now c.folder_for.ensures on (Paired c.in-Ok.pairs) _ refl c.in-Ok.ensures.answers c.in-Ok.ensures.recorded
    (Ok c.in_ok-laid_over-in-Ok.field-0) (λ p k. (refl, inl (ap (λ x. Ok x) all)))

pub returns-in-Err-Fault-clause-took : goal.returns-in-Err-Fault-clause-took
returns-in-Err-Fault-clause-took g c =
    let on : c.args.config.now.load_dotenv ≡ true = search rules in
    dotenv-answered (g.H.Host.promised c.args.host.now) (config_contents c.args.config.now) c.args.justfile.now c.args.before.now _ _ c.folder_for.result.now c.folder_for.ensures on (Refused c.in-Err-Fault.fault.message) _ (search rules) c.in-Err-Fault.ensures.answers c.in-Err-Fault.ensures.recorded
    _ (λ p k. (refl, inl (search rules)))

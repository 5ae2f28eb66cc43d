use Rattle.std.proofs.Common.{◌≡◌, ◌∙◌, Ok, Err, refl, sym, ap, subst, inl, rules}
use Rattle.std.specs.Prelude.{is_some}
use Rattle.just_errors.specs.declared.halt.Halt.TheVariants.{Failed}
use Rattle.just_errors.specs.declared.run_error.RunError.TheVariants.{Evaluate}
use Rattle.just_parts.specs.Known.{sources}
use Rattle.just_parts.specs.Needs.{IsClosed}
use Rattle.just_run_layers.specs.Evaluation.{ContextContents, context_contents_of, in_set, set_of}
use Rattle.just_run_layers.specs.Host.{Refused, ScopeGiven}
use Rattle.just_scopes.specs.Opening.{context_in, handed_of}
use Rattle.just_scopes.proofs.Asking.{scope-asked}
use Rattle.just_scopes.proofs.open_module.ask_scope.Goals as goal

pub assignments-requires-clause-closed : goal.assignments-requires-clause-closed
assignments-requires-clause-closed g c =
    subst (λ (x : ContextContents). IsClosed (sources x.assignments x.functions) (λ n. is_some (x.overrides n)) (in_set (set_of c.args.set))) (sym c.context_of-context.ensures) c.requires.closed

pub returns-in-Ok-clause-took : goal.returns-in-Ok-clause-took
returns-in-Ok-clause-took g c =
    let copy : c.in_ok-clone.field-0 ≡ c.args.dotenv.now = search rules in
    let handed = handed_of c.args.config.now c.args.overrides.now in
    scope-asked (g.E.Evaluation.promised c.args.evaluation.now) handed c.args.justfile.now (set_of c.args.set) c.args.parent.now c.args.dotenv.now (context_contents_of c.context_of-context.result)
    (c.context_of-context.ensures ∙ ap (context_in handed c.args.justfile.now) copy) _ _ (ScopeGiven c.in-Ok.scope) _ refl c.in-Ok.ensures.answers c.in-Ok.ensures.requested (Ok c.in-Ok.scope) (λ p k. (refl, inl refl))

pub returns-clause-took : goal.returns-clause-took
returns-clause-took g c =
    let copy : c.in_ok-clone.field-0 ≡ c.args.dotenv.now = search rules in
    let handed = handed_of c.args.config.now c.args.overrides.now in
    scope-asked (g.E.Evaluation.promised c.args.evaluation.now) handed c.args.justfile.now (set_of c.args.set) c.args.parent.now c.args.dotenv.now (context_contents_of c.context_of-context.result)
    (c.context_of-context.ensures ∙ ap (context_in handed c.args.justfile.now) copy) _ _ (Refused c.in-Err-Fault.fault.message) _ (search rules) c.in-Err-Fault.ensures.answers c.in-Err-Fault.ensures.requested (Err (Failed (Evaluate c.in-Err-Fault.fault))) (λ p k. (refl, inl refl))

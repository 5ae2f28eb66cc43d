use Rattle.std.proofs.Common.{◌≡◌, true, false, Option, Ok, Err, cond, sym, subst, ◌∙◌}
use Rattle.std.specs.Prelude.{Result, flat_map}
use Rattle.std.proofs.lemmas.Bool.{cond-false}
use Rattle.just_errors.specs.declared.halt.Halt.{Halt}
use Rattle.just_errors.specs.declared.halt.Halt.TheVariants.{Failed}
use Rattle.just_errors.specs.declared.run_error.RunError.TheVariants.{NotConfirmed}
use Rattle.just_parts.specs.Scopes.{attribute_expressions, line_expressions, lines_read, in_attributes}
use Rattle.just_run_layers.specs.Covering.{IsCovered, module_of}
use Rattle.just_run_layers.specs.Host.{Answer}
use Rattle.just_run_layers.specs.Interactions.{Return, Log, Question, HasTrace, and_then, both, log_of}
use Rattle.just_run_layers.proofs.InteractionLemmas.{keeps-both, took-fail, took-give, took-then}
use Rattle.just_recipe_body.specs.Body.{BodyContents, body_name}
use Rattle.just_recipe_body.specs.Confirmation.{confirm_steps}
use Rattle.just_recipe_body.proofs.AllLemmas.{all-left}
use Rattle.just_recipe_body.proofs.StepEnds.{took-exit}
use Rattle.just_execution.specs.TaskInteractions.{consent_by, consented}
use Rattle.just_tasks.specs.Scene.{scope_contents_of}
use Rattle.just_execution.proofs.Covered.{body-covered}
use Rattle.just_execution.proofs.consent.ask_consent.Goals as goal

asked : (p : Question → Option Answer) (b : BodyContents) (old new : Log) (r : Result (Unit {0}) Halt) → b.context.config.yes ≡ false → HasTrace p (and_then (confirm_steps b) (consented (body_name b))) old new r →
    HasTrace p (cond b.context.config.yes (Return tt) (and_then (confirm_steps b) (consented (body_name b)))) old new r
asked p b old new r h t = subst (λ s. HasTrace p s old new r) (sym (cond-false b.context.config.yes (Return tt) (and_then (confirm_steps b) (consented (body_name b))) h)) t

pub confirm-requires : goal.confirm-requires
confirm-requires g c =
    let answers = g.S.Syntax.answers c.args.syntax.now in
    let m = c.args.home.now in
    let r = c.args.recipe.now in
    let h = c.args.held.now in
    record { covered = all-left (IsCovered (module_of m.context) h.scope) (in_attributes attribute_expressions r) (flat_map line_expressions (lines_read answers m.context.settings.now r)) (body-covered answers m r h c.requires) }

pub returns-in_err-confirm-clause-took : goal.returns-in_err-confirm-clause-took
returns-in_err-confirm-clause-took g c =
    let p : Question → Option Answer = both (g.E.Evaluation.promised c.args.evaluation.now) (g.H.Host.promised c.args.host.now) in
    let b : BodyContents = consent_by (g.S.Syntax.answers c.args.syntax.now) c.args.task.now c.args.recipe.now (scope_contents_of c.args.home.now) c.args.held.now in
    let r : Result (Unit {0}) Halt = c.from_residual.result in
    asked p b _ _ r c.if-home.false (took-exit p (confirm_steps b) (consented (body_name b)) _ _ c.in_err-confirm.field-0.0 r c.from_residual.ensures.1 c.in_err-confirm.ensures.took)

pub returns-then-branch-clause-took : goal.returns-then-branch-clause-took
returns-then-branch-clause-took g c =
    let p : Question → Option Answer = both (g.E.Evaluation.promised c.args.evaluation.now) (g.H.Host.promised c.args.host.now) in
    let q : Question → Option Answer = both (g.E.Evaluation.promised c.confirm.new.evaluation) (g.H.Host.promised c.confirm.new.host) in
    let b : BodyContents = consent_by (g.S.Syntax.answers c.args.syntax.now) c.args.task.now c.args.recipe.now (scope_contents_of c.args.home.now) c.args.held.now in
    asked p b _ _ (Ok tt) c.if-home.false
    (took-then p q (keeps-both _ _ _ _ c.in_ok-confirm.ensures.keeps c.in_ok-confirm.ensures.keeps_host) (confirm_steps b) (consented (body_name b)) _ _ _ true (Ok tt)
    (rw c.if-branch.true at c.in_ok-confirm.ensures.took) (took-give q _ tt))

pub returns-clause-took : goal.returns-clause-took
returns-clause-took g c =
    let p : Question → Option Answer = both (g.E.Evaluation.promised c.args.evaluation.now) (g.H.Host.promised c.args.host.now) in
    let q : Question → Option Answer = both (g.E.Evaluation.promised c.confirm.new.evaluation) (g.H.Host.promised c.confirm.new.host) in
    let b : BodyContents = consent_by (g.S.Syntax.answers c.args.syntax.now) c.args.task.now c.args.recipe.now (scope_contents_of c.args.home.now) c.args.held.now in
    let old : Log = log_of (g.H.Host.entries c.args.host.now) (g.E.Evaluation.requests c.args.evaluation.now) in
    let new : Log = log_of (g.H.Host.entries c.confirm.new.host) (g.E.Evaluation.requests c.confirm.new.evaluation) in
    let named : c.new.result ≡ body_name b = c.new.ensures ∙ c.lexeme.ensures in
    subst (λ name. HasTrace p (cond b.context.config.yes (Return tt) (and_then (confirm_steps b) (consented (body_name b)))) old new (Err (Failed (NotConfirmed name)))) (sym named)
    (asked p b old new (Err (Failed (NotConfirmed (body_name b)))) c.if-home.false
    (took-then p q (keeps-both _ _ _ _ c.in_ok-confirm.ensures.keeps c.in_ok-confirm.ensures.keeps_host) (confirm_steps b) (consented (body_name b)) old new new false (Err (Failed (NotConfirmed (body_name b))))
    (rw c.if-branch.false at c.in_ok-confirm.ensures.took) (took-fail q new (Failed (NotConfirmed (body_name b))))))

use Rattle.std.proofs.Common.{Bool, Option, Some, sym, subst}
use Rattle.std.specs.Prelude.{Result}
use Rattle.just_errors.specs.declared.halt.Halt.{Halt}
use Rattle.just_paths.specs.declared.modulepath.Modulepath.{Modulepath}
use Rattle.just_run_layers.specs.Host.{Answer}
use Rattle.just_run_layers.specs.Interactions.{Log, Question, HasTrace, and_then, both, log_of}
use Rattle.just_run_layers.proofs.InteractionLemmas.{keeps-then, keeps-self, keeps-both, took-then}
use Rattle.just_recipe_body.specs.Body.{BodyContents, body_contents_of, is_loquacious}
use Rattle.just_recipe_body.proofs.StepEnds.{took-exit}
use Rattle.just_recipe_run.specs.RecipeRun.{body_steps, explain_steps, explained_steps, running_steps}
use Rattle.just_recipe_run.proofs.run.run_recipe.Goals as goal

pub returns-in_err-show_doc-clause-keeps_host : goal.returns-in_err-show_doc-clause-keeps_host
returns-in_err-show_doc-clause-keeps_host g c = keeps-then _ _ _ c.in_ok-show_running.ensures.keeps c.in_err-show_doc.ensures.keeps

pub returns-in_err-show_running-clause-took : goal.returns-in_err-show_running-clause-took
returns-in_err-show_running-clause-took g c =
    let e = g.E.Evaluation.promised c.args.evaluation.now in
    let requests = g.E.Evaluation.requests c.args.evaluation.now in
    let p : Question → Option Answer = both e (g.H.Host.promised c.args.host.now) in
    let b : BodyContents = body_contents_of (g.S.Syntax.answers c.args.body.now.syntax.now) c.args.body.now in
    let r : Result (Unit {0}) Halt = c.from_residual.result in
    let old : Log = log_of (g.H.Host.entries c.args.host.now) requests in
    let new : Log = log_of (g.H.Host.entries c.show_running.new.host) requests in
    subst (λ (path : Option Modulepath). HasTrace p (and_then (running_steps (is_loquacious b.context.config.verbosity) path) (λ _. explain_steps b)) old new r) (sym c.recipe_path.ensures)
    (subst (λ (loud : Bool). HasTrace p (and_then (running_steps loud (Some c.recipe_path.result.now)) (λ _. explain_steps b)) old new r) c.is_loquacious.ensures
    (took-exit p (running_steps c.is_loquacious.result (Some c.recipe_path.result.now)) (λ _. explain_steps b) old new c.in_err-show_running.field-0.0 r c.from_residual.ensures.1 (c.in_err-show_running.ensures.took e requests)))

pub returns-in_err-show_doc-clause-took : goal.returns-in_err-show_doc-clause-took
returns-in_err-show_doc-clause-took g c =
    let e = g.E.Evaluation.promised c.args.evaluation.now in
    let requests = g.E.Evaluation.requests c.args.evaluation.now in
    let p : Question → Option Answer = both e (g.H.Host.promised c.args.host.now) in
    let q : Question → Option Answer = both e (g.H.Host.promised c.show_running.new.host) in
    let b : BodyContents = body_contents_of (g.S.Syntax.answers c.args.body.now.syntax.now) c.args.body.now in
    let r : Result (Unit {0}) Halt = c.from_residual-in_err-show_doc.result in
    let old : Log = log_of (g.H.Host.entries c.args.host.now) requests in
    let mid : Log = log_of (g.H.Host.entries c.show_running.new.host) requests in
    let new : Log = log_of (g.H.Host.entries c.show_doc.new.host) requests in
    subst (λ (path : Option Modulepath). HasTrace p (and_then (running_steps (is_loquacious b.context.config.verbosity) path) (λ _. explain_steps b)) old new r) (sym c.recipe_path.ensures)
    (subst (λ (loud : Bool). HasTrace p (and_then (running_steps loud (Some c.recipe_path.result.now)) (λ _. explain_steps b)) old new r) c.is_loquacious.ensures
    (took-then p q (keeps-both e e _ _ (keeps-self e) c.in_ok-show_running.ensures.keeps) (running_steps c.is_loquacious.result (Some c.recipe_path.result.now)) (λ _. explain_steps b) old mid new tt r (c.in_ok-show_running.ensures.took e requests)
    (took-exit q (explained_steps b.context.config.explain b.recipe.doc) (λ _. body_steps b) mid new c.in_err-show_doc.field-0.0 r c.from_residual-in_err-show_doc.ensures.1 (c.in_err-show_doc.ensures.took e requests))))

pub returns-clause-took : goal.returns-clause-took
returns-clause-took g c =
    let e = g.E.Evaluation.promised c.args.evaluation.now in
    let requests = g.E.Evaluation.requests c.args.evaluation.now in
    let p : Question → Option Answer = both e (g.H.Host.promised c.args.host.now) in
    let q : Question → Option Answer = both e (g.H.Host.promised c.show_running.new.host) in
    let o : Question → Option Answer = both e (g.H.Host.promised c.show_doc.new.host) in
    let b : BodyContents = body_contents_of (g.S.Syntax.answers c.args.body.now.syntax.now) c.args.body.now in
    let r : Result (Unit {0}) Halt = c.run_body.result in
    let old : Log = log_of (g.H.Host.entries c.args.host.now) requests in
    let mid : Log = log_of (g.H.Host.entries c.show_running.new.host) requests in
    let now : Log = log_of (g.H.Host.entries c.show_doc.new.host) requests in
    let new : Log = log_of (g.H.Host.entries c.run_body.new.host) (g.E.Evaluation.requests c.run_body.new.evaluation) in
    subst (λ (path : Option Modulepath). HasTrace p (and_then (running_steps (is_loquacious b.context.config.verbosity) path) (λ _. explain_steps b)) old new r) (sym c.recipe_path.ensures)
    (subst (λ (loud : Bool). HasTrace p (and_then (running_steps loud (Some c.recipe_path.result.now)) (λ _. explain_steps b)) old new r) c.is_loquacious.ensures
    (took-then p q (keeps-both e e _ _ (keeps-self e) c.in_ok-show_running.ensures.keeps) (running_steps c.is_loquacious.result (Some c.recipe_path.result.now)) (λ _. explain_steps b) old mid new tt r (c.in_ok-show_running.ensures.took e requests)
    (took-then q o (keeps-both e e _ _ (keeps-self e) c.in_ok-show_doc.ensures.keeps) (explained_steps b.context.config.explain b.recipe.doc) (λ _. body_steps b) mid now new tt r (c.in_ok-show_doc.ensures.took e requests)
    c.run_body.ensures.took)))

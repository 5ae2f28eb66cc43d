use Rattle.std.proofs.Common.{List, Option, drop}
use Rattle.std.specs.Prelude.{Result}
use Rattle.just_errors.specs.declared.halt.Halt.{Halt}
use Rattle.just_names.specs.Texts.{Text}
use Rattle.just_run_layers.specs.declared.host.Entry.{Entry}
use Rattle.just_run_layers.specs.Host.{Answer, KeepsPromises}
use Rattle.just_run_layers.specs.Interactions.{Log, HasTrace, both, log_of}
use Rattle.just_recipe_body.specs.Body.{body_contents_of}
use Rattle.just_script_body.specs.ScriptBody.{texts_steps}
use Rattle.just_script_body.proofs.ScriptLemmas.{behind_steps}
use Rattle.just_script_body.proofs.lines.ask_texts.Given as goal

abbrev pub invariant-loop-line : goal.invariant-loop-line
invariant-loop-line g l = record {
  keeps : KeepsPromises (g.E.Evaluation.promised l.initial.evaluation) (g.E.Evaluation.promised l.evaluation);
  rest : (h : Entry → Option Answer) (entries : List Entry) (new : Log) (r : Result (List Text) Halt) →
      HasTrace (both (g.E.Evaluation.promised l.evaluation) h) (behind_steps (body_contents_of (g.S.Syntax.answers l.body.syntax.now) l.body) l.texts (drop l.line-index l.lines)) (log_of entries (g.E.Evaluation.requests l.evaluation)) new r →
      HasTrace (both (g.E.Evaluation.promised l.initial.evaluation) h) (texts_steps (body_contents_of (g.S.Syntax.answers l.body.syntax.now) l.body) l.lines) (log_of entries (g.E.Evaluation.requests l.initial.evaluation)) new r;
}

use Rattle.std.proofs.Common.{◌≡◌, List, [], Option, true, false, drop, string_bytes}
use Rattle.std.specs.Prelude.{Result}
use Rattle.just_errors.specs.declared.halt.Halt.{Halt}
use Rattle.just_names.specs.Texts.{Text}
use Rattle.just_run_layers.specs.declared.host.Entry.{Entry}
use Rattle.just_run_layers.specs.Host.{Answer, KeepsPromises}
use Rattle.just_run_layers.specs.Interactions.{Log, HasTrace, both, log_of}
use Rattle.just_recipe_body.specs.Body.{body_contents_of}
use Rattle.just_shell_body.specs.Lines.{lines_text_steps}
use Rattle.just_shell_body.specs.loops.Lines.{TextBeginsGroup}
use Rattle.just_shell_body.proofs.lines.ask_text.Given as goal

abbrev pub invariant-loop-line : goal.invariant-loop-line
invariant-loop-line g l = record {
  keeps : KeepsPromises (g.E.Evaluation.promised l.initial.evaluation) (g.E.Evaluation.promised l.evaluation);
  start : l.continued ≡ false → (l.line-index ≡ 0) × (string_bytes l.text ≡ []);
  later : l.continued ≡ true → TextBeginsGroup (g.S.Syntax.answers l.body.syntax.now) l.body.context.now.settings.now l.lines (string_bytes l.text);
  rest : (h : Entry → Option Answer) (entries : List Entry) (new : Log) (r : Result Text Halt) →
      HasTrace (both (g.E.Evaluation.promised l.evaluation) h) (lines_text_steps (body_contents_of (g.S.Syntax.answers l.body.syntax.now) l.body) l.continued (string_bytes l.text) (drop l.line-index l.lines)) (log_of entries (g.E.Evaluation.requests l.evaluation)) new r →
      HasTrace (both (g.E.Evaluation.promised l.initial.evaluation) h) (lines_text_steps (body_contents_of (g.S.Syntax.answers l.body.syntax.now) l.body) false [] l.lines) (log_of entries (g.E.Evaluation.requests l.initial.evaluation)) new r;
}

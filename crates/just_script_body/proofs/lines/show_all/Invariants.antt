use Rattle.std.proofs.Common.{List, Option, drop}
use Rattle.std.specs.Prelude.{Result}
use Rattle.just_errors.specs.declared.halt.Halt.{Halt}
use Rattle.just_run_layers.specs.Evaluation.{Inquiry, ScopeRequest}
use Rattle.just_run_layers.specs.Host.{Answer, KeepsPromises}
use Rattle.just_run_layers.specs.Interactions.{Log, HasTrace, both, log_of}
use Rattle.just_script_body.specs.ScriptBody.{show_all_steps}
use Rattle.just_script_body.proofs.lines.show_all.Given as goal

abbrev pub invariant-loop-text : goal.invariant-loop-text
invariant-loop-text g l = record {
  keeps : KeepsPromises (g.H.Host.promised l.initial.host) (g.H.Host.promised l.host);
  rest : (e : Inquiry → Option Answer) (requests : List ScopeRequest) (new : Log) (r : Result (Unit {0}) Halt) →
      HasTrace (both e (g.H.Host.promised l.host)) (show_all_steps (drop l.text-index l.texts)) (log_of (g.H.Host.entries l.host) requests) new r →
      HasTrace (both e (g.H.Host.promised l.initial.host)) (show_all_steps l.texts) (log_of (g.H.Host.entries l.initial.host) requests) new r;
}

-- The value of an expression, once nothing is left to do.
use Rattle.std.proofs.Common.{◌≡◌, sym, ◌∙◌, ap, List, [], ◌∷◌, Option, None, Some, Bor}
use Rattle.std.specs.Option.{option_and_then}
use Rattle.just_names.specs.Texts.{Text}
use Rattle.just_ast_expressions.specs.declared.expression.Expression.{Expression}
use Rattle.just_bench_values.specs.Sink.{sent, texts_of}
use Rattle.just_bench_values.specs.loops.Tasks.{ran_tasks, frame_value}
use Rattle.just_bench_values.specs.Values.{Outcome}
use Rattle.just_bench_values.specs.declared.sink.Sink.{Sink}
use Rattle.just_bench_values.specs.declared.sink.Sink.TheVariants as sink
use Rattle.just_bench_values.specs.declared.tasks.Among.{Among}
use Rattle.just_bench_values.specs.declared.tasks.Frame.{Frame}
use Rattle.just_bench_values.specs.declared.tasks.Task.{Task}
use Rattle.just_bench_values.specs.declared.tasks.Task.TheVariants as task
use Rattle.just_bench_values.proofs.Sinks.{texts_sent}

-- a value that goes to a sink of its own
abbrev pub gathered : Outcome → Option Sink
gathered o = option_and_then (λ value. Some (sent (sink.Texts []) value)) o

pub gathered_some : (o : Outcome) (s : Sink) → gathered o ≡ Some s → o ≡ Some (texts_of s)
gathered_some None s is = absurd (cc is)
gathered_some (Some value) s is =
    let same : sent (sink.Texts []) value ≡ s = cc is in
    ap (λ texts. Some texts) (sym (texts_sent value) ∙ ap texts_of same)

-- the one expression of a state
module _ (a : Among) (e : Bor Expression) (tasks : List Task) (f : Frame) (texts : List Text) (only : tasks ≡ task.Value e ∷ []) (empty : texts ≡ []) where
  abbrev value : Outcome
  value = frame_value a f e.now

  gathers : ran_tasks a tasks f (sink.Texts texts) ≡ gathered value
  gathers = ap (λ ts. ran_tasks a ts f (sink.Texts texts)) only
      ∙ (λ i. option_and_then (λ v. Some (sent (sink.Texts (empty i)) v)) (frame_value a f e.now))

  pub whole_some : (s : Sink) → ran_tasks a tasks f (sink.Texts texts) ≡ Some s → value ≡ Some (texts_of s)
  whole_some s is = gathered_some value s (sym gathers ∙ is)

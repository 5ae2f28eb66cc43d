use Rattle.std.proofs.Common.{◌∙◌, ap, refl}
use Rattle.just_bench_values.specs.loops.Tasks.{with_task}
use Rattle.just_bench_values.specs.declared.sink.Sink.TheVariants as sink
use Rattle.just_bench_values.specs.declared.tasks.Task.TheVariants as task
use Rattle.just_bench_values.proofs.Continuing.{goes_argument, none_left}
use Rattle.just_bench_values.proofs.Going.{goes_to, pending, pushed_two}
use Rattle.just_bench_values.proofs.tasks.call.Goals as goal

pub returns-in_default : goal.returns-in_default
returns-in_default c = c.enter.ensures c.args.pending.rest (none_left c.args.pending.rest.now c.in_default.ensures.cases)

pub returns : goal.returns
returns c =
    let p = c.args.pending in
    let s = c.args.state.now in
    let kept = pending p.name c.in-Some.rest p.values in
    goes_to c.args.among.now (with_task (task.Call p) s) _ _ _ _ _ _
    (pushed_two c.in_ok-push-2.ensures c.in_ok-push.ensures (ap (task.Keep kept) c.replace-sink.ensures.value)) refl (c.replace-sink.ensures.after ∙ ap sink.Texts c.new.ensures)
    (goes_argument c.args.among.now s.tasks s.frame s.sink p.rest c.in-Some.rest c.in-Some.next c.in-Some.ensures.cases.0 p.name p.values)

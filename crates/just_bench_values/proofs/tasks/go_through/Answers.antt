use Rattle.std.proofs.Common.{refl}
use Rattle.just_bench_values.specs.loops.Tasks.{with_task}
use Rattle.just_bench_values.specs.declared.tasks.Task.TheVariants as task
use Rattle.just_bench_values.proofs.Continuing.{goes_elements}
use Rattle.just_bench_values.proofs.Going.{goes_to, pushed_two}
use Rattle.just_bench_values.proofs.tasks.go_through.Goals as goal

pub returns : goal.returns
returns c =
    let s = c.args.state.now in
    goes_to c.args.among.now (with_task (task.Elements c.args.elements) s) _ _ _ _ _ _
    (pushed_two c.in_ok-push-2.ensures c.in_ok-push.ensures refl) refl refl
    (goes_elements c.args.among.now s.tasks s.frame s.sink c.args.elements.rest c.in-Some.rest c.in-Some.first c.in-Some.ensures.cases.0)

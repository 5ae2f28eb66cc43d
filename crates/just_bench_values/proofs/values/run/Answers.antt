use Rattle.std.proofs.Common.{sym, ◌∙◌, ap, subst, arith, rules}
use Rattle.just_bench_values.specs.loops.Tasks.{IsPlaceOfOne, left, ran_tasks}
use Rattle.just_bench_values.proofs.Told.{tells_fault}
use Rattle.just_bench_values.proofs.values.run.Goals as goal

pub loop-task-preserved : goal.loop-task-preserved
loop-task-preserved c =
    let a = c.args.among.now in
    let s = c.loop-task.state in
    let goes = c.in_ok-step.ensures in
    record {
      same = goes.same ∙ ap (λ ts. ran_tasks a ts s.frame s.sink) (sym c.in-Some.ensures) ∙ c.loop-task.invariant.same;
      within = λ place there. c.loop-task.invariant.within place (subst (λ ts. IsPlaceOfOne a ts place) (sym c.in-Some.ensures) (goes.within place there));
    }

pub loop-task-smaller : goal.loop-task-smaller
loop-task-smaller c =
    let s = c.loop-task.state in
    omega (arith, c.in_ok-step.ensures.less, ap (λ ts. left c.args.among.now ts s.frame.calls) c.in-Some.ensures)

pub returns-in_err-step : goal.returns-in_err-step
returns-in_err-step c =
    let a = c.args.among.now in
    let s = c.loop-task.state in
    tells_fault (λ none. sym c.loop-task.invariant.same ∙ ap (λ ts. ran_tasks a ts s.frame s.sink) c.in-Some.ensures ∙ none)
    (λ place there. c.loop-task.invariant.within place (subst (λ ts. IsPlaceOfOne a ts place) (sym c.in-Some.ensures) there))
    c.in_err-step.field-0.0 c.in_err-step.ensures.0 c.in_err-step.ensures.1 c.from_residual.result (search rules)

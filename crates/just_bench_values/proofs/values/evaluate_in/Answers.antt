use Rattle.std.proofs.Common.{sym, ◌∙◌, ap, ◌∷◌, Some}
use Rattle.just_bench_values.specs.declared.tasks.Among.{Among}
use Rattle.just_bench_values.specs.declared.tasks.Frame.{Frame}
use Rattle.just_bench_values.specs.declared.tasks.Task.TheVariants as task
use Rattle.just_bench_values.proofs.Whole.{whole_some}
use Rattle.just_bench_values.proofs.values.evaluate_in.Goals as goal

pub returns : goal.returns
returns c =
    let a : Among = record { functions = c.args.functions; constants = c.args.constants } in
    let f : Frame = record { locals = c.args.locals; calls = 64 } in
    whole_some a c.args.expression c.push.new.self f c.new.result (c.in_ok-push.ensures ∙ ap (λ ts. task.Value c.args.expression ∷ ts) c.new-tasks.ensures)
    c.new.ensures c.in_ok-sink.sink c.in_ok-sink.ensures
    ∙ ap (λ texts. Some texts) (sym c.in_ok-into_texts.ensures)

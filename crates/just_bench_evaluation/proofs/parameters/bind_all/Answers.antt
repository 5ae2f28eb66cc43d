use Rattle.std.proofs.Common.{sym, ◌∙◌, arith}
use Rattle.just_run_layers.specs.Evaluation.{context_contents_of}
use Rattle.just_bench_evaluation.specs.Answered.{run_parameters, run_value}
use Rattle.just_bench_evaluation.proofs.Binding.{too_few}
use Rattle.just_bench_evaluation.proofs.Gives.{gives_none}
use Rattle.just_bench_evaluation.proofs.parameters.bind_all.Goals as goal

pub returns-then-place-groups : goal.returns-then-place-groups
returns-then-place-groups c =
    let context = context_contents_of c.args.context.now in
    gives_none (run_parameters context c.args.is_dependency c.args.scope.now c.args.groups.now c.args.parameters.now) c.no_value.result
    (sym c.loop-place.invariant ∙ too_few (run_value context c.args.is_dependency) c.args.parameters.now c.args.groups.now c.loop-place.bound c.loop-place.place c.loop-place-test.true (omega (arith, c.if-place-groups.true)))
    c.no_value.ensures

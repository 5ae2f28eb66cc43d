use Rattle.std.proofs.Common.{◌≡◌, drop}
use Rattle.just_run_layers.specs.Evaluation.{context_contents_of}
use Rattle.just_bench_evaluation.specs.Answered.{run_value}
use Rattle.just_bench_evaluation.specs.Parameters.{bind_all, none_bound_in}
use Rattle.just_bench_evaluation.proofs.parameters.bind_all.Given as goal

abbrev pub invariant-loop-place : goal.invariant-loop-place
invariant-loop-place l =
    let value = run_value (context_contents_of l.context) l.is_dependency in
    bind_all value (drop l.place l.parameters) (drop l.place l.groups) l.bound ≡ bind_all value l.parameters l.groups (none_bound_in l.scope)

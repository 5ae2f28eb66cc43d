use Rattle.std.proofs.Common.{◌≡◌}
use Rattle.just_names.specs.Token.{Place}
use Rattle.just_bench_values.specs.loops.Tasks.{IsPlaceOfOne, left, outcome_of}
use Rattle.just_bench_values.proofs.values.run.Given as goal

abbrev pub invariant-loop-task : goal.invariant-loop-task
invariant-loop-task l = record {
  same : outcome_of l.among l.state ≡ outcome_of l.among l.initial.state;
  within : (place : Place) → IsPlaceOfOne l.among l.state.tasks place → IsPlaceOfOne l.among l.initial.state.tasks place;
}

abbrev pub decreases-loop-task : goal.decreases-loop-task
decreases-loop-task l = left l.among l.state.tasks l.state.frame.calls

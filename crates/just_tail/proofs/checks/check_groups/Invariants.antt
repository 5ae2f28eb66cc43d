use Rattle.std.proofs.Common.{◌≡◌, drop}
use Rattle.just_tail.specs.Words.{as_texts}
use Rattle.just_tail.specs.Checks.{first_unfit}
use Rattle.just_parts.specs.Evaluator.{count_fault_of}
use Rattle.just_tail.proofs.checks.check_groups.Given as goal

abbrev pub invariant-loop-place : goal.invariant-loop-place
invariant-loop-place g l =
    first_unfit (count_fault_of (g.E.ConstantEvaluation.answers l.evaluation) l.recipe) l.parameters (as_texts l.groups)
    ≡ first_unfit (count_fault_of (g.E.ConstantEvaluation.answers l.evaluation) l.recipe) (drop l.place l.parameters) (drop l.place (as_texts l.groups))

use Rattle.std.proofs.Common.{◌≤◌, ◌-◌, length, drop, map}
use Rattle.just_names.specs.Texts.{texts}
use Rattle.just_parts.specs.Evaluator.{count_fault_of}
use Rattle.just_invocations.specs.Split.{Chain, invoked_of}
use Rattle.just_invocations.proofs.invocation_parser.parse_some.Given as goal

abbrev pub invariant-loop-next : goal.invariant-loop-next
invariant-loop-next g l = record {
  within : l.next ≤ length l.words;
  chain : Chain (count_fault_of (g.E.ConstantEvaluation.answers l.evaluation)) l.root l.recipes (texts l.words) (map invoked_of l.invocations.items) (texts (drop l.next l.words));
}

abbrev pub decreases-loop-next : goal.decreases-loop-next
decreases-loop-next g l = length l.words - l.next

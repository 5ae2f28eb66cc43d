use Rattle.std.proofs.Common.{◌≡◌, ◌++◌, length, take, vec_len}
use Rattle.just_tail.specs.Pieces.{letters}
use Rattle.just_tail.specs.Steps.{StepsFollow}
use Rattle.just_tail.specs.Tail.{given_nothing}
use Rattle.just_tail.specs.loops.Reader.{HasRead, HoldsOpen}
use Rattle.just_tail.proofs.options.apply_front.Given as goal

abbrev pub invariant-loop-letter : goal.invariant-loop-letter
invariant-loop-letter l = record {
  count : vec_len l.progress.groups ≡ length l.plan.parameters.now;
  placed : l.progress.placed ≡ l.fn.progress.placed;
  reads : HoldsOpen l.plan.parameters.now l.fn.progress (λ before.
      StepsFollow l.plan.parameters.now before (given_nothing (letters (take l.letter-index l.front)))
      × HasRead l.plan.parameters.now (before ++ given_nothing (letters (take l.letter-index l.front))) l.progress);
}

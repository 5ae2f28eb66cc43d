use Rattle.std.proofs.Common.{◌≡◌, ℕ, [], length, get_or}
use Rattle.just_tail.specs.Words.{as_texts}
use Rattle.just_tail.proofs.groups.empty_groups.Given as goal

abbrev pub invariant-loop : goal.invariant-loop
invariant-loop l = record {
  count : length (as_texts l.groups.items) ≡ l.index;
  each : (j : ℕ) → get_or (as_texts l.groups.items) j [] ≡ [];
}

use Rattle.std.proofs.Common.{◌≡◌, ◌++◌}
use Rattle.just_overrides.specs.Reached.{overrides_meant, unknown}
use Rattle.just_overrides.proofs.application.judge.Given as goal

abbrev pub invariant-loop-key : goal.invariant-loop-key
invariant-loop-key l = record {
  numbers : overrides_meant l.root l.given.entries ≡ l.meant.items ++ overrides_meant l.root l.key-iterator;
  keys : unknown l.root l.given.entries ≡ l.unknown.items ++ unknown l.root l.key-iterator;
}

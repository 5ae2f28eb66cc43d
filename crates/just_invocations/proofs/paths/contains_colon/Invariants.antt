use Rattle.std.proofs.Common.{◌≡◌, drop}
use Rattle.just_invocations.specs.Words.{has_colon}
use Rattle.just_invocations.proofs.paths.contains_colon.Given as goal

abbrev pub invariant-loop-byte : goal.invariant-loop-byte
invariant-loop-byte l = has_colon l.word ≡ has_colon (drop l.byte-index l.byte-items)

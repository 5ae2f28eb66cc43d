use Rattle.std.proofs.Common.{◌≡◌, ◌≤◌, take}
use Rattle.just_errors.specs.Wording as spec
use Rattle.just_errors.proofs.phrases.characters.Given as goal

abbrev pub invariant-loop-byte : goal.invariant-loop-byte
invariant-loop-byte l = (l.count ≡ spec.characters (take l.byte-index l.bytes)) × (l.count ≤ l.byte-index)

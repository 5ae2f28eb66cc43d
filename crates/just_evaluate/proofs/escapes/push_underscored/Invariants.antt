use Rattle.std.proofs.Common.{◌≡◌, ◌++◌, string_bytes}
use Rattle.std.proofs.Math.Utf8.{encodes}
use Rattle.just_evaluate.specs.Lines.{underscored}
use Rattle.just_evaluate.proofs.escapes.push_underscored.Given as goal

abbrev pub invariant-loop-c : goal.invariant-loop-c
invariant-loop-c l = string_bytes l.text ≡ string_bytes l.fn.text ++ underscored (encodes l.yielded)

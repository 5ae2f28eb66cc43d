use Rattle.std.proofs.Common.{◌≡◌, ◌++◌, string_bytes}
use Rattle.std.proofs.Math.Utf8.{encodes}
use Rattle.just_evaluate.specs.Lines.{escaped}
use Rattle.just_evaluate.proofs.escapes.push_escaped.Given as goal

abbrev pub invariant-loop-c : goal.invariant-loop-c
invariant-loop-c l = string_bytes l.text ≡ string_bytes l.fn.text ++ escaped (encodes l.yielded)

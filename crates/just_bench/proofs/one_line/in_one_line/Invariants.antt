use Rattle.std.proofs.Common.{◌≡◌, List, ℕ, string_bytes}
use Rattle.std.proofs.Math.Utf8.{encodes}
use Rattle.just_bench.specs.Writing.{IsInLine}
use Rattle.just_bench.proofs.one_line.in_one_line.Given as goal

abbrev pub invariant-loop-c : goal.invariant-loop-c
invariant-loop-c l = (chars : List ℕ) × IsInLine chars × (string_bytes l.line ≡ encodes chars)

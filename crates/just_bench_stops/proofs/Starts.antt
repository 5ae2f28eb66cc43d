-- Where a line begins.
use Rattle.std.proofs.Common.{◌≡◌, ℕ, ◌+◌, List, arith, subst}
use Rattle.std.specs.Str.{IsCharBoundary}
use Rattle.just_bench_expressions.specs.declared.lines.TextLine.{TextLine}
use Rattle.just_bench_expressions.specs.Lines.{IsLineOf}

-- no character is cut there
pub line_starts : (text : List ℕ) (line : TextLine) → IsLineOf text line → IsCharBoundary text (line.offset + 0)
line_starts text line of = let same : line.offset ≡ line.offset + 0 = omega arith in subst (IsCharBoundary text) same of.starts

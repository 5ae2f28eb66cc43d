-- What was read, with what was seen.
use Rattle.std.proofs.Common.{ℕ, List, ap, Result, Ok, Err}
use Rattle.just_bench_expressions.specs.declared.lexer.Lexeme.{Lexeme}
use Rattle.just_bench_stops.specs.declared.attributes.Seen.{Seen}
use Rattle.just_bench_stops.specs.declared.halt.Halt.{Halt}
use Rattle.just_bench_stops.specs.declared.halt.Halt.TheVariants as halt
use Rattle.just_bench_stops.specs.Attributes.{Sees, with_after, with_seen}
use Rattle.just_bench_stops.specs.Marks.{GoesTo}

pub sees : (r : Result ℕ Halt) (seen : Seen) (it : Result ℕ ℕ) → GoesTo r it → Sees r seen (with_seen seen it)
sees (Ok end) seen it is = ap (with_seen seen) is
sees (Err (halt.At at)) seen it is = ap (with_seen seen) is
sees (Err halt.Memory) seen it is = tt

pub sees_fault : (h : Halt) (seen : Seen) (all : List Lexeme) (it : Result (ℕ × Seen) ℕ) → Sees (Err h) seen it → Sees (Err h) seen (with_after all it)
sees_fault (halt.At at) seen all it is = ap (with_after all) is
sees_fault halt.Memory seen all it is = tt

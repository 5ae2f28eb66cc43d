-- Where reading stops in a part.
use Rattle.std.proofs.Common.{◌≡◌, ℕ, ◌∙◌, ap, Result, Err}
use Rattle.just_bench_stops.specs.declared.halt.Halt.{Halt}
use Rattle.just_bench_stops.specs.declared.halt.Halt.TheVariants as halt
use Rattle.just_bench_stops.specs.Marks.{GoesTo, goes_on_from}

-- where a part stops, so does what follows it
pub fails : (h : Halt) (it : Result ℕ ℕ) (more : ℕ → Result ℕ ℕ) → GoesTo (Err h) it → GoesTo (Err h) (goes_on_from it more)
fails (halt.At at) it more is = ap (λ r. goes_on_from r more) is
fails halt.Memory it more is = tt

pub same_fault : (h : Halt) (it other : Result ℕ ℕ) → it ≡ other → GoesTo (Err h) it → GoesTo (Err h) other
same_fault (halt.At at) it other same is = is ∙ same
same_fault halt.Memory it other same is = tt

-- What private functions say beside `Numbering.antt`.
use Rattle.std.specs.Prelude.{ℕ, ◌^◌, ◌<◌, ◌≤◌, List}
use Rattle.just_parts.specs.Syntax.{AreRising, numbers_of_items}
use Rattle.just_errors.specs.declared.error.Error.{Error}
use Rattle.just_errors.specs.declared.error.Error.TheVariants as error

-- numbers that were given one after another
pub record AreNumberedInTurn (low : ℕ) (given : List ℕ) (high : ℕ) : Type 0 where
  pub rising : AreRising low given high
  pub fits : low ≤ 2 ^ 64 → high ≤ 2 ^ 64

-- why numbers were not given, where so many are wanted, those that were given before among them
abbrev pub Spent : ℕ → Error → Type 0
Spent wanted error.Exhausted = 2 ^ 64 < wanted
Spent wanted error.Memory = Unit {0}
Spent wanted (error.Compile e) = ⊥
Spent wanted (error.Load e) = ⊥
Spent wanted (error.Invocation e) = ⊥
Spent wanted (error.Run e) = ⊥

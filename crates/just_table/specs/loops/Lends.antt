-- What private functions say beside `Lends.antt`.
use Rattle.std.specs.Prelude.{◌≡◌, ℕ, Bool, List, Option}
use Rattle.std.specs.Borrow.{LendsSo, Fml, RattleType, MutBor}
use Rattle.std.specs.declared.cmp.Ordering.{Ordering}
use Rattle.just_table.specs.contracts.table.TableOf.{the_row}
use Rattle.just_table.specs.Entries.{write}

-- a table as a type
abbrev pub table_row : (K V : RattleType) → (K.Denot → List ℕ) → (K.Denot → K.Denot → Ordering) → (K.Denot → K.Denot → Bool) → (K.Denot → K.Denot → Option Ordering) → RattleType
table_row K V text cmp eq partial_cmp =
    the_row K V (record { text = text }) (record { cmp = cmp }) (record { eq = eq }) (record { partial_cmp = partial_cmp })

-- where the result is `Some`, the last value written behind it stands at the key, and else nothing changed
abbrev pub lends_at : (K V : RattleType) → (K.Denot → List ℕ) → (K.Denot → K.Denot → Ordering) → (K.Denot → K.Denot → Bool) → (K.Denot → K.Denot → Option Ordering)
    → MutBor (List (List ℕ × V.Denot)) → List ℕ → Option (MutBor V.Denot) → Fml
lends_at K V text cmp eq partial_cmp s key r =
    LendsSo (table_row K V text cmp eq partial_cmp) V s r (λ n w. n ≡ write key w s.now) (λ n. n ≡ s.now)

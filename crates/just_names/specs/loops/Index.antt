-- What private functions say beside `Index.antt`.
use Rattle.std.specs.Prelude.{◌≢◌, ℕ, ◌<◌, List, [], ◌∷◌, length, Option, None}
use Rattle.just_names.specs.Index.{name_at}

-- the place that is found for a path of one name
abbrev pub place_in : (List ℕ → Option ℕ) → List (List ℕ) → Option ℕ
place_in found [] = None
place_in found (name ∷ []) = found name
place_in found (name ∷ more ∷ names) = None

-- no name stands in both lists
abbrev pub AreApart : List (List ℕ) → List (List ℕ) → Type 0
AreApart names others = (i j : ℕ) → i < length names → j < length others → name_at names i ≢ name_at others j

-- The first of a list.
use Rattle.std.specs.Prelude.{List, [], ◌∷◌, Option, None, Some}

-- the first of a list, if there is one
abbrev pub list_top : {A : Type 0} → List A → Option A
list_top [] = None
list_top (x ∷ rest) = Some x

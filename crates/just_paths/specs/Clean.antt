-- Clean paths.
use Rattle.std.specs.Prelude.{◌≡◌, ℕ, ◌==◌, ◌||◌, Bool, not, List, [], ◌∷◌, IsTrue}
use Rattle.std.specs.List.{list_all, slice_split, before_last}
use Rattle.std.specs.Str.{bytes_eq}

abbrev pub is_slash : ℕ → Bool
is_slash b = b == 47

-- neither empty, nor `.`, nor `..`
abbrev pub is_component : List ℕ → Bool
is_component c = not (bytes_eq c [] || bytes_eq c (46 ∷ []) || bytes_eq c (46 ∷ 46 ∷ []))

-- a slash, and one or more components with a slash between any two
pub record IsClean (path : List ℕ) : Type 0 where
  pub rest : List ℕ
  pub rooted : path ≡ 47 ∷ rest
  pub components : IsTrue (list_all is_component (slice_split is_slash rest))

-- what stands before the last slash, or the root where that is nothing
abbrev pub or_root : List ℕ → List ℕ
or_root [] = 47 ∷ []
or_root (b ∷ bs) = b ∷ bs

-- the folder that a path lies in
abbrev pub folder_of : List ℕ → List ℕ
folder_of path = or_root (before_last is_slash path)

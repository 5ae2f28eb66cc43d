-- What private functions say beside `Wording.antt`.
use Rattle.std.specs.Prelude.{ℕ, ◌+◌, ◌-◌, List, [], ◌∷◌, ◌++◌, codes}
use Rattle.std.specs.List.{flat_map}

-- paths in backquotes, with commas between them
abbrev pub listed_text : List (List ℕ) → List ℕ
listed_text [] = []
listed_text (path ∷ paths) = (codes "`" ++ (path ++ codes "`")) ++ flat_map (λ p. codes ", `" ++ (p ++ codes "`")) paths

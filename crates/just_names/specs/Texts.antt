-- Texts, and texts that are joined.
use Rattle.std.specs.Prelude.{ℕ, Bool, List, [], ◌∷◌, ◌++◌, map, if◌then◌else◌}
use Rattle.std.specs.List.{flat_map}
use Rattle.std.specs.Borrow.{Bor}

abbrev pub Text : Type 0
Text = List ℕ

-- the texts that borrowed words hold
abbrev pub texts : List (Bor Text) → List Text
texts words = map (λ w. w.now) words

-- the texts, with the separator between them
abbrev pub joined : Text → List Text → Text
joined separator [] = []
joined separator (c ∷ cs) = c ++ flat_map (λ d. separator ++ d) cs

abbrev pub separator_of : Bool → Text
separator_of spaced = if spaced then 32 ∷ [] else 58 ∷ 58 ∷ []

-- the text of a path of these components
abbrev pub text_of : List Text → Bool → Text
text_of components spaced = joined (separator_of spaced) components

-- Paths to modules and recipes, as words.
use Rattle.std.specs.Prelude.{◌≡◌, ◌≢◌, ◌⊎◌, Bool, true, false, List, [], ◌∷◌, ◌++◌, IsTrue}
use Rattle.std.specs.List.{AllByRecursion}
use Rattle.just_names.specs.Identifier.{is_identifier}
use Rattle.just_names.specs.Texts.{Text, joined}

abbrev pub AllIdentifiers : List Text → Type 0
AllIdentifiers = AllByRecursion (λ c. IsTrue (is_identifier c))

-- one or more identifiers, joined by `::`
abbrev pub IsWordPath : Text → List Text → Type 0
IsWordPath word components =
    (components ≢ []) × AllIdentifiers components × (word ≡ joined (58 ∷ 58 ∷ []) components)

-- the words are a path of these components: one word is identifiers joined by `::`; of several, or of
-- none, each is an identifier
abbrev pub IsPath : List Text → List Text → Bool → Type 0
IsPath [] components spaced = (components ≡ []) × (spaced ≡ false)
IsPath (word ∷ []) components spaced = IsWordPath word components × (spaced ≡ false)
IsPath (v ∷ w ∷ words) components spaced =
    (components ≡ v ∷ w ∷ words) × AllIdentifiers (v ∷ w ∷ words) × (spaced ≡ true)

-- the words are no path
abbrev pub AreNoPath : List Text → Type 0
AreNoPath words = (components : List Text) (spaced : Bool) → IsPath words components spaced → ⊥

-- the text with one `::` at its end dropped, if it ends in one
abbrev pub DropsEnd : Text → Text → Type 0
DropsEnd word core =
    (word ≡ core ++ 58 ∷ (58 ∷ [])) ⊎ (((front : Text) → word ≢ front ++ 58 ∷ (58 ∷ [])) × (core ≡ word))

abbrev pub IsArgumentPath : Text → List Text → Type 0
IsArgumentPath word components = (core : Text) × DropsEnd word core × IsWordPath core components

-- Words that are paths.
use Rattle.std.specs.Prelude.{Bool, true, false, ◌==◌, [], ◌∷◌}
use Rattle.std.specs.List.{list_any}
use Rattle.just_names.specs.Texts.{Text}
use Rattle.just_paths.specs.Modulepath.{IsWordPath, IsArgumentPath}
use Rattle.just_tail.specs.Words.{Words}

-- a `:` is in the word
abbrev pub has_colon : Text → Bool
has_colon = list_any (λ b. b == 58)

-- there are no words
abbrev pub is_empty : Words → Bool
is_empty [] = true
is_empty (_ ∷ _) = false

-- the word is a path of these names; one `::` is dropped at the end of the last word of the input
abbrev pub IsPathWord : Bool → Text → Words → Type 0
IsPathWord true word names = IsArgumentPath word names
IsPathWord false word names = IsWordPath word names

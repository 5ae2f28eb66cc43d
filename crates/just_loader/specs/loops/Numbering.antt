-- Texts under numbers.
use Rattle.std.specs.Prelude.{◌≡◌, ◌↔◌, ◌⊎◌, ◌≤◌, ℕ, List, [], ◌∷◌, ◌++◌, Option, Some, map, slice_get}
use Rattle.std.specs.HashMap.{get}
use Rattle.std.specs.Str.{bytes_eq}
use Rattle.just_paths.specs.Clean.{IsClean}
use Rattle.just_table.specs.Entries.{find}
use Rattle.just_names.specs.Name.{text_of_name}
use Rattle.just_names.specs.declared.name.Name.{Name}
use Rattle.just_loader.specs.Sources.{Files}
use Rattle.just_loader.specs.declared.sources.SourceFile.{SourceFile}
use Rattle.just_loader.specs.declared.index.Found.{Found}
use Rattle.just_loader.specs.declared.index.NameNumbers.{NameNumbers}

-- the number of a text is its place
abbrev pub IsNumbering : List (List ℕ) → (List ℕ → Option ℕ) → Type 0
IsNumbering texts numbers = (text : List ℕ) (i : ℕ) → (slice_get texts i ≡ Some text) ↔ (numbers text ≡ Some i)

-- a list, or one with the text behind it
abbrev pub HasAlso : List (List ℕ) → List ℕ → List (List ℕ) → Type 0
HasAlso old text new = (new ≡ old) ⊎ (new ≡ old ++ text ∷ [])

-- the paths of files, and the texts of names
abbrev pub paths_of : List SourceFile → List (List ℕ)
paths_of files = map (λ (f : SourceFile). f.path) files

abbrev pub texts_of : List Name → List (List ℕ)
texts_of names = map text_of_name names

-- the paths that are found
abbrev pub paths_found : Found → List (List ℕ)
paths_found found = paths_of found.files.items

-- a file of the source map, under a clean path
abbrev pub IsFile : Files → SourceFile → Type 0
IsFile files f = (find f.path files ≡ Some f) × IsClean f.path

-- files that are found, under their places
pub record AreFound (files : Files) (found : Found) : Type 0 where
  pub numbering : IsNumbering (paths_of found.files.items) (get bytes_eq found.places)
  pub there : (k : ℕ) (f : SourceFile) → slice_get found.files.items k ≡ Some f → IsFile files f

-- the first place of a text
abbrev pub IsFirstAt : List (List ℕ) → List ℕ → ℕ → Type 0
IsFirstAt texts text i = (slice_get texts i ≡ Some text) × ((j : ℕ) → slice_get texts j ≡ Some text → i ≤ j)

-- The number of each text is its first place.
pub record HaveFirst (texts : List (List ℕ)) (numbers : List ℕ → Option ℕ) : Type 0 where
  pub first : (text : List ℕ) (i : ℕ) → numbers text ≡ Some i → IsFirstAt texts text i
  pub each : (text : List ℕ) (k : ℕ) → slice_get texts k ≡ Some text → (i : ℕ) × (numbers text ≡ Some i)

-- names under the numbers of their texts
abbrev pub AreNumbered : NameNumbers → Type 0
AreNumbered names = HaveFirst (texts_of names.names.items) (get bytes_eq names.numbers)

-- a name stands at a place, and the number is that of its text
abbrev pub IsNamed : List Name → ℕ → ℕ → Name → Type 0
IsNamed names number place name = IsFirstAt (texts_of names) (text_of_name name) number × (slice_get names place ≡ Some name)

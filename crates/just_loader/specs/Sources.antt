-- A source map, from clean paths to texts.
use Rattle.std.specs.Prelude.{ℕ, List, [], ◌∷◌, ◌++◌, Option, IsTrue, is_some}
use Rattle.std.specs.List.{All, before_last}
use Rattle.std.specs.Map.{keys_of}
use Rattle.std.specs.Option.{option_map}
use Rattle.just_paths.specs.Clean.{IsClean, is_slash}
use Rattle.just_table.specs.Entries.{find, IsKeyed}
use Rattle.just_loader.specs.declared.sources.SourceFile.{SourceFile}

-- the files under their paths, in the byte order of the paths
abbrev pub Files : Type 0
Files = List (List ℕ × SourceFile)

-- the text of a path
abbrev pub text_at : Files → List ℕ → Option (List ℕ)
text_at files path = option_map (λ (f : SourceFile). f.text) (find path files)

-- each file stands under its own path, which is clean
pub record AreSources (files : Files) : Type 0 where
  pub keyed : IsKeyed (λ (f : SourceFile). f.path) files
  pub clean : All IsClean (keys_of files)

-- the folder of a path, with a slash at its end
abbrev pub folder_prefix : List ℕ → List ℕ
folder_prefix path = before_last is_slash path ++ 47 ∷ []

-- each folder stands under itself
abbrev pub AreFolders : List (List ℕ × List ℕ) → Type 0
AreFolders folders = IsKeyed (λ f. f) folders

-- the folder of each file is held
abbrev pub HoldsFolders : List (List ℕ × List ℕ) → Files → Type 0
HoldsFolders folders files = All (λ path. IsTrue (is_some (find (folder_prefix path) folders))) (keys_of files)

-- Names and paths of names.
use Rattle.std.specs.Prelude.{ℕ, List, [], ◌∷◌, ◌++◌, map, Option, None, Some}
use Rattle.just_names.specs.Token.{lexeme}
use Rattle.just_names.specs.declared.name.Name.{Name}
use Rattle.just_names.specs.declared.name.Namepath.{Namepath}

-- the text of a name
abbrev pub text_of_name : Name → List ℕ
text_of_name name = lexeme name.token

-- the same where there may be none: the empty text then
abbrev pub text_if_named : Option Name → List ℕ
text_if_named None = []
text_if_named (Some name) = text_of_name name

-- the names of a path, first to last
abbrev pub names_of_path : Namepath → List Name
names_of_path path = path.front ++ path.last ∷ []

-- their texts
abbrev pub texts_of_path : Namepath → List (List ℕ)
texts_of_path path = map text_of_name (names_of_path path)

-- a path one name on
abbrev pub extended : Namepath → Name → Namepath
extended path name = record { front = names_of_path path; last = name }

-- the path of a submodule, where the root's module has none
abbrev pub submodule_path : Option Namepath → Name → Namepath
submodule_path None name = record { front = []; last = name }
submodule_path (Some path) name = extended path name

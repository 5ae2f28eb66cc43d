-- The files of a module.
use Rattle.std.specs.Prelude.{◌≡◌, ◌<◌, ◌⊎◌, ◌==◌, ◌||◌, Bool, false, List, [], ◌∷◌, ◌++◌, map, length, Option, None, Some, Result, IfErr, IfOk, is_some, option_map, option_to_list, unwrap_or, codes, if◌then◌else◌}
use Rattle.std.specs.Borrow.{Bor}
use Rattle.std.specs.List.{filter}
use Rattle.std.specs.Map.{keys_of}
use Rattle.std.specs.Str.{bytes_eq, str_eq_ignore_ascii_case}
use Rattle.just_table.specs.Entries.{find}
use Rattle.just_paths.specs.Join.{clean_join}
use Rattle.just_names.specs.Name.{text_of_name}
use Rattle.just_names.specs.Texts.{Text}
use Rattle.just_names.specs.declared.name.Name.{Name}
use Rattle.just_errors.specs.declared.error.Error.{Error}
use Rattle.just_errors.specs.declared.error.Error.TheVariants as error
use Rattle.just_errors.specs.declared.load_error.LoadError.TheVariants as load
use Rattle.just_loader.specs.Sources.{Files}

-- what a text has after a prefix
abbrev pub after : Text → Text → Option Text
after [] text = Some text
after (p ∷ ps) [] = None
after (p ∷ ps) (b ∷ bs) = if p == b then after ps bs else None

-- a folder with a slash at its end
abbrev pub slashed : Text → Text
slashed folder = if bytes_eq folder (47 ∷ []) then folder else folder ++ 47 ∷ []

-- a path from a folder, where it lies below it
abbrev pub relative : Text → Text → Text
relative folder path = unwrap_or (after (slashed folder) path) path

-- the names that a module's file may have in the module's folder
abbrev pub is_module_name : Text → Bool
is_module_name name = bytes_eq name (codes "mod.just") || str_eq_ignore_ascii_case name (codes "justfile") || str_eq_ignore_ascii_case name (codes ".justfile")

abbrev pub is_named_so : Option Text → Bool
is_named_so None = false
is_named_so (Some name) = is_module_name name

-- the path is a folder's and one of those names
abbrev pub is_module_file : Text → Text → Bool
is_module_file folder path = is_named_so (after (slashed folder) path)

-- the files of a folder that are named as the file of a module is, in byte order
abbrev pub files_in : Files → Text → List Text
files_in files folder = filter (is_module_file folder) (keys_of files)

-- the path alone, where it is there
abbrev pub file_at : Files → Text → List Text
file_at files path = if is_some (find path files) then path ∷ [] else []

-- the first list, or the second where that is empty
abbrev pub or_else : List Text → List Text → List Text
or_else [] more = more
or_else (x ∷ xs) more = x ∷ xs

-- the files that a module can have, where `path` is given for it or else by its name, in the order of their components:
-- what lies in the folder `name` stands before `name.just`
abbrev pub candidates : Files → Text → Text → Option Text → List Text
candidates files parent name (Some path) = or_else (file_at files (clean_join parent path)) (files_in files (clean_join parent path))
candidates files parent name None = files_in files (clean_join parent name) ++ file_at files (clean_join parent (name ++ codes ".just"))

-- the same of the module with a name, where a path may be lent
abbrev pub module_files : Files → Text → Name → Option (Bor Text) → List Text
module_files files parent name path = candidates files parent (text_of_name name) (option_map (λ p. p.now) path)

-- there are several, all of which are told; or memory is refused
abbrev pub TellsSeveral : Text → Name → List Text → Error → Type 0
TellsSeveral parent name found e = (e ≡ error.Memory) ⊎ ((1 < length found) × (e ≡ error.Load (load.AmbiguousModuleFile name (map (relative parent) found))))

-- The file of a module is found, or none, where there is one candidate at most; of several all are told.
pub record FindsModuleFile (files : Files) (parent : Text) (name : Name) (path : Option (Bor Text)) (result : Result (Option Text) Error) : Type 0 where
  pub found : IfOk result (λ file. option_to_list file ≡ module_files files parent name path)
  pub error : IfErr result (TellsSeveral parent name (module_files files parent name path))

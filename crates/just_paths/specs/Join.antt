-- Where a text leads from a folder.
use Rattle.std.specs.Prelude.{◌-◌, Bool, false, List, [], ◌∷◌, ◌++◌, length, take, if◌then◌else◌}
use Rattle.std.specs.List.{fold, slice_split}
use Rattle.std.specs.Str.{bytes_eq}
use Rattle.just_paths.specs.Clean.{is_slash, is_component}
use Rattle.just_names.specs.Texts.{Text, joined}

-- one component on: `..` takes away the last one, and nothing at the root, and an empty one and `.` change nothing
abbrev pub step : List Text → Text → List Text
step front c = if is_component c then front ++ c ∷ [] else (if bytes_eq c (46 ∷ 46 ∷ []) then take (length front - 1) front else front)

-- a text on, component by component
abbrev pub led : List Text → Text → List Text
led front text = fold step front (slice_split is_slash text)

abbrev pub is_rooted : Text → Bool
is_rooted [] = false
is_rooted (b ∷ bs) = is_slash b

-- a text from a folder: the text alone where it begins with a slash
abbrev pub whole : Text → Text → Text
whole folder text = if is_rooted text then text else folder ++ 47 ∷ text

-- the path of components
abbrev pub path_of_components : List Text → Text
path_of_components components = 47 ∷ joined (47 ∷ []) components

-- the path to which a text leads from a folder
abbrev pub clean_join : Text → Text → Text
clean_join folder text = path_of_components (led [] (whole folder text))

-- Paths that a user may have meant.
use Rattle.std.specs.Prelude.{Bool, List, filter}
use Rattle.std.specs.Map.{keys_of}
use Rattle.std.specs.Str.{str_eq_ignore_ascii_case, trim}
use Rattle.just_loader.specs.Sources.{Files}
use Rattle.just_names.specs.Texts.{Text}

-- two paths are equal but for white space around them and the case of ASCII letters
abbrev pub are_alike : Text → Text → Bool
are_alike path other = str_eq_ignore_ascii_case (trim path) (trim other)

-- the paths of the files that are like a path
abbrev pub paths_like : Files → Text → List Text
paths_like files path = filter (are_alike path) (keys_of files)

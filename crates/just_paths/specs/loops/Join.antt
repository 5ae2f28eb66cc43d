-- What private functions say beside `Join.antt`.
use Rattle.std.specs.Prelude.{◌-◌, [], if◌then◌else◌}
use Rattle.just_names.specs.Texts.{Text}
use Rattle.just_paths.specs.Join.{is_rooted}

-- what stands before a text: nothing where it begins with a slash
abbrev pub start_of : Text → Text → Text
start_of folder text = if is_rooted text then [] else folder

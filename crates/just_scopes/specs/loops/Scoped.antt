-- For the private functions: the open modules by their paths, as recipes run in them.
use Rattle.std.specs.Prelude.{◌≡◌, List, Some}
use Rattle.std.specs.Option.{option_map}
use Rattle.just_tasks.specs.Homes.{Modules, module_scope_at}
use Rattle.just_tasks.specs.Scene.{contents_found}
use Rattle.just_paths.specs.declared.modulepath.Modulepath.{Modulepath}
use Rattle.just_scopes.specs.Opening.{Handed, Opened, opened_contents, opened_at}

-- under each path is what recipes run by in the open module of that path
abbrev pub AreModulesOf : Handed → List Opened → Modules → Type 0
AreModulesOf handed opened modules = (path : Modulepath) → contents_found (module_scope_at modules (Some path)) ≡ option_map (opened_contents handed) (opened_at path opened)

-- How a module is called.
use Rattle.std.specs.Prelude.{ℕ, List}
use Rattle.just_names.specs.Name.{text_if_named}
use Rattle.just_justfile.specs.declared.justfile.Justfile.{Justfile, out-Justfile}

-- the name of a module, the empty text of the root's
abbrev pub module_name : Justfile → List ℕ
module_name justfile = text_if_named (out-Justfile justfile).name

use Rattle.std.proofs.Common.{◌≡◌, ◌++◌, map}
use Rattle.std.specs.List.{filter}
use Rattle.just_ast_definitions.specs.declared.alias.Alias.{Alias}
use Rattle.just_justfile.specs.declared.justfile.Justfile.{out-Justfile}
use Rattle.just_names.specs.declared.number.Number.{Number}
use Rattle.just_paths.specs.declared.modulepath.Modulepath.{Modulepath}
use Rattle.just_listings.specs.Public.{alias_behind, is_public_alias}
use Rattle.just_listings.proofs.recursive.add_aliases.Given as goal

abbrev pub invariant-loop-alias : goal.invariant-loop-alias
invariant-loop-alias l =
    map alias_behind l.found.items
    ≡ map alias_behind l.initial.found.items
    ++ map {B = Alias Number × Modulepath} (λ alias. (alias, (out-Justfile l.justfile).module_path)) (filter is_public_alias (map (λ alias. alias.now) l.yielded))

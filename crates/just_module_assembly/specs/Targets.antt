-- What the aliases of a module lead through and to.
use Rattle.just_module_assembly.specs.declared.justfiles.OwnRecipes.{OwnRecipes}
use Rattle.just_module_assembly.specs.declared.justfiles.Surroundings.{Surroundings}
use Rattle.just_module_aliases.specs.Aliased.{Targets, alias_targets}

-- what those of a module with these surroundings and recipes lead through and to
abbrev pub own_targets : Surroundings → OwnRecipes → Targets
own_targets it own = alias_targets it.notes.absent_modules own.disabled it.modules own.keys

-- The names of the modules in a module to which a component leads.
use Rattle.std.proofs.Common.{◌≡◌, List, [], ◌∷◌, Option, Some, None, subst}
use Rattle.std.specs.Option.{option_and_then, option_or}
use Rattle.just_ast_definitions.specs.declared.alias.Alias.{Alias}
use Rattle.just_names.specs.Texts.{Text}
use Rattle.just_paths.specs.declared.modulepath.Modulepath.{Modulepath}
use Rattle.just_table.specs.Entries.{find}
use Rattle.just_justfile.proofs.Leading.{along_walk, end_ordered, named_ordered}
use Rattle.just_justfile.specs.Walks.{AreModulesOrdered, inner_along, module_named}
use Rattle.just_justfile.specs.declared.justfile.Justfile.{Justfile, out-Justfile}
use Rattle.just_evaluate.specs.Destination.{submodule_aliased, submodule_named}

along_ordered : (root j : Justfile) (names : List Text) → AreModulesOrdered root → inner_along root names ≡ Some j → AreModulesOrdered j
along_ordered root j [] order e = let same : root ≡ j = cc in subst AreModulesOrdered same order
along_ordered root j (name ∷ names) order e = end_ordered (name ∷ names) (out-Justfile root).absent_modules (out-Justfile root).modules j order (along_walk root j name names e)

alias_ordered : (root k : Justfile) (o : Option (Alias Modulepath)) → AreModulesOrdered root → option_and_then (λ (alias : Alias Modulepath). inner_along root alias.target.components) o ≡ Some k → AreModulesOrdered k
alias_ordered root k None order e = cc
alias_ordered root k (Some alias) order e = along_ordered root k alias.target.components order e

either : (first second : Option Justfile) (k : Justfile) (P : Justfile → Type 0) → (first ≡ Some k → P k) → (second ≡ Some k → P k) → option_or first second ≡ Some k → P k
either None second k P f g e = g e
either (Some j) second k P f g e = f e

-- in a module to which a component leads the names of the modules rise
pub named_in_order : (root here k : Justfile) (name : Text) → AreModulesOrdered root → AreModulesOrdered here → submodule_named root here name ≡ Some k → AreModulesOrdered k
named_in_order root here k name root_order here_order e =
    either (module_named name (out-Justfile here).modules) (submodule_aliased root here name) k AreModulesOrdered
    (named_ordered name (out-Justfile here).modules k here_order) (alias_ordered root k (find name (out-Justfile here).aliases.modules) root_order) e

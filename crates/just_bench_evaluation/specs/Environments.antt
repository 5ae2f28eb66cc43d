-- What programs have in their environment.
use Rattle.std.specs.Prelude.{Bool, ◌||◌, List, [], ◌∷◌, ◌++◌, map, Some, None, if◌then◌else◌}
use Rattle.std.specs.List.{flat_map}
use Rattle.just_ast_expressions.specs.declared.scope.Binding.{Binding}
use Rattle.just_ast_expressions.specs.declared.scope.Scope.{Scope}
use Rattle.just_ast_expressions.specs.declared.settings.Settings.{Settings}
use Rattle.just_names.specs.Name.{text_of_name}
use Rattle.just_names.specs.declared.name.Name.{Name}
use Rattle.just_run_layers.specs.declared.environment.EnvironmentChange.{EnvironmentChange}
use Rattle.just_run_layers.specs.declared.environment.EnvironmentPair.{EnvironmentPair}
use Rattle.just_bench_values.specs.Values.{one_text}

-- a pair as it stands
abbrev pub pair_change : EnvironmentPair → EnvironmentChange
pair_change pair = record { name = pair.name; value = Some pair.value }

-- a binding with its value as one text
abbrev pub exported : Binding → EnvironmentChange
exported b = record { name = text_of_name b.name; value = Some (one_text b.value) }

-- the same where recipes have it in their environment: where it is exported, or all are
abbrev pub binding_changes : Bool → Binding → List EnvironmentChange
binding_changes all b = if all || b.export then exported b ∷ [] else []

-- a name that is removed
abbrev pub removal : Name → EnvironmentChange
removal name = record { name = text_of_name name; value = None }

-- the pairs of dotenv files, the bindings that are exported, and the names that are not, each in order
abbrev pub environment_changes : List EnvironmentPair → Scope → Settings → List Name → List EnvironmentChange
environment_changes dotenv scope settings unexports =
    map pair_change dotenv ++ flat_map (binding_changes settings.export) scope.bindings ++ map removal unexports

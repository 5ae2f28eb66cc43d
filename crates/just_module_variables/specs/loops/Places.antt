-- The nodes that expressions lead to, by the places that the code keeps.
use Rattle.std.specs.Prelude.{◌≡◌, ℕ, ◌+◌, ◌<◌, ◌^◌, Bool, List, Some}
use Rattle.std.specs.HashMap.{get}
use Rattle.std.specs.Str.{bytes_eq}
use Rattle.just_names.specs.Texts.{Text}
use Rattle.just_ast_references.specs.Mentions.{Mention}
use Rattle.just_parts.specs.Scopes.{Scoped}
use Rattle.just_module_variables.specs.loops.Steps.{target_of, node_targets}
use Rattle.just_module_variables.specs.declared.nodes.Places.{Places}

abbrev pub target_in : Places → (Text → Bool) → Mention → List ℕ
target_in places = target_of (get bytes_eq places.variables) (get bytes_eq places.functions) places.count

abbrev pub targets_in : Places → Scoped → List ℕ
targets_in places = node_targets (get bytes_eq places.variables) (get bytes_eq places.functions) places.count

-- the nodes of functions are numbers that the code can hold
abbrev pub Fit : Places → Type 0
Fit places = (name : Text) (place : ℕ) → get bytes_eq places.functions name ≡ Some place → places.count + place < 2 ^ 64

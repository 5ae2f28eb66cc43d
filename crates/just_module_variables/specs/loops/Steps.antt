-- Variables and functions as nodes of a graph: the places of the variables, and behind them those of the functions.
use Rattle.std.specs.Prelude.{◌≡◌, ℕ, ◌+◌, ◌<◌, Bool, true, false, List, [], ◌++◌, map, length, replicate, slice_index, Option, option_to_list, if◌then◌else◌}
use Rattle.std.specs.List.{All, flat_map}
use Rattle.std.specs.Map.{keys_of, values_of}
use Rattle.std.specs.Option.{option_map}
use Rattle.std.specs.declared.alloc.Global.{Global}
use Rattle.std.specs.declared.vec.Vec.{Vec}
use Rattle.just_names.specs.Index.{IsIndex, name_at}
use Rattle.just_names.specs.Texts.{Text}
use Rattle.just_ast_references.specs.Mentions.{Calls, Mention, Names}
use Rattle.just_parts.specs.Scopes.{Scoped}
use Rattle.just_parts.specs.loops.Scopes.{body_scoped, value_scoped}
use Rattle.just_parts.specs.Known.{Known}
use Rattle.just_parts.specs.Misnaming.{IsCircleOf}
use Rattle.just_parts.specs.Reading.{IsEvaluationOrder, mentions}

-- the expressions of the nodes: the values, then the bodies
abbrev pub nodes_of : Known → List Scoped
nodes_of m = map value_scoped (values_of m.assignments) ++ map body_scoped (values_of m.functions)

-- the names of the variables, and those of the functions
abbrev pub variables_of : Known → List Text
variables_of m = keys_of m.assignments

abbrev pub functions_of : Known → List Text
functions_of m = keys_of m.functions

-- marks that tell the variables from the functions
abbrev pub solid_of : Known → List Bool
solid_of m = replicate (length m.assignments) true ++ replicate (length m.functions) false

-- the node that a mention leads to, where variables and functions are found at these places
abbrev pub target_of : (Text → Option ℕ) → (Text → Option ℕ) → ℕ → (Text → Bool) → Mention → List ℕ
target_of variable function count hidden (Names name) = if hidden name then [] else option_to_list (variable name)
target_of variable function count hidden (Calls name arguments) = option_to_list (option_map (λ place. count + place) (function name))

-- the nodes that an expression leads to, in the order of its calls and variables
abbrev pub node_targets : (Text → Option ℕ) → (Text → Option ℕ) → ℕ → Scoped → List ℕ
node_targets variable function count s = flat_map (target_of variable function count s.hidden) (mentions s.expression)

-- the names of variables at places
abbrev pub variable_names_at : Known → List ℕ → List Text
variable_names_at m = map (name_at (variables_of m))

-- the rows of a graph as lists
abbrev pub rows_of : List (Vec ℕ Global) → List (List ℕ)
rows_of = map (λ row. row.items)

-- the rows of the nodes, where variables and functions are found at these places
pub record AreNodeRows (m : Known) (rows : List (List ℕ)) : Type 0 where
  pub variable : Text → Option ℕ
  pub function : Text → Option ℕ
  pub variables : IsIndex (variables_of m) variable
  pub functions : IsIndex (functions_of m) function
  pub are : rows ≡ map (node_targets variable function (length m.assignments)) (nodes_of m)

-- a circle of variables, by their places
pub record IsCircleAt (m : Known) (places : List ℕ) : Type 0 where
  pub inside : All (λ place. place < length m.assignments) places
  pub circle : IsCircleOf m (name_at (variables_of m) (slice_index places 0)) (variable_names_at m places)

-- an evaluation order of variables, by their places
pub record IsOrderAt (m : Known) (places : List ℕ) : Type 0 where
  pub inside : All (λ place. place < length m.assignments) places
  pub order : IsEvaluationOrder m (variable_names_at m places)

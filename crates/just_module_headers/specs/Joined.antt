-- The files of modules, by the places of their own files.
use Rattle.std.specs.Prelude.{◌≡◌, ◌<◌, ◌⊎◌, ℕ, List, [], ◌∷◌, length, flat_map, nat_eq}
use Rattle.std.specs.List.{All}
use Rattle.just_graph.specs.Graph.{HasEdge, IsGraph, targets}
use Rattle.just_graph.specs.Steps.{IsOrder, Reached}
use Rattle.just_graph.specs.Levels.{AreLevels}
use Rattle.just_module_headers.specs.declared.join.Joined.{Joined}
use Rattle.just_module_headers.specs.declared.files.Rows.{Rows}

-- rows of so many files, whose places lead to places
pub record AreGraphs (rows : Rows) (n : ℕ) : Type 0 where
  pub imports : length rows.imports.items ≡ n
  pub modules : length rows.modules.items ≡ n
  pub import_graph : IsGraph rows.imports.items
  pub module_graph : IsGraph rows.modules.items

-- the files of the module whose own file this is, in join order, and the own files of the modules that these declare
pub record IsJoined (rows : Rows) (joined : Joined) (place : ℕ) : Type 0 where
  pub files : AreLevels nat_eq (targets rows.imports.items) place (targets joined.files.items place)
  pub modules : targets joined.modules.items place ≡ flat_map (targets rows.modules.items) (targets joined.files.items place)

-- that much of each file, or nothing
pub record AreJoined (rows : Rows) (n : ℕ) (joined : Joined) : Type 0 where
  pub files : length joined.files.items ≡ n
  pub modules : length joined.modules.items ≡ n
  pub each : (a : ℕ) → ((targets joined.files.items a ≡ []) × (targets joined.modules.items a ≡ [])) ⊎ IsJoined rows joined a

-- The modules that are reached from the root's are joined, and listed, those in a module before it.
pub record AreArranged (rows : Rows) (root : ℕ) (joined : Joined) (order : List ℕ) : Type 0 where
  pub all : AreJoined rows (length rows.imports.items) joined
  pub root_joined : IsJoined rows joined root
  pub inner_joined : (a b : ℕ) → HasEdge rows.modules.items a b → IsJoined rows joined b
  pub ordered : IsOrder (HasEdge joined.modules.items) (length joined.modules.items) (root ∷ []) order
  pub reached : All (Reached (HasEdge joined.modules.items) (root ∷ []) []) order

-- modules in a module lie deeper than it
abbrev pub GoDeeper : Joined → Type 0
GoDeeper joined = (depth : ℕ → ℕ) × ((a b : ℕ) → HasEdge joined.modules.items a b → depth a < depth b)

-- Files by their places and names by their numbers.
use Rattle.std.specs.Prelude.{◌==◌, ℕ, not, false, List, [], ◌∷◌, map, filter, get_or, slice_get}
use Rattle.std.specs.Option.{option_and_then, option_map}
use Rattle.just_graph.specs.Unfolding.{Node}
use Rattle.just_graph.specs.declared.unfolding.Step.{Step}
use Rattle.just_names.specs.Texts.{Text}
use Rattle.just_parts.specs.Asts.{AstKey}
use Rattle.just_loader.specs.Keys.{FileNode, FileStep}
use Rattle.just_loader.specs.loops.Numbering.{texts_of}
use Rattle.just_loader.specs.loops.Scanned.{paths_in}
use Rattle.just_loader.specs.declared.scan_result.Scan.{Scan}

-- the path of the file at a place, and the text of a name under its number
abbrev pub scanned_path : Scan → ℕ → Text
scanned_path scan place = get_or (paths_in scan.files.items) place []

abbrev pub scanned_name : Scan → ℕ → Text
scanned_name scan number = get_or (texts_of scan.names.items) number []

-- the key of a file in a group, in texts
abbrev pub key_at : Scan → List ℕ → ℕ → AstKey
key_at scan path place = (record { components = map (scanned_name scan) path; spaced = false }, scanned_path scan place)

-- a step and a node by texts
abbrev pub text_step : Scan → Step → FileStep
text_step scan s = record {
  to = scanned_path scan s.target;
  offset = s.offset;
  enters = option_map (scanned_name scan) s.enters;
  name = option_and_then (λ (number : ℕ). slice_get scan.names.items s.tag) s.enters;
}

abbrev pub file_node : Scan → Node → FileNode
file_node scan n = record { path = map (scanned_name scan) n.path; node = scanned_path scan n.node; offsets = n.offsets; trail = map (text_step scan) n.trail }

-- each number once, at its first place
abbrev pub at_first_places : List ℕ → List ℕ
at_first_places [] = []
at_first_places (x ∷ xs) = x ∷ filter (λ y. not (y == x)) (at_first_places xs)

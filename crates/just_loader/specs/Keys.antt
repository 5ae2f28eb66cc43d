-- What a file imports and which modules it declares, and the keys of files: the path of a module, and a file of it.
use Rattle.std.specs.Prelude.{◌≡◌, ℕ, false, List, [], ◌∷◌, map, unwrap_or, ◌<◌, ◌≤◌, ◌^◌, Option, None, Some}
use Rattle.std.specs.List.{Contains, flat_map, sum_by}
use Rattle.std.specs.Option.{option_map}
use Rattle.just_graph.specs.Unfolding.{AreFirstOf, KeyOf, KeyStepsOf, NodeOf}
use Rattle.just_graph.specs.Unfolded.{AreDistinct}
use Rattle.just_parts.specs.Asts.{AstKey}
use Rattle.just_paths.specs.Clean.{folder_of}
use Rattle.just_ast_items.specs.Edge.{Edge, Imports, Declares, edge_of}
use Rattle.just_names.specs.Name.{text_of_name}
use Rattle.just_names.specs.declared.name.Name.{Name}
use Rattle.just_names.specs.Texts.{Text}
use Rattle.just_parts.specs.Items.{Item}
use Rattle.just_errors.specs.Causes.{Cause, Keeps, NoFile, NoNumber}
use Rattle.just_loader.specs.FileCircles.{BreaksCircle}
use Rattle.just_loader.specs.Links.{Link, Unlinked, To, AtFault}
use Rattle.just_loader.specs.Reached.{World, items_of_file, link, relative_to_root, BreaksInScan}
use Rattle.just_loader.specs.Sources.{text_at}

-- the items of the file at a path
abbrev pub items_at : World → Text → List Item
items_at w f = unwrap_or (items_of_file w f) []

-- where a link leads, if it does
abbrev pub end_of_link : Link → List Text
end_of_link Unlinked = []
end_of_link (To path) = path ∷ []
end_of_link (AtFault cause) = []

-- A step from a file: where it leads, the offset of the quoted text of an import, and of the module that it enters the text of its name and the name of
-- the item that declares it; an import enters none.
pub record FileStep : Type 0 where
  pub to : Text
  pub offset : ℕ
  pub enters : Option Text
  pub name : Option Name

-- the step of an item, by where it leads
abbrev pub steps_by : Option Edge → Link → List FileStep
steps_by (Some (Imports literal optional)) l = map (λ path. record { to = path; offset = literal.token.offset; enters = None; name = None }) (end_of_link l)
steps_by (Some (Declares name literal optional)) l =
    map (λ path. record { to = path; offset = 0; enters = Some (text_of_name name); name = Some name }) (end_of_link l)
steps_by None l = []

-- the steps of the items of a file, in order
abbrev pub steps_of_file : World → Text → List FileStep
steps_of_file w f = flat_map (λ i. steps_by (edge_of i) (link w (folder_of f) i)) (items_at w f)

-- the path of a module, and a file of it
abbrev pub FileKey : Type 0
FileKey = KeyOf Text Text

-- the root file, in the root's module
abbrev pub root_file_key : World → FileKey
root_file_key w = record { path = []; node = w.root }

-- that many steps lead from one key to another: what a file imports is of its module, and the file of a declared module of that
abbrev pub FileKeySteps : World → FileKey → FileKey → ℕ → Type 0
FileKeySteps w = KeyStepsOf (λ (s : FileStep). s.to) (λ (s : FileStep). s.enters) (steps_of_file w)

-- steps lead to the key from the root's
abbrev pub IsKey : World → FileKey → Type 0
IsKey w k = (d : ℕ) × FileKeySteps w (root_file_key w) k d

-- that many steps lead to the key from the root's, and no fewer do
abbrev pub IsLeastFileDepth : World → FileKey → ℕ → Type 0
IsLeastFileDepth w k d = FileKeySteps w (root_file_key w) k d × ((m : ℕ) → FileKeySteps w (root_file_key w) k m → d ≤ m)

-- a node of the unfolding of the root file: its key, the offsets of the imports since its module was entered, and the steps that lead to it
abbrev pub FileNode : Type 0
FileNode = NodeOf Text Text FileStep

-- the first node of each key in the preorder of the root file's unfolding
abbrev pub AreFirstFiles : World → List FileNode → Type 0
AreFirstFiles w = AreFirstOf (λ (s : FileStep). s.to) (λ (s : FileStep). s.offset) (λ (s : FileStep). s.enters) (steps_of_file w) w.root

-- the key under which what a file says is held, and the key of the file
abbrev pub ast_key : FileKey → AstKey
ast_key k = (record { components = k.path; spaced = false }, k.node)

-- how many numbers the text of the file at a path takes
abbrev pub spends_at : World → Text → ℕ
spends_at w f = unwrap_or (option_map (w.answers.spends (relative_to_root w f)) (text_at w.files f)) 0

-- What is broken in the group of files: the root is no file, a reached file is at fault, one leads back to itself, or where no file is at fault and none leads back the texts of some keys take more numbers than there are.
pub data BreaksFiles (w : World) : Cause → Type 0 where
  no_root : {path : Text} → text_at w.files w.root ≡ None → w.root ≡ path → BreaksFiles w (NoFile path)
  at_fault : {c : Cause} → BreaksInScan w c → BreaksFiles w c
  in_circle : {c : Cause} → BreaksCircle w c → BreaksFiles w c
  too_many : Keeps (BreaksInScan w) → Keeps (BreaksCircle w) → (keys : List FileKey) → AreDistinct keys → ((k : FileKey) → Contains keys k → IsKey w k) → 2 ^ 64 < sum_by (λ (k : FileKey). spends_at w k.node) keys → BreaksFiles w NoNumber

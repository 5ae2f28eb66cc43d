-- The steps of loading: how each node's file comes in, and what its text says.
use Rattle.std.specs.Prelude.{◌≡◌, ℕ, ◌+◌, ◌<◌, ◌≤◌, ◌^◌, List, [], ◌∷◌, ◌++◌, map, take, length, slice_get, Option, Some, None}
use Rattle.std.specs.List.{All, sum_by}
use Rattle.just_graph.specs.Unfolding.{Node, AreFirst, offsets_after, steps}
use Rattle.just_graph.specs.Unfolded.{AreLeast, AllTold, IsUnfolded}
use Rattle.just_graph.specs.declared.unfolding.Step.{Step}
use Rattle.just_graph.specs.declared.unfolding.Unfolded.{Unfolded}
use Rattle.just_parts.specs.Bare.{bare_ast}
use Rattle.just_paths.specs.Clean.{folder_of}
use Rattle.just_parts.specs.Syntax.{SyntaxAnswers, AreNoConstants, AttributesNameParameters, IsFrom, PriorsAreDependencies, components_of, numbers_of_items}
use Rattle.just_names.specs.Texts.{Text}
use Rattle.just_parts.specs.Items.{Ast, Item}
use Rattle.just_errors.specs.declared.error.Error.{Error}
use Rattle.just_errors.specs.declared.error.Error.TheVariants as error
use Rattle.just_source.specs.declared.source.Source.{Source}
use Rattle.just_loader.specs.Keys.{spends_at}
use Rattle.just_loader.specs.Loaded.{CameIn, IsAstOf, names_in, names_on, with_path}
use Rattle.just_loader.specs.loops.Placed.{scanned_path, file_node, scanned_name, text_step}
use Rattle.just_loader.specs.Reached.{World, ast_of, link}
use Rattle.just_loader.specs.loops.Scanned.{ArePlacesOf, IsScan, paths_in}
use Rattle.just_loader.specs.declared.scan_result.Scan.{Scan}

-- The scan is of a world where the syntax layer answers so.
pub record IsScanBy (w : World) (scan : Scan) (answers : SyntaxAnswers) : Type 0 where
  pub is_scan : IsScan w scan
  pub same : w.answers ≡ answers

-- The elements tell the first node of each key with its least depth, which is below their number.
pub record AreUnfolded (scan : Scan) (us : List Unfolded) : Type 0 where
  pub unfolded : IsUnfolded (steps scan.rows.items) 0 us
  pub depths : AreLeast (steps scan.rows.items) 0 us
  pub shallow : (k : ℕ) (u : Unfolded) → slice_get us k ≡ Some u → u.depth < length us

-- what holds in each world that the scan is of
abbrev pub InWorlds : Scan → SyntaxAnswers → (World → Type 0) → Type 0
InWorlds scan answers P = (w : World) → IsScanBy w scan answers → P w

-- the nodes that the elements tell
abbrev pub AreNodes : Scan → List Unfolded → List Node → Type 0
AreNodes scan us ns = AreFirst (steps scan.rows.items) 0 ns × AllTold (steps scan.rows.items) us ns

-- the path of a group after a step, and the folder of its file
abbrev pub components_after : Scan → List Text → Option ℕ → List Text
components_after scan components None = components
components_after scan components (Some number) = components ++ scanned_name scan number ∷ []

abbrev pub folder_after : Text → Option ℕ → Text → Text
folder_after folder None path = folder
folder_after folder (Some number) path = folder_of path

-- How the file that a step leads to comes in, from how the file of the step did. Its depth is set later.
pub record ComesNext (scan : Scan) (before : Source) (s : Step) (source : Source) : Type 0 where
  pub chain : source.file_path ≡ before.file_path ++ scanned_path scan s.target ∷ []
  pub offsets : source.import_offsets ≡ offsets_after before.import_offsets s.offset s.enters
  pub components : components_of source.namepath ≡ components_after scan (components_of before.namepath) s.enters
  pub names : names_in source.namepath ≡ names_in before.namepath ++ names_on (text_step scan s ∷ [])
  pub path : source.path ≡ scanned_path scan s.target
  pub folder : source.working_directory ≡ folder_after before.working_directory s.enters (scanned_path scan s.target)

-- how a node's file came in, in each world that the scan is of
abbrev pub CameInWorlds : Scan → Node → Source → Type 0
CameInWorlds scan n source = (w : World) → IsScan w scan → CameIn w (file_node scan n) source

-- how the files of the first nodes came in
abbrev pub CameInSoFar : Scan → List Node → List Source → Type 0
CameInSoFar scan ns sources = (k : ℕ) (n : Node) (source : Source) → slice_get ns k ≡ Some n → slice_get sources k ≡ Some source → CameInWorlds scan n source

-- how the file of the node at a place came in
abbrev pub CameInAt : Scan → List Unfolded → ℕ → Source → Type 0
CameInAt scan us place source = (ns : List Node) (n : Node) → AreNodes scan us ns → slice_get ns place ≡ Some n → CameInWorlds scan n source

-- how the file of each node came in
pub record AreNodeSources (scan : Scan) (ns : List Node) (sources : List Source) : Type 0 where
  pub count : length sources ≡ length ns
  pub came : CameInSoFar scan ns sources

-- What the text at a path says, where its file came in like that.
pub record IsSaid (w : World) (path : Text) (source : Source) (ast : Ast) : Type 0 where
  pub parsed : Ast
  pub from : IsFrom source parsed
  pub said : ast_of w path ≡ Some (bare_ast parsed)
  pub items : ast.items ≡ map (with_path w (folder_of path)) parsed.items
  pub rest : ast ≡ record parsed { items = ast.items }

-- What the syntax layer keeps of the items of a text, wherever they lead: no recipe has more priors than dependencies, attributes fit, and no number is a constant's.
pub record KeepsLaws (answers : SyntaxAnswers) (ast : Ast) : Type 0 where
  pub priors : All PriorsAreDependencies ast.items
  pub attributes : All AttributesNameParameters ast.items
  pub constants : AreNoConstants answers.constant (numbers_of_items ast.items)

-- what the texts of the first nodes say
abbrev pub AreParsedSoFar : World → Scan → List Node → List Ast → Type 0
AreParsedSoFar w scan ns asts = (k : ℕ) (n : Node) (ast : Ast) → slice_get ns k ≡ Some n → slice_get asts k ≡ Some ast → IsAstOf w (file_node scan n) ast

-- what the text of each node says
pub record AreParsed (w : World) (scan : Scan) (ns : List Node) (asts : List Ast) : Type 0 where
  pub count : length asts ≡ length ns
  pub each : AreParsedSoFar w scan ns asts

-- how many numbers the texts of elements take
abbrev pub spent_by : World → Scan → List Unfolded → ℕ
spent_by w scan us = sum_by (λ (u : Unfolded). spends_at w (scanned_path scan u.node)) us

-- Memory is refused, or numbers run out: those that were given before, and those of the text.
abbrev pub StopsAt : ℕ → ℕ → Error → Type 0
StopsAt given spends (error.Load e) = ⊥
StopsAt given spends (error.Compile e) = ⊥
StopsAt given spends (error.Invocation e) = ⊥
StopsAt given spends (error.Run e) = ⊥
StopsAt given spends error.Exhausted = 2 ^ 64 < given + spends
StopsAt given spends error.Memory = Unit {0}

-- the same of the text of the file at a place
abbrev pub StopsInFile : Scan → SyntaxAnswers → ℕ → ℕ → Error → Type 0
StopsInFile scan answers place given e = InWorlds scan answers (λ w. StopsAt given (spends_at w (scanned_path scan place)) e)

-- the same of the first texts of elements together, after those that were given before
abbrev pub Stops : World → Scan → List Unfolded → ℕ → Error → Type 0
Stops w scan us given (error.Load e) = ⊥
Stops w scan us given (error.Compile e) = ⊥
Stops w scan us given (error.Invocation e) = ⊥
Stops w scan us given (error.Run e) = ⊥
Stops w scan us given error.Exhausted = (k : ℕ) × (k ≤ length us) × (2 ^ 64 < given + spent_by w scan (take k us))
Stops w scan us given error.Memory = Unit {0}

-- items with the paths of the files at the places beside them
abbrev pub HavePaths : Scan → List (Option ℕ) → List Item → List Item → Type 0
HavePaths scan targets items made = (w : World) (folder : Text) → ArePlacesOf (paths_in scan.files.items) (map (link w folder) items) targets → made ≡ map (with_path w folder) items

-- what the text of each node says, in each world that the scan is of
abbrev pub AreParsedBy : SyntaxAnswers → Scan → List Unfolded → List Ast → Type 0
AreParsedBy answers scan us asts = (w : World) (ns : List Node) → IsScanBy w scan answers → AreNodes scan us ns → AreParsed w scan ns asts

-- What the keys of a compilation hold, and what loading answers.
use Rattle.std.specs.Prelude.{◌≡◌, ℕ, not, false, List, [], ◌∷◌, map, filter, Option, None, Some, Result, IfOk, IfErr}
use Rattle.std.specs.HashMap.{get}
use Rattle.std.specs.List.{All, Contains, filter_map}
use Rattle.std.specs.Str.{bytes_eq}
use Rattle.just_graph.specs.Unfolding.{HasKeyOf, key_of}
use Rattle.just_parts.specs.Asts.{AstKey, same_ast_key}
use Rattle.just_parts.specs.Bare.{bare_ast}
use Rattle.just_errors.specs.Causes.{Keeps, Reports}
use Rattle.just_paths.specs.Clean.{folder_of}
use Rattle.just_ast_items.specs.Edge.{with_absolute}
use Rattle.just_parts.specs.Syntax.{AreNoConstants, AreRising, AttributesNameParameters, IsFrom, PriorsAreDependencies, components_of, numbers_of_items}
use Rattle.just_names.specs.Texts.{Text}
use Rattle.just_names.specs.Name.{names_of_path}
use Rattle.just_names.specs.declared.name.Name.{Name}
use Rattle.just_names.specs.declared.name.Namepath.{Namepath}
use Rattle.just_parts.specs.Items.{Ast, Item}
use Rattle.just_errors.specs.declared.error.Error.{Error}
use Rattle.just_source.specs.declared.source.Source.{Source}
use Rattle.just_loader.specs.Keys.{AreFirstFiles, FileKey, FileNode, FileStep, IsKey, IsLeastFileDepth, BreaksFiles, ast_key}
use Rattle.just_loader.specs.Links.{Link, Unlinked, To, AtFault}
use Rattle.just_loader.specs.Reached.{World, ast_of, link, relative_to_root}
use Rattle.just_loader.specs.declared.loaded.Loaded.{Loaded}

-- the file that is entered, or the one that was
abbrev pub entered : {A X : Type 0} → A → Option X → A → A
entered own None target = own
entered own (Some name) target = target

-- the file that steps entered last: that of the module in which they end
abbrev pub own_after : Text → List FileStep → Text
own_after own [] = own
own_after own (s ∷ ss) = own_after (entered own s.enters s.to) ss

-- the names of a module's path; the root has none
abbrev pub names_in : Option Namepath → List Name
names_in None = []
names_in (Some path) = names_of_path path

-- the names of the items that declare the modules that steps enter
abbrev pub names_on : List FileStep → List Name
names_on = filter_map (λ (s : FileStep). s.name)

-- How a node's file came in: the files of its trail, the offsets since its module was entered, that module, named by the items that declare it,
-- the folder of the module's own file, and the least depth of its key.
pub record CameIn (w : World) (n : FileNode) (source : Source) : Type 0 where
  pub chain : source.file_path ≡ w.root ∷ map (λ (s : FileStep). s.to) n.trail
  pub offsets : source.import_offsets ≡ n.offsets
  pub components : components_of source.namepath ≡ n.path
  pub names : names_in source.namepath ≡ names_on n.trail
  pub path : source.path ≡ n.node
  pub folder : source.working_directory ≡ folder_of (own_after w.root n.trail)
  pub depth : IsLeastFileDepth w (key_of n) source.file_depth

-- where a link leads
abbrev pub path_of_link : Link → Option Text
path_of_link Unlinked = None
path_of_link (To path) = Some path
path_of_link (AtFault cause) = None

-- an item with the absolute path of what it leads to
abbrev pub with_path : World → Text → Item → Item
with_path w folder i = with_absolute (path_of_link (link w folder i)) i

-- What a node's text says, as it came in, with the absolute paths of what it leads to; all else is as the text says.
pub record IsAstOf (w : World) (n : FileNode) (ast : Ast) : Type 0 where
  pub source : Source
  pub came : CameIn w n source
  pub parsed : Ast
  pub from : IsFrom source parsed
  pub said : ast_of w n.node ≡ Some (bare_ast parsed)
  pub items : ast.items ≡ map (with_path w (folder_of n.node)) parsed.items
  pub rest : ast ≡ record parsed { items = ast.items }

-- Numbers tell all definitions apart: those of a text rise, and no number is in two texts.
pub record AreToldApart (asts : AstKey → Option Ast) : Type 0 where
  pub rising : (k : AstKey) (ast : Ast) → asts k ≡ Some ast → (low : ℕ) × (high : ℕ) × AreRising low (numbers_of_items ast.items) high
  pub apart : (k l : AstKey) (a b : Ast) (n : ℕ) → asts k ≡ Some a → asts l ≡ Some b → same_ast_key k l ≡ false → Contains (numbers_of_items a.items) n → Contains (numbers_of_items b.items) n → ⊥

-- each text once, at its first place
abbrev pub at_first : List Text → List Text
at_first [] = []
at_first (x ∷ xs) = x ∷ filter (λ y. not (bytes_eq y x)) (at_first xs)

-- What is loaded: the first node of each key of files, what each key holds, and the relative paths of the files in the order of loading.
pub record IsLoaded (w : World) (asts : AstKey → Option Ast) (loaded : List Text) : Type 0 where
  pub nodes : List FileNode
  pub first : AreFirstFiles w nodes
  pub keys : (k : FileKey) → IsKey w k → HasKeyOf nodes k
  pub held : (n : FileNode) → Contains nodes n → (ast : Ast) × (asts (ast_key (key_of n)) ≡ Some ast) × IsAstOf w n ast
  pub only : (k : AstKey) (ast : Ast) → asts k ≡ Some ast → (n : FileNode) × Contains nodes n × (ast_key (key_of n) ≡ k)
  pub constants : (k : AstKey) (ast : Ast) → asts k ≡ Some ast → AreNoConstants w.answers.constant (numbers_of_items ast.items)
  pub numbers : AreToldApart asts
  pub priors : (k : AstKey) (ast : Ast) → asts k ≡ Some ast → All PriorsAreDependencies ast.items
  pub attributes : (k : AstKey) (ast : Ast) → asts k ≡ Some ast → All AttributesNameParameters ast.items
  pub loaded_is : loaded ≡ map (relative_to_root w) (at_first (map (λ (n : FileNode). n.node) nodes))

-- What loading answers: no rule of files is broken, and the files are loaded; or a rule that is broken.
pub record Loads (w : World) (result : Result Loaded Error) : Type 0 where
  pub kept : IfOk result (λ _. Keeps (BreaksFiles w))
  pub loaded : IfOk result (λ (l : Loaded). IsLoaded w (get same_ast_key l.asts) l.loaded)
  pub named : IfErr result (Reports (BreaksFiles w))

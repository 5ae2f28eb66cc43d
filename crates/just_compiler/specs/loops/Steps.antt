-- Modules that are compiled one after another, by the places of their own files.
use Rattle.std.specs.Prelude.{◌≡◌, ◌<◌, ◌++◌, ℕ, Bool, List, [], map, flat_map, length, slice_get, slice_index, take, Option, None, Some, false}
use Rattle.std.specs.List.{All, Contains}
use Rattle.std.specs.declared.alloc.Global.{Global}
use Rattle.std.specs.declared.vec.Vec.{Vec}
use Rattle.just_graph.specs.Graph.{HasEdge, targets}
use Rattle.just_graph.specs.Steps.{IsOnce, ListsStepsFirst}
use Rattle.just_parts.specs.Asts.{AstKey}
use Rattle.just_errors.specs.Causes.{Cause}
use Rattle.just_names.specs.Texts.{Text}
use Rattle.just_paths.specs.declared.modulepath.Modulepath.{Modulepath}
use Rattle.just_module_contents.specs.declared.labels.Label.{Label}
use Rattle.just_ast_definitions.specs.declared.assignment.Assignment.{Assignment}
use Rattle.just_parts.specs.Layers.{Given, layers_at}
use Rattle.just_parts.specs.Items.{Ast, Item}
use Rattle.just_justfile.specs.declared.justfile.Justfile.{Justfile, out-Justfile}
use Rattle.just_compiled.specs.Analysis.{HasDefault, IsOf}
use Rattle.just_compiled.specs.loops.Analysis.{HasLinks}
use Rattle.just_compiled.specs.Evaluated.{IsEvaluatedTo}
use Rattle.just_names.specs.Index.{AreDifferent}
use Rattle.just_ast_expressions.specs.declared.expression.Expression.{Expression}
use Rattle.just_module_contents.specs.Constants.{Evaluated, value_among}
use Rattle.just_module_contents.specs.Contents.{texts_of_named}
use Rattle.just_module_headers.specs.Analyzable.{assignment_numbers}
use Rattle.just_module_headers.specs.Files.{asts_in, keys_in}
use Rattle.just_compiled.specs.Labelled.{by_name, notes_in, slot, with_labels}
use Rattle.just_compiled.specs.Justfiles.{Made}
use Rattle.just_compiler.specs.declared.modules.Gathered.{Gathered}
use Rattle.just_module_assembly.specs.loops.Noted.{notes_of_place}
use Rattle.just_compiled.specs.Variables.{HasTables, HasVariables}
use Rattle.just_module_contents.specs.Groups.{BreaksContents, KeepsContents, Links}
use Rattle.just_module_contents.specs.Kept.{kept_recipes}
use Rattle.just_module_contents.specs.Named.{recipes_by, said_from, variable_by}
use Rattle.just_module_contents.specs.Resolved.{HasPriors, unresolved_numbers}
use Rattle.just_module_recipes.specs.Links.{Around, around_recipes}
use Rattle.just_module_recipes.specs.loops.Links.{around_of, links_by, told_by}
use Rattle.just_names.specs.declared.name.Name.{Name}
use Rattle.just_recipe.specs.declared.dependency.Dependency.{Dependency}
use Rattle.just_recipe.specs.declared.dependency.UnresolvedDependency.{UnresolvedDependency}
use Rattle.just_recipe.specs.declared.recipe.Recipe.{Recipe}
use Rattle.just_module_headers.specs.OfPlaces.{namings_of_place}
use Rattle.just_module_headers.specs.loops.OfPlaces.{contents_of_place, labels_of_place, recipes_of_place}
use Rattle.just_module_headers.specs.declared.files.Files.{Files}
use Rattle.just_module_headers.specs.declared.join.Joined.{Joined}

-- the path of the module of a file
abbrev pub path_in : Option Ast → Modulepath
path_in None = record { components = []; spaced = false }
path_in (Some ast) = ast.module_path

-- that of the file at a place
abbrev pub path_at : Files → ℕ → Modulepath
path_at files p = path_in (slice_get (asts_in files) p)

-- the recipes of the module at a place that are kept
abbrev pub kept_of_place : (Item → Bool) → Files → Joined → ℕ → List (Recipe UnresolvedDependency)
kept_of_place enabled files joined p = kept_recipes (recipes_of_place enabled files joined p)

-- all groups of the module at a place are kept with these links, or a rule of one is broken, or more is told of the last groups
abbrev pub KeepsPlace : Given → Files → Joined → ℕ → Links → Type 0
KeepsPlace given files joined p links = KeepsContents (layers_at given (path_at files p)) links (contents_of_place given.syntax.enabled files joined p)

abbrev pub BreaksPlace : Given → Files → Joined → ℕ → Links → Links → Cause → Type 0
BreaksPlace given files joined p links told = BreaksContents (layers_at given (path_at files p)) links told (contents_of_place given.syntax.enabled files joined p)

-- the names of labels
abbrev pub names_of_labels : List Label → List (Option Name)
names_of_labels = map (λ (l : Label). l.name)

-- what there is around the recipes of the module at a place, whose paths lead through these justfiles, under labels, where these recipes are held
abbrev pub around_place : Given → Files → Joined → ℕ → List Justfile → List Label → List (Recipe Dependency) → Around
around_place given files joined p inner labels held = around_recipes (notes_of_place given.syntax.enabled files joined p).absent_modules (by_name (with_labels inner labels)) held

-- What an error may tell of the module at a place, whose paths lead through the justfiles that are held at the places of the modules in it, each under the name of its declaration: a rule that is broken, or a pattern that is past its limits.
pub record BreaksOver (given : Given) (files : Files) (joined : Joined) (p : ℕ) (slots : List (Option Justfile)) (held : List (Recipe Dependency)) (c : Cause) : Type 0 where
  pub labels : List Label
  pub named : names_of_labels labels ≡ names_of_labels (labels_of_place given.syntax.enabled files joined p)
  pub broken : (inner : List Justfile) → map Some inner ≡ map (slot slots) (targets joined.modules.items p)
      → let m = contents_of_place given.syntax.enabled files joined p in let it = around_place given files joined p inner labels held in BreaksPlace given files joined p (links_by m it) (told_by m it) c

-- the variables that the module at a place has
abbrev pub variables_of_place : (Item → Bool) → Files → Joined → ℕ → List Assignment
variables_of_place enabled files joined p = said_from variable_by enabled (asts_in files) (targets joined.files.items p)

-- The module at a place can be compiled: its files have places, the numbers of its recipes are different, and so are those of its variables, and the modules in it stand at different places, with a label for each and a name that no other one and no alias has; its own file is one of its files.
pub record CanCompile (enabled : Item → Bool) (files : Files) (joined : Joined) (p : ℕ) : Type 0 where
  pub there : p < length files.asts.items
  pub files_there : All (λ q. q < length files.asts.items) (targets joined.files.items p)
  pub modules_there : All (λ q. q < length files.asts.items) (targets joined.modules.items p)
  pub numbers : IsOnce (unresolved_numbers (recipes_of_place enabled files joined p))
  pub variables : IsOnce (assignment_numbers (variables_of_place enabled files joined p))
  pub priors : All HasPriors (recipes_of_place enabled files joined p)
  pub apart : IsOnce (targets joined.modules.items p)
  pub labels : length (labels_of_place enabled files joined p) ≡ length (targets joined.modules.items p)
  pub different : AreDifferent (texts_of_named (namings_of_place enabled files joined p))
  pub own : Contains (targets joined.files.items p) p

-- Files, their joins and what is compiled so far fit together at a place: each has room for as many, the module there can be compiled, and those in it are compiled.
pub record FitsFiles (enabled : Item → Bool) (files : Files) (joined : Joined) (p : ℕ) (slots : List (Option Justfile)) : Type 0 where
  pub keys : length files.keys.items ≡ length files.asts.items
  pub files_room : length joined.files.items ≡ length files.asts.items
  pub modules_room : length joined.modules.items ≡ length files.asts.items
  pub room : length slots ≡ length files.asts.items
  pub ready : CanCompile enabled files joined p
  pub inner : (js : List Justfile) × (map Some js ≡ map (slot slots) (targets joined.modules.items p))

-- the value of an expression among the constants of the module at a place
abbrev pub value_at : Given → Files → Joined → ℕ → Evaluated → Expression → Option (List Text)
value_at given files joined p it = value_among given.evaluator (contents_of_place given.syntax.enabled files joined p) it.constants

-- What the module at a place is compiled to, from the justfiles of the modules in it, where these recipes are held before; it has no label yet.
pub record IsCompiledAt (given : Given) (files : Files) (joined : Joined) (loaded : List Text) (p : ℕ) (inner : List Justfile) (before : List (Recipe Dependency)) (made : Made) (j : Justfile) : Type 0 where
  pub own : Ast
  pub own_said : slice_get (asts_in files) p ≡ Some own
  pub key : AstKey
  pub key_is : slice_get (keys_in files) p ≡ Some key
  pub kept : KeepsPlace given files joined p (links_by (contents_of_place given.syntax.enabled files joined p) (around_of j before))
  pub labels : List Label
  pub evaluated : IsEvaluatedTo (layers_at given (path_at files p)) (contents_of_place given.syntax.enabled files joined p) (labels_of_place given.syntax.enabled files joined p) labels made.overridden j
  pub standing : List (Recipe UnresolvedDependency)
  pub links : HasLinks (value_at given files joined p evaluated.it) given.syntax (kept_of_place given.syntax.enabled files joined p) before own.module_path made.recipes standing j
  pub variables : HasVariables given.syntax (contents_of_place given.syntax.enabled files joined p) j
  pub tables : HasTables j
  pub default : HasDefault standing (recipes_by given.syntax.enabled (Some own)) j
  pub fields : IsOf (contents_of_place given.syntax.enabled files joined p) standing own loaded key.1 j
  pub notes : notes_in j ≡ notes_of_place given.syntax.enabled files joined p
  pub modules : (out-Justfile j).modules ≡ by_name (with_labels inner labels)

-- what modules have added
abbrev pub made_in : Gathered → Made
made_in it = record { recipes = it.recipes; overridden = it.overridden.items }

-- One more module is compiled, from those that are held at the places of the modules in it.
pub record CompilesPlace (given : Given) (files : Files) (joined : Joined) (loaded : List Text) (p : ℕ) (old new : List (Option Justfile)) (before after : Made) : Type 0 where
  pub made : Made
  pub justfile : Justfile
  pub recipes : after.recipes ≡ before.recipes ++ made.recipes
  pub overridden : after.overridden ≡ before.overridden ++ made.overridden
  pub compiled : (inner : List Justfile) → map Some inner ≡ map (slot old) (targets joined.modules.items p) → IsCompiledAt given files joined loaded p inner before.recipes made justfile
  pub here : slot new p ≡ Some justfile
  pub others : (q : ℕ) → (q ≡ p → ⊥) → (Contains (targets joined.modules.items p) q → ⊥) → slot new q ≡ slot old q
  pub room : length new ≡ length old

abbrev pub CompilesAt : Given → Files → Joined → List Text → ℕ → Vec (Option Justfile) Global → Vec (Option Justfile) Global → Gathered → Gathered → Type 0
CompilesAt given files joined loaded p old new before after = CompilesPlace given files joined loaded p old.items new.items (made_in before) (made_in after)

-- Modules that can be compiled in this order: there is one, each place stands there once, after those of the modules in it, each of which stands in one module, and no number of a recipe in two modules.
pub record CanCompileAll (enabled : Item → Bool) (files : Files) (joined : Joined) (order : List ℕ) : Type 0 where
  pub keys : length files.keys.items ≡ length files.asts.items
  pub files_room : length joined.files.items ≡ length files.asts.items
  pub modules_room : length joined.modules.items ≡ length files.asts.items
  pub some : 0 < length order
  pub each : (k : ℕ) → k < length order → CanCompile enabled files joined (slice_index order k)
  pub once : IsOnce order
  pub inner_first : ListsStepsFirst (HasEdge joined.modules.items) order
  pub one_outer : (i k q : ℕ) → i < length order → k < length order → HasEdge joined.modules.items (slice_index order i) q → HasEdge joined.modules.items (slice_index order k) q → i ≡ k
  pub apart : (i k m : ℕ) → i < k → k < length order → Contains (unresolved_numbers (recipes_of_place enabled files joined (slice_index order i))) m
      → Contains (unresolved_numbers (recipes_of_place enabled files joined (slice_index order k))) m → ⊥

-- the recipes that the first n modules of an order add
abbrev pub made_before : (ℕ → Made) → List ℕ → ℕ → List (Recipe Dependency)
made_before made order n = flat_map (λ q. (made q).recipes) (take n order)

-- The first n modules of an order are compiled: what each adds, one module after another, and its justfile, which is held until a module takes it.
pub record HaveCompiled (given : Given) (files : Files) (joined : Joined) (loaded : List Text) (order : List ℕ) (n : ℕ) (slots : List (Option Justfile)) (all : Made) : Type 0 where
  pub made : ℕ → Made
  pub justfile : ℕ → Justfile
  pub recipes : all.recipes ≡ made_before made order n
  pub overridden : all.overridden ≡ flat_map (λ q. (made q).overridden) (take n order)
  pub each : (k : ℕ) → k < n → IsCompiledAt given files joined loaded (slice_index order k) (map justfile (targets joined.modules.items (slice_index order k))) (made_before made order k) (made (slice_index order k)) (justfile (slice_index order k))
  pub held : (k : ℕ) → k < n → ((i : ℕ) → i < n → HasEdge joined.modules.items (slice_index order i) (slice_index order k) → ⊥) → slot slots (slice_index order k) ≡ Some (justfile (slice_index order k))
  pub room : length slots ≡ length files.asts.items

-- The same, or none is compiled yet.
pub data HaveCompiledSoFar (given : Given) (files : Files) (joined : Joined) (loaded : List Text) (order : List ℕ) (n : ℕ) (slots : List (Option Justfile)) (all : Made) : Type 0 where
  not_yet : n ≡ 0 → length slots ≡ length files.asts.items → all.recipes ≡ [] → all.overridden ≡ [] → HaveCompiledSoFar given files joined loaded order n slots all
  so_far : HaveCompiled given files joined loaded order n slots all → HaveCompiledSoFar given files joined loaded order n slots all

abbrev pub HaveCompiledAll : Given → Files → Joined → List Text → List ℕ → Vec (Option Justfile) Global × Gathered → Type 0
HaveCompiledAll given files joined loaded order result = HaveCompiled given files joined loaded order (length order) result.0.items (made_in result.1)

-- A rule is broken in the module at a place of an order, over those before it, which are compiled.
pub record BreaksInOrder (given : Given) (files : Files) (joined : Joined) (loaded : List Text) (order : List ℕ) (c : Cause) : Type 0 where
  pub at : ℕ
  pub there : at < length order
  pub slots : List (Option Justfile)
  pub all : Made
  pub before : HaveCompiledSoFar given files joined loaded order at slots all
  pub broken : BreaksOver given files joined (slice_index order at) slots all.recipes c

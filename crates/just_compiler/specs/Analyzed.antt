-- What an analysis answers.
use Rattle.std.specs.Prelude.{◌≡◌, ◌<◌, ◌++◌, ℕ, List, [], ◌∷◌, map, slice_get, Option, Some}
use Rattle.std.specs.HashMap.{HashMap, get}
use Rattle.std.specs.List.{All, Contains}
use Rattle.just_names.specs.declared.number.Number.{Number}
use Rattle.just_graph.specs.Unfolded.{AreDistinct}
use Rattle.just_parts.specs.Asts.{AstKey, same_ast_key}
use Rattle.just_errors.specs.Causes.{Reports}
use Rattle.just_names.specs.Texts.{Text}
use Rattle.just_recipe.specs.declared.dependency.Dependency.{Dependency}
use Rattle.just_parts.specs.Items.{Ast}
use Rattle.just_parts.specs.Layers.{Given}
use Rattle.just_errors.specs.declared.error.Error.{Error}
use Rattle.just_overrides.specs.Inserted.{AreInserted}
use Rattle.just_paths.specs.declared.modulepath.Modulepath.{Modulepath}
use Rattle.just_recipe.specs.declared.recipe.Recipe.{Recipe}
use Rattle.just_justfile.specs.Closed.{AreClosed, IsPlaced}
use Rattle.just_justfile.specs.Running.{HaveOwnNumbers}
use Rattle.just_justfile.specs.declared.justfile.Justfile.{Justfile}
use Rattle.just_module_tree.specs.Groups.{KeepsModules, BreaksModules}
use Rattle.just_module_tree.specs.Standing.{told_in}
use Rattle.just_compiled.specs.Labelled.{label_in}
use Rattle.just_compiled.specs.Variables.{HaveTables}
use Rattle.just_compiled.specs.Justfiles.{AreCompiled, Built, overridden_of_all, recipes_of_all}
use Rattle.just_module_tree.specs.Modules.{AreModules, Empty, Forest, Heading, IsHeading, Module, Tree, heading}
use Rattle.just_module_headers.specs.Reading.{reading_of}
use Rattle.just_module_contents.specs.declared.labels.Label.{Label}

-- a module comes after those in it
abbrev pub ComeAfter : List Built → Type 0
ComeAfter built = (i j : ℕ) (b inner : Built) (name : Text) → slice_get built i ≡ Some b → slice_get built j ≡ Some inner → inner.0.0.components ≡ b.0.0.components ++ name ∷ [] → j < i

-- The module of a heading and those in it: they keep all groups, their recipes stand one module after another, each module once and after those in it, and so do the values that override their variables, and their justfiles are a tree, which is closed, in which the module of each recipe stands. Each variable and function there stands under its own name in its module, and no two variables of the tree have one number.
pub record IsAnalyzed (given : Given) (asts : AstKey → Option Ast) (loaded : List Text) (top : Heading) (justfile : Justfile) (recipes : List (Recipe Dependency)) (overridden : List (Number × Text)) : Type 0 where
  pub m : Module
  pub inside : Forest
  pub are_modules : AreModules (reading_of given.syntax.enabled asts) (top ∷ []) (Tree m inside Empty)
  pub kept : KeepsModules given (Tree m inside Empty)
  pub built : List Built
  pub once : AreDistinct (map (λ (b : Built). b.0) built)
  pub after : ComeAfter built
  pub each : (b : Built) → Contains built b → (h : Heading) × IsHeading (reading_of given.syntax.enabled asts) top h × (h.key ≡ b.0)
  pub all : recipes ≡ recipes_of_all built
  pub overrides : overridden ≡ overridden_of_all built
  pub label : label_in justfile ≡ top.label
  pub compiled : AreCompiled given asts loaded built (Tree m inside Empty) (justfile ∷ [])
  pub closed : AreClosed recipes justfile
  pub placed : All (IsPlaced justfile) recipes
  pub tables : HaveTables justfile
  pub numbers : HaveOwnNumbers justfile

-- What an analysis answers of the module at a path, with its own file and a label: it and those in it are analyzed, and the values that override variables are added one after another to what was overridden; or one of them breaks a rule.
pub record Analyzes {G H : Type 0} (given : Given) (asts : HashMap AstKey Ast H) (loaded : List Text) (path : Modulepath) (root : Text) (label : Label) (old new : HashMap Number Text G) (made : Justfile × List (Recipe Dependency)) : Type 0 where
  pub overridden : List (Number × Text)
  pub analyzed : IsAnalyzed given (get same_ast_key asts) loaded (heading (path, root) label) made.0 made.1 overridden
  pub added : AreInserted overridden old new

abbrev pub TellsAnalyzed : {H : Type 0} → Given → HashMap AstKey Ast H → Modulepath → Text → Label → Error → Type 0
TellsAnalyzed given asts path root label = Reports (BreaksModules told_in given (reading_of given.syntax.enabled (get same_ast_key asts)) (heading (path, root) label))

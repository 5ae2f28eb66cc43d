-- Each recipe of a module that is compiled has the numbers of what it needs there.
use Rattle.std.proofs.Common.{◌≡◌, Bool, List, [], ◌∷◌, Option, sym}
use Rattle.std.specs.List.{AllZip, Contains}
use Rattle.just_ast_definitions.specs.declared.parameter.Parameter.{Parameter}
use Rattle.just_ast_expressions.specs.declared.expression.Expression.{Expression}
use Rattle.just_ast_expressions.specs.declared.settings.Settings.{Settings}
use Rattle.just_compiled.specs.Analysis.{completion_in}
use Rattle.just_compiled.specs.Justfiles.{Built, IsCompiled, Made, recipes_of_all, value_by}
use Rattle.just_compiled.proofs.ScopesAlike.{IsNumberedOf, scopes_alike}
use Rattle.just_compiled.proofs.ScopesRead.{numbers_alike, read_alike}
use Rattle.just_justfile.specs.Running.{HasNeeds, IsReadBy, known_by_tables}
use Rattle.just_recipe.specs.Recipes.{arguments_of}
use Rattle.just_justfile.specs.declared.justfile.Justfile.{Justfile, out-Justfile}
use Rattle.just_module_contents.specs.RecipeNames.{written_scopes}
use Rattle.just_module_recipes.specs.Completing.{Completion}
use Rattle.just_module_recipes.specs.Linked.{IsLinked, IsMadeOf}
use Rattle.just_module_tree.specs.Modules.{Forest, Module}
use Rattle.just_module_variables.specs.Variables.{variable_number}
use Rattle.just_names.specs.Texts.{Text}
use Rattle.just_names.specs.declared.name.Namepath.{Namepath}
use Rattle.just_names.specs.declared.number.Number.{Number}
use Rattle.just_parts.specs.Asts.{AstKey}
use Rattle.just_parts.specs.Items.{Ast}
use Rattle.just_parts.specs.Layers.{Given}
use Rattle.just_parts.specs.Needs.{has_number}
use Rattle.just_parts.specs.Scopes.{Scoped, scopes_of}
use Rattle.just_parts.specs.Syntax.{SyntaxAnswers}
use Rattle.just_paths.specs.declared.modulepath.Modulepath.{Modulepath}
use Rattle.just_recipe.specs.declared.dependency.Dependency.{Dependency}
use Rattle.just_recipe.specs.declared.dependency.UnresolvedDependency.{UnresolvedDependency}
use Rattle.just_recipe.specs.declared.recipe.Recipe.{Recipe}
use Rattle.just_recipe_names.specs.Numbered.{number_under}
use Rattle.just_recipe_needs.specs.Needed.{IsReadInScopes}
use Rattle.just_compiled.specs.Variables.{HasTables}

-- what is linked has its arguments whole
module _ (Stands : Text → Type 0) (HasNumber : Namepath → Number → Type 0) (completed : Completion) (lists : Bool) (all : List (Recipe Dependency)) where
  all_whole : (ds : List UnresolvedDependency) (ms : List Dependency) → AllZip (IsLinked Stands HasNumber completed lists all) ds ms → AllZip (λ (d : UnresolvedDependency) (m : Dependency). arguments_of m ≡ d.arguments) ds ms
  all_whole [] [] linked = tt
  all_whole [] (m ∷ ms) linked = absurd linked
  all_whole (d ∷ ds) [] linked = absurd linked
  all_whole (d ∷ ds) (m ∷ ms) linked = (linked.0.whole, all_whole ds ms linked.1)

module _ (value : Expression → Option (List Text)) (answers : SyntaxAnswers) (j : Justfile) where
  abbrev settings : Settings
  settings = (out-Justfile j).settings

  abbrev number : List Parameter → Text → Option Number
  number = number_under (variable_number (out-Justfile j).assignments) answers

  abbrev completed : Completion
  completed = completion_in value answers (out-Justfile j).assignments (out-Justfile j).functions (has_number (out-Justfile j).overridden) settings

  module _ {Stands : Text → Type 0} {HasNumber : Namepath → Number → Type 0} {lists : Bool} {all : List (Recipe Dependency)} {path : Modulepath} {source : Recipe UnresolvedDependency} {made : Recipe Dependency} (is : IsMadeOf Stands HasNumber completed lists all path source made) where
    numbered_of : IsNumberedOf answers settings value number source made
    numbered_of = record {
      attributes = is.resolved.attributes;
      parameters = is.resolved.parameters;
      body = is.resolved.body;
      shebang = is.resolved.shebang;
      dependencies = all_whole Stands HasNumber completed lists all (completed.by source).dependencies made.dependencies is.dependencies;
    }

    abbrev here : List Scoped
    here = scopes_of arguments_of answers settings made

    abbrev written : List Scoped
    written = written_scopes answers settings source

    read_on : (name : Text) → IsReadInScopes (known_by_tables j) written name → IsReadBy answers j made name
    read_on name r =
        let x = read_alike (known_by_tables j) written here (sym (scopes_alike answers settings value number source made numbered_of)) name r in
        record { from = x.from; there = x.there; reads = x.reads }

    read_back : (name : Text) → IsReadBy answers j made name → IsReadInScopes (known_by_tables j) written name
    read_back name r = read_alike (known_by_tables j) here written (scopes_alike answers settings value number source made numbered_of) name (record { from = r.from; there = r.there; reads = r.reads })

    -- a recipe that is made has the numbers of what it needs
    pub made_needs : HasTables j → HasNeeds answers j made
    made_needs tables n =
        numbers_alike (known_by_tables j) (has_number (out-Justfile j).overridden) (IsReadInScopes (known_by_tables j) written) (IsReadBy answers j made) made.variable_references read_on read_back is.references tables.apart n

module _ (given : Given) (asts : AstKey → Option Ast) (loaded : List Text) (built : List Built) {m : Module} {below : Forest} {inner : List Justfile} {made : Made} {j : Justfile} (is : IsCompiled given asts loaded (recipes_of_all built) m below inner made j) where
  -- so does each that the module adds
  pub has_needs : (r : Recipe Dependency) → Contains made.recipes r → HasNeeds given.syntax j r
  has_needs r there = made_needs (value_by given asts m is.evaluated.it) given.syntax j (is.linked.only r there).1.made_of is.tables

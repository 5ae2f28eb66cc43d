-- Recipes that are linked as the code completes them are linked as the tables and the constants of their module say.
use Rattle.std.proofs.Common.{◌≡◌, Bool, List, Result, Ok, Err, IfOk, subst, subst₂}
use Rattle.std.specs.HashMap.{HashMap, get}
use Rattle.std.specs.Str.{bytes_eq}
use Rattle.just_compiler.specs.loops.Parts.{AreLinkedOver}
use Rattle.just_ast_definitions.specs.declared.assignment.Assignment.{Assignment}
use Rattle.just_errors.specs.declared.error.Error.{Error}
use Rattle.just_module_contents.specs.Definitions.{recipes_in}
use Rattle.just_module_contents.specs.Standing.{AreStanding}
use Rattle.just_module_recipes.specs.Completing.{completion}
use Rattle.just_module_recipes.specs.Linked.{AddsLinked, HasDisabled}
use Rattle.just_module_recipes.specs.Links.{Around, Disables, Stands}
use Rattle.just_module_recipes.specs.declared.links.Linked.{Linked}
use Rattle.just_module_variables.specs.Variables.{variable_number}
use Rattle.just_names.specs.Texts.{Text}
use Rattle.just_names.specs.declared.number.Number.{Number}
use Rattle.just_paths.specs.declared.modulepath.Modulepath.{Modulepath}
use Rattle.just_recipe.specs.declared.dependency.Dependency.{Dependency}
use Rattle.just_recipe.specs.declared.dependency.UnresolvedDependency.{UnresolvedDependency}
use Rattle.just_recipe.specs.declared.recipe.Recipe.{Recipe}

pub told_numbers : {H : Type 0} (numbers : HashMap Text Number H) (assignments : List (Text × Assignment)) → ((name : Text) → get bytes_eq numbers name ≡ variable_number assignments name) → get bytes_eq numbers ≡ variable_number assignments
told_numbers numbers assignments same = λ i name. same name i

module _ (Needs : Recipe UnresolvedDependency → List Number → Type 0) (made_by by : Recipe UnresolvedDependency → Recipe UnresolvedDependency) (same : made_by ≡ by) (lists : Bool) (recipes rs : List (Recipe UnresolvedDependency)) (recipes_are : recipes ≡ rs)
    (lent it : Around) (it_is : lent ≡ it) (path : Modulepath) where
  abbrev Stand : Linked → List (Recipe UnresolvedDependency) → Around → Type 0
  Stand made qs x = AreStanding (Stands qs x) qs (recipes_in made.standing)

  abbrev Fall : Linked → List (Recipe UnresolvedDependency) → Around → Type 0
  Fall made qs x = HasDisabled (Disables qs x) qs made.disabled

  abbrev Add : Linked → (Recipe UnresolvedDependency → Recipe UnresolvedDependency) → List (Recipe UnresolvedDependency) → Around → Type 0
  Add made f qs x = AddsLinked (completion f Needs) lists qs x path made.all

  pub links_as : (result : Result Linked Error) → IfOk result (λ made. Stand made recipes lent) → IfOk result (λ made. Fall made recipes lent)
      → IfOk result (λ made. AddsLinked (completion made_by Needs) lists recipes lent path made.all)
      → IfOk result (λ made. AreLinkedOver (completion by Needs) lists rs it path (recipes_in made.standing) made.disabled made.all)
  links_as (Ok made) stand fall add = record {
    stand = subst₂ (λ qs x. Stand made qs x) recipes_are it_is stand;
    disabled_are = subst₂ (λ qs x. Fall made qs x) recipes_are it_is fall;
    linked = subst₂ (λ qs x. Add made by qs x) recipes_are it_is (subst (λ f. Add made f recipes lent) same add);
  }
  links_as (Err e) stand fall add = tt

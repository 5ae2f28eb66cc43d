-- What is told of the recipes of a module that stand, as it is linked, and what their docs, helps and patterns read.
use Rattle.std.proofs.Common.{◌≡◌, ◌⊎◌, ◌<◌, ℕ, List, ◌++◌, inl, inr, length, subst}
use Rattle.std.specs.List.{Contains}
use Rattle.std.specs.Prelude.{flat_map}
use Rattle.std.proofs.lemmas.List.Elements.{Contains-get_or}
use Rattle.just_compiler.specs.loops.Parts.{TellsChecked}
use Rattle.just_module_checks.specs.declared.checks.Checked.{Checked}
use Rattle.just_ast_expressions.specs.declared.expression.Expression.{Expression}
use Rattle.just_errors.specs.Causes.{Cause, Keeps}
use Rattle.just_graph.proofs.Members.{In, contained, in_flat, in_left, in_right, is_in}
use Rattle.just_module_contents.specs.Constants.{constant_expressions, recipe_expressions, settings_expressions, value_among}
use Rattle.just_module_contents.specs.Contents.{Contents}
use Rattle.just_module_contents.specs.Definitions.{contents_in, recipes_in}
use Rattle.just_module_contents.specs.Kept.{kept_recipes}
use Rattle.just_module_contents.specs.RecipeValues.{IsPastLimits}
use Rattle.just_module_contents.specs.Recipes.{no_recipe, recipe_at}
use Rattle.just_module_contents.specs.Rules.{BreaksBodies}
use Rattle.just_module_contents.specs.Standing.{InStanding, in_recipe, of_standing}
use Rattle.just_module_contents.proofs.Keeping.{kept_in}
use Rattle.just_module_recipes.specs.loops.Broken.{in_dependencies, in_recipes}
use Rattle.just_module_recipes.specs.Completed.{TellsLinks, of_links, of_own}
use Rattle.just_module_recipes.specs.Links.{Around}
use Rattle.just_module_variables.specs.Constants.{CoversAll}
use Rattle.just_module_variables.specs.Variables.{AreVariablesOf}
use Rattle.just_module_variables.specs.declared.variables.Variables.{Variables}
use Rattle.just_parts.specs.Evaluator.{Covers, Values, scope_values}
use Rattle.just_parts.specs.Known.{sources}
use Rattle.just_parts.specs.Layers.{Layers}
use Rattle.just_recipe.specs.declared.dependency.UnresolvedDependency.{UnresolvedDependency}
use Rattle.just_recipe.specs.declared.recipe.Recipe.{Recipe}
use Rattle.just_compiler.proofs.NamesRead.{rule_here, rule_said, tells_told, value_here}

-- a rule of one that stands, by another that follows from it
module _ {Stands : List ℕ → Type 0} {recipes : List (Recipe UnresolvedDependency)} (rule other : Recipe UnresolvedDependency → Cause → Type 0) (so : (r : Recipe UnresolvedDependency) (c : Cause) → rule r c → other r c) where
  pub standing_so : (c : Cause) → InStanding Stands rule recipes c → InStanding Stands other recipes c
  standing_so c (of_standing ss are (in_recipe i h b)) = of_standing ss are (in_recipe i h (so (recipe_at ss i) c b))

-- that is told by one of two
module _ {Stands : List ℕ → Type 0} {recipes : List (Recipe UnresolvedDependency)} (rule other : Recipe UnresolvedDependency → Cause → Type 0) where
  pub standing_or : (c : Cause) → InStanding Stands (λ r x. rule r x ⊎ other r x) recipes c → InStanding Stands rule recipes c ⊎ InStanding Stands other recipes c
  standing_or c (of_standing ss are (in_recipe i h (inl b))) = inl (of_standing ss are (in_recipe i h b))
  standing_or c (of_standing ss are (in_recipe i h (inr b))) = inr (of_standing ss are (in_recipe i h b))

-- what the kept recipes read has a value where what all recipes read has one
module _ (variables : Variables) (values : Values) (m : Contents) (covered : CoversAll variables values (constant_expressions m)) where
  abbrev CoversOne : Recipe UnresolvedDependency → Type 0
  CoversOne r = (e : Expression) → Contains (recipe_expressions r) e → Covers (sources variables.assignments variables.functions) values e

  covers_said : (r : Recipe UnresolvedDependency) → In r m.recipes → CoversOne r
  covers_said r i e c =
      let there : In e (flat_map recipe_expressions m.recipes) = in_flat recipe_expressions e r m.recipes i (is_in e (recipe_expressions r) c) in
      covered e (contained e (constant_expressions m) (in_left e (settings_expressions m ++ flat_map recipe_expressions m.recipes) m.docs (in_right e (settings_expressions m) (flat_map recipe_expressions m.recipes) there)))

  pub covers_kept : (rs : List (Recipe UnresolvedDependency)) → rs ≡ kept_recipes m.recipes → (i : ℕ) → i < length rs → CoversOne (recipe_at rs i)
  covers_kept rs is i h = covers_said (recipe_at rs i) (kept_in m.recipes (recipe_at rs i) (subst (In (recipe_at rs i)) is (is_in (recipe_at rs i) rs (Contains-get_or rs i no_recipe h))))

-- what is told of links is told of the module
module _ (layers : Layers) (checked : Checked) (it : Around) (are : AreVariablesOf layers.syntax (contents_in checked.definitions) checked.variables) (bodies : Keeps (BreaksBodies layers.syntax checked.constants.settings (contents_in checked.definitions))) where
  abbrev values : Values
  values = scope_values checked.constants.scope

  abbrev tells : Recipe UnresolvedDependency → Cause → Type 0
  tells r c = rule_here layers.syntax layers.evaluator (contents_in checked.definitions) checked.variables are values checked.constants.settings r c
      ⊎ IsPastLimits (value_here layers.syntax layers.evaluator (contents_in checked.definitions) checked.variables are values checked.constants.settings) r c

  abbrev said : Recipe UnresolvedDependency → Cause → Type 0
  said = rule_said layers.syntax layers.evaluator (contents_in checked.definitions) checked.variables are values checked.constants.settings

  abbrev limits : Recipe UnresolvedDependency → Cause → Type 0
  limits = IsPastLimits (value_among layers.evaluator (contents_in checked.definitions) values)

  pub links_told : (c : Cause) → TellsLinks checked.constants.settings.lists tells (kept_recipes (recipes_in checked.definitions)) it c → TellsChecked layers checked it c
  links_told c (of_links b) = in_dependencies bodies b
  links_told c (of_own kept b) = in_recipes bodies kept (standing_or said limits c (standing_so tells (λ r x. said r x ⊎ limits r x) (tells_told layers.syntax layers.evaluator (contents_in checked.definitions) checked.variables are values checked.constants.settings) c b))

-- What is found out of a module's recipes before they are resolved.
use Rattle.std.specs.Prelude.{◌≡◌, List, length}
use Rattle.just_module_recipes.specs.Links.{Around}
use Rattle.just_module_recipes.specs.loops.Making.{AreAllThere, AreExact}
use Rattle.just_module_recipes.specs.loops.Rows.{AreRecipeRows, AreTold, IsOrderOf}
use Rattle.just_module_recipes.specs.declared.links.Plan.{Plan}
use Rattle.just_recipe.specs.declared.dependency.UnresolvedDependency.{UnresolvedDependency}
use Rattle.just_recipe.specs.declared.recipe.Recipe.{Recipe}

-- The rows are those of the recipes, the order is one of them, the sets are exactly what disables them, and what a recipe that stands depends on can be read.
pub record IsPlan (recipes : List (Recipe UnresolvedDependency)) (it : Around) (plan : Plan) : Type 0 where
  pub rows : AreRecipeRows recipes it (length recipes) plan.rows.items
  pub order : IsOrderOf plan.rows.items plan.order.items
  pub count : length plan.sets.items ≡ length plan.rows.items
  pub told : AreTold plan.rows.items plan.order.items (length plan.order.items) plan.sets.items
  pub exact : AreExact recipes it plan.sets.items
  pub there : AreAllThere recipes it.held plan.rows.items plan.sets.items

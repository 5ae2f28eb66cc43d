-- What is found out of the recipes of a module, as the code reads it.
use Rattle.std.proofs.Common.{◌≡◌, ◌∙◌, ℕ, List, ap, length, subst, sym}
use Rattle.just_module_contents.specs.Recipes.{names_of}
use Rattle.just_module_recipes.specs.Linked.{AreSettled}
use Rattle.just_module_recipes.specs.Links.{Around}
use Rattle.just_module_recipes.specs.loops.Making.{AreExact}
use Rattle.just_module_recipes.specs.loops.Planned.{IsPlan}
use Rattle.just_module_recipes.specs.loops.Rows.{AreRecipeRows, AreTold, IsOrderOf}
use Rattle.just_module_recipes.specs.declared.links.Plan.{Plan}
use Rattle.just_module_recipes.specs.declared.targets.Target.{Target}
use Rattle.just_module_recipes.proofs.Barred.{are_exact}
use Rattle.just_module_recipes.proofs.Finished.{are_all_there}
use Rattle.just_names.specs.Index.{AreDifferent}
use Rattle.just_recipe.specs.declared.dependency.UnresolvedDependency.{UnresolvedDependency}
use Rattle.just_recipe.specs.declared.recipe.Recipe.{Recipe}

-- rows, an order of them and what is told of each are a plan
pub is_plan : (rs : List (Recipe UnresolvedDependency)) → AreDifferent (names_of rs) → (it : Around) → AreSettled it → (plan : Plan) (n : ℕ) → length rs ≡ n → AreRecipeRows rs it n plan.rows.items
    → (rows again : List (List Target)) (order : List ℕ) → rows ≡ plan.rows.items → again ≡ plan.rows.items → order ≡ plan.order.items
    → IsOrderOf rows plan.order.items → length plan.sets.items ≡ length again → AreTold again order (length order) plan.sets.items → IsPlan rs it plan
is_plan rs different it settled plan n long lead rows again order read read_again listed ordered count told =
    let are : AreRecipeRows rs it (length rs) plan.rows.items = subst (λ m. AreRecipeRows rs it m plan.rows.items) (sym long) lead in
    let is_order : IsOrderOf plan.rows.items plan.order.items = subst (λ xs. IsOrderOf xs plan.order.items) read ordered in
    let are_told : AreTold plan.rows.items plan.order.items (length plan.order.items) plan.sets.items =
    subst (λ xs. AreTold xs plan.order.items (length plan.order.items) plan.sets.items) read_again (subst (λ xs. AreTold again xs (length xs) plan.sets.items) listed told) in
    let many : length plan.sets.items ≡ length plan.rows.items = count ∙ ap (λ (xs : List (List Target)). length xs) read_again in
    let exact : AreExact rs it plan.sets.items = are_exact rs different it plan.rows.items are plan.order.items is_order plan.sets.items many are_told in
    record { rows = are; order = is_order; count = many; told = are_told; exact = exact; there = are_all_there rs it plan.sets.items exact different plan.rows.items are settled }

-- An order of the graph is one of the recipes, so that none depends on itself.
use Rattle.std.proofs.Common.{◌≡◌, ℕ, ◌<◌, List, [], length, get_or, slice_index, subst, arith}
use Rattle.std.specs.List.{Contains}
use Rattle.std.specs.declared.vec.Vec.{Vec}
use Rattle.std.specs.declared.alloc.Global.{Global}
use Rattle.just_errors.specs.Causes.{Cause}
use Rattle.just_graph.specs.Graph.{HasEdge}
use Rattle.just_graph.specs.Building.{EachRow}
use Rattle.just_graph.specs.Steps.{IsOrder, order_by}
use Rattle.just_module_contents.specs.Recipes.{Depends, names_of}
use Rattle.just_module_recipes.specs.Links.{Around}
use Rattle.just_module_recipes.specs.loops.Rows.{AreRecipeRows, Circular, IsOrderOf, circle, near}
use Rattle.just_module_recipes.specs.declared.targets.Target.{Target}
use Rattle.just_module_recipes.proofs.RecipeCircles.{circle_leads}
use Rattle.just_module_recipes.proofs.Steps.{edges, row_steps}
use Rattle.just_names.specs.Index.{AreDifferent}
use Rattle.just_recipe.specs.declared.dependency.UnresolvedDependency.{UnresolvedDependency}
use Rattle.just_recipe.specs.declared.recipe.Recipe.{Recipe}

module _ (rs : List (Recipe UnresolvedDependency)) (different : AreDifferent (names_of rs)) (it : Around) (rows : List (List Target)) (are : AreRecipeRows rs it (length rs) rows)
    (g : List (Vec ℕ Global)) (edges_are : EachRow (λ a row. row ≡ near (get_or rows a [])) (length rows) g)
    (roots order : List ℕ) (all_roots : (i : ℕ) → i < length rs → slice_index roots i ≡ i) (many : length roots ≡ length rs) (o : IsOrder (HasEdge g) (length g) roots order) where
  by_depends : IsOrder (Depends rs) (length g) roots order
  by_depends = order_by (λ a b. (edges rs different it rows are g edges_are a b).1) (length g) roots order o

  listed : (i : ℕ) → i < length rs → Contains order i
  listed i h = subst (Contains order) (all_roots i h) (by_depends.roots_listed i 0 (omega arith))

  pub is_order_of : IsOrderOf rows order
  is_order_of = record {
    below = λ k h. omega (arith, edges_are.count, by_depends.below k 0 h);
    inside = λ k j h c. let s : Depends rs k j = row_steps rs different it rows are k j (omega (arith, are.count)) c in omega (arith, s.there, are.count);
    all = λ i h. listed i (omega (arith, are.count));
    once = by_depends.once;
    first = λ k b h c. by_depends.steps_first k b h (row_steps rs different it rows are (slice_index order k) b (omega (arith, edges_are.count, are.count, by_depends.below k 0 h)) c);
  }

  pub circles_kept : {c : Cause} → Circular rs c → ⊥
  circles_kept (circle c d) =
      let back = circle_leads rs different _ _ c in
      by_depends.no_circle back.0 (listed back.0 back.1) back.2

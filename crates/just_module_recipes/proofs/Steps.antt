-- The graph's edges are the steps between recipes.
use Rattle.std.proofs.Common.{◌≡◌, ℕ, ◌<◌, List, [], ◌∷◌, length, get_or, sym, subst, arith, inl, inr, ◌↔◌}
use Rattle.std.proofs.lemmas.Bool.{cases_lt}
use Rattle.std.specs.List.{AllZip, Contains}
use Rattle.std.specs.declared.vec.Vec.{Vec}
use Rattle.std.specs.declared.alloc.Global.{Global}
use Rattle.just_graph.specs.Graph.{HasEdge, IsGraph, targets}
use Rattle.just_graph.specs.Building.{EachRow, targets_past}
use Rattle.just_graph.proofs.Members.{contained, from_map, in_map, is_in}
use Rattle.just_module_contents.specs.Recipes.{Depends, dependency_paths, name_of_recipe, names_of, recipe_at}
use Rattle.just_module_recipes.specs.Links.{Around, IsNameOf}
use Rattle.just_module_recipes.specs.loops.Rows.{AreRecipeRows, IsTargetOf, near}
use Rattle.just_module_recipes.specs.declared.targets.Target.{Target}
use Rattle.just_module_recipes.specs.declared.targets.Target.TheVariants.{Near}
use Rattle.just_module_recipes.proofs.Finding.{near_only}
use Rattle.just_module_recipes.proofs.Nearby.{near_has, near_is}
use Rattle.just_module_recipes.proofs.Zipped.{zip_back, zip_forth}
use Rattle.just_names.specs.Index.{AreDifferent}
use Rattle.just_names.specs.Name.{texts_of_path}
use Rattle.just_recipe.specs.declared.dependency.UnresolvedDependency.{UnresolvedDependency}
use Rattle.just_recipe.specs.declared.recipe.Recipe.{Recipe}

-- the dependency that a near target is of
pub near_dependency : (rs : List (Recipe UnresolvedDependency)) (it : Around) (ds : List UnresolvedDependency) (row : List Target) (b : ℕ) → AllZip (IsTargetOf rs it) ds row → Contains row (Near b) → (d : UnresolvedDependency) × Contains ds d × IsNameOf rs d.recipe b
near_dependency rs it ds row b a c =
    let t = zip_back (IsTargetOf rs it) ds row (Near b) a (is_in (Near b) row c) in
    (t.0, contained t.0 ds t.1, t.2)

module _ (rs : List (Recipe UnresolvedDependency)) (different : AreDifferent (names_of rs)) (it : Around) (rows : List (List Target)) (are : AreRecipeRows rs it (length rs) rows) where
  pub row_steps : (a b : ℕ) → a < length rs → Contains (near (get_or rows a [])) b → Depends rs a b
  row_steps a b h c =
      let t = near_dependency rs it (recipe_at rs a).dependencies (get_or rows a []) b (are.each a h) (near_is (get_or rows a []) b c) in
      let n : IsNameOf rs t.0.recipe b = t.2 in
      record {
        dependent = h;
        there = n.there;
        names = subst (Contains (dependency_paths (recipe_at rs a))) n.named (contained (texts_of_path t.0.recipe) (dependency_paths (recipe_at rs a)) (in_map (λ (d : UnresolvedDependency). texts_of_path d.recipe) t.0 (recipe_at rs a).dependencies (is_in t.0 (recipe_at rs a).dependencies t.1)));
      }

  pub steps_row : (a b : ℕ) → Depends rs a b → Contains (near (get_or rows a [])) b
  steps_row a b s =
      let d = from_map (λ (d : UnresolvedDependency). texts_of_path d.recipe) (name_of_recipe (recipe_at rs b) ∷ []) (recipe_at rs a).dependencies (is_in (name_of_recipe (recipe_at rs b) ∷ []) (dependency_paths (recipe_at rs a)) s.names) in
      let t = zip_forth (IsTargetOf rs it) (recipe_at rs a).dependencies (get_or rows a []) d.0 (are.each a s.dependent) d.1 in
      let e : t.0 ≡ Near b = near_only rs it different d.0.recipe t.0 b t.2 (record { there = s.there; named = sym d.2 }) in
      near_has (get_or rows a []) b (subst (Contains (get_or rows a [])) e (contained t.0 (get_or rows a []) t.1))

  module _ (g : List (Vec ℕ Global)) (edges_are : EachRow (λ a row. row ≡ near (get_or rows a [])) (length rows) g) where
    row_is : (a : ℕ) → a < length rs → targets g a ≡ near (get_or rows a [])
    row_is a h = edges_are.rows a (omega (arith, are.count))

    pub edges : (a b : ℕ) → HasEdge g a b ↔ Depends rs a b
    edges a b = elim (cases_lt a (length rs)) [
      | inl l ↦ (
        (λ (e : HasEdge g a b). row_steps a b l (subst (λ row. Contains row b) (row_is a l) e)),
        (λ (s : Depends rs a b). subst (λ row. Contains row b) (sym (row_is a l)) (steps_row a b s)),
      )
      | inr l ↦ (
        (λ (e : HasEdge g a b). let c : Contains [] b = subst (λ xs. Contains xs b) (targets_past g a (omega (arith, edges_are.count, are.count))) e in absurd (omega (arith, c.1))),
        (λ (s : Depends rs a b). absurd (omega (arith, s.dependent))),
      )
    ]

    pub is_graph : IsGraph g
    is_graph a b e = let s : Depends rs a b = (edges a b).0 e in omega (arith, s.there, edges_are.count, are.count)

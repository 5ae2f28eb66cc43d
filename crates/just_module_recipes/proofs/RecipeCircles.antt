-- Circles of places and circles of names.
use Rattle.std.proofs.Common.{◌≡◌, ℕ, zero, suc, ◌+◌, ◌-◌, ◌<◌, List, [], ◌∷◌, length, map, get_or, slice_index, sym, ◌∙◌, ap, subst, arith, inl, inr, add-one}
use Rattle.std.proofs.lemmas.List.{get_or_default, get_or-map, length-map}
use Rattle.std.proofs.lemmas.Bool.{cases_lt}
use Rattle.std.specs.List.{Contains}
use Rattle.std.specs.declared.vec.Vec.{Vec}
use Rattle.std.specs.declared.alloc.Global.{Global}
use Rattle.just_names.specs.Token.{Place}
use Rattle.just_graph.specs.Building.{EachRow}
use Rattle.just_graph.specs.Graph.{HasEdge}
use Rattle.just_graph.specs.Steps.{Leads, by_step, IsCircle}
use Rattle.just_graph.proofs.Walks.{then_step}
use Rattle.just_recipe.specs.declared.dependency.UnresolvedDependency.{UnresolvedDependency}
use Rattle.just_recipe.specs.declared.recipe.Recipe.{Recipe}
use Rattle.just_names.specs.Index.{AreDifferent}
use Rattle.just_module_contents.specs.Recipes.{name_of_recipe, recipe_at, names_of, Depends, DependsOnRecipe}
use Rattle.just_module_recipes.specs.loops.Rows.{IsTokenOn, near}
use Rattle.just_module_recipes.specs.declared.targets.Target.{Target}
use Rattle.just_module_recipes.specs.declared.targets.Target.TheVariants.{Near}
use Rattle.just_module_recipes.proofs.Nearby.{near_is}
use Rattle.just_module_contents.specs.Rules.{IsRecipeCircleOf, IsDependencyOn}
use Rattle.just_module_contents.proofs.RecipePlaces.{one_place}

module _ (rs : List (Recipe UnresolvedDependency)) (different : AreDifferent (names_of rs)) where
  -- a step between names is one between the recipes of these names
  step_of : (i j : ℕ) (a b : List ℕ) → i < length rs → name_of_recipe (recipe_at rs i) ≡ a → j < length rs → name_of_recipe (recipe_at rs j) ≡ b → DependsOnRecipe rs a b → Depends rs i j
  step_of i j a b ki ei kj ej s =
      let from : s.from ≡ i = one_place rs different s.from i s.step.dependent ki (s.dependent_is ∙ sym ei) in
      let to : s.to ≡ j = one_place rs different s.to j s.step.there kj (s.name_is ∙ sym ej) in
      subst (λ x. Depends rs x j) from (subst (Depends rs s.from) to s.step)

  walk_leads : (ns : List (List ℕ)) → ((k : ℕ) → k + 1 < length ns → DependsOnRecipe rs (get_or ns k []) (get_or ns (k + 1) [])) → (k i j : ℕ) → k + 1 < length ns → i < length rs → name_of_recipe (recipe_at rs i) ≡ get_or ns 0 [] → j < length rs → name_of_recipe (recipe_at rs j) ≡ get_or ns (k + 1) [] → Leads (Depends rs) i j
  walk_leads ns walk zero i j h ki ei kj ej = by_step (step_of i j _ _ ki ei kj ej (walk zero h))
  walk_leads ns walk (suc k) i j h ki ei kj ej =
      let s : DependsOnRecipe rs (get_or ns (suc k) []) (get_or ns (suc k + 1) []) = walk (suc k) h in
      let at : name_of_recipe (recipe_at rs s.from) ≡ get_or ns (k + 1) [] = s.dependent_is ∙ ap (λ m. get_or ns m []) (sym (add-one k)) in
      then_step
      (walk_leads ns walk k i s.from (omega arith) ki ei s.step.dependent at)
      (step_of s.from j _ _ s.step.dependent s.dependent_is kj ej s)

  -- a circle of names leads from a recipe back to it
  pub circle_leads : (recipe : List ℕ) (ns : List (List ℕ)) → IsRecipeCircleOf rs recipe ns → (i : ℕ) × (i < length rs) × Leads (Depends rs) i i
  circle_leads recipe ns c =
      let s : DependsOnRecipe rs (get_or ns 0 []) (get_or ns (0 + 1) []) = c.walk 0 (omega (arith, c.steps)) in
      let i : ℕ = s.from in
      let back : name_of_recipe (recipe_at rs i) ≡ get_or ns ((length ns - 2) + 1) [] = s.dependent_is ∙ (c.closed ∙ ap (λ m. get_or ns m []) (omega (arith, c.steps))) in
      (i, s.step.dependent, walk_leads ns c.walk (length ns - 2) i i (omega (arith, c.steps)) s.step.dependent s.dependent_is s.step.dependent back)

module _ (rs : List (Recipe UnresolvedDependency)) (ns : List ℕ) (c : IsCircle (Depends rs) ns) where
  pub circle_below : (k : ℕ) → k < length ns → slice_index ns k < length rs
  circle_below k h = elim (cases_lt (k + 1) (length ns)) [
    | inl l ↦ (c.walk k l).dependent
    | inr l ↦
        let first : slice_index ns 0 < length rs = (c.walk 0 (omega (arith, c.steps))).dependent in
        let same : slice_index ns k ≡ slice_index ns 0 = ap (slice_index ns) (omega arith) ∙ sym c.closed in omega arith
  ]

  pub circle_of : (recipe : List ℕ) (names : List (List ℕ)) → names ≡ map (λ a. name_of_recipe (recipe_at rs a)) ns → recipe ≡ name_of_recipe (recipe_at rs (slice_index ns (length ns - 2))) → IsRecipeCircleOf rs recipe names
  circle_of recipe names e r =
      let name : ℕ → List ℕ = λ a. name_of_recipe (recipe_at rs a) in
      let len : length names ≡ length ns = ap length e ∙ length-map ns name in
      let at : ((k : ℕ) → k < length ns → get_or names k [] ≡ name (slice_index ns k)) = (λ k h. ap (λ xs. get_or xs k []) e ∙ get_or-map name ns k 0 [] h) in
      record {
        steps = omega (arith, c.steps);
        closed = at 0 (omega (arith, c.steps)) ∙ (ap name c.closed ∙ (sym (at (length ns - 1) (omega (arith, c.steps))) ∙ ap (λ m. get_or names (m - 1) []) (sym len)));
        walk = λ k h.
            let l : k + 1 < length ns = omega arith in
            record { from = slice_index ns k; to = slice_index ns (k + 1); step = c.walk k l; dependent_is = sym (at k (omega arith)); name_is = sym (at (k + 1) l) };
        closing = ap (λ m. get_or names (m - 2) []) len ∙ (at (length ns - 2) (omega (arith, c.steps)) ∙ sym r);
      }

-- what a read of the last member but one gives
pub closing_read : (ns : List ℕ) (n x : ℕ) → n ≡ length ns → 1 < length ns → x ≡ get_or ns (n - 2) x → x ≡ slice_index ns (length ns - 2)
closing_read ns n x len steps is = is ∙ (get_or_default ns (n - 2) x 0 (omega arith) ∙ ap (λ m. slice_index ns (m - 2)) len)

-- the last number of a circle, as it is read
pub last_read : (ns : List ℕ) (n x : ℕ) → n ≡ length ns → 1 < length ns → x ≡ get_or ns (n - 1) x → x ≡ slice_index ns (length ns - 1)
last_read ns n x len steps is = is ∙ (get_or_default ns (n - 1) x 0 (omega arith) ∙ ap (λ m. slice_index ns (m - 1)) len)

-- the row that closes a circle has its last number
pub closing_row : (rows : List (List Target)) (g : List (Vec ℕ Global)) → EachRow (λ a row. row ≡ near (get_or rows a [])) (length rows) g → (ns : List ℕ) → IsCircle (HasEdge g) ns → (closing last : ℕ) → closing < length rows → closing ≡ slice_index ns (length ns - 2) → last ≡ slice_index ns (length ns - 1) → Contains (get_or rows closing []) (Near last)
closing_row rows g each ns c closing last h closing_is last_is =
    let step : HasEdge g (slice_index ns (length ns - 2)) (slice_index ns (length ns - 2 + 1)) = c.walk (length ns - 2) (omega (arith, c.steps)) in
    let at : length ns - 2 + 1 ≡ length ns - 1 = omega (arith, c.steps) in
    let edge : HasEdge g closing last = subst (λ a. HasEdge g a last) (sym closing_is) (subst (HasEdge g (slice_index ns (length ns - 2))) (ap (slice_index ns) at ∙ sym last_is) step) in
    near_is (get_or rows closing []) last (subst (λ row. Contains row last) (each.rows closing h) edge)

-- the dependency that closes a circle
pub closing_dependency : (rs : List (Recipe UnresolvedDependency)) (ns : List ℕ) → IsCircle (Depends rs) ns → (recipe : List ℕ) (names : List (List ℕ)) (closing last : ℕ) (token : Place) → names ≡ map (λ a. name_of_recipe (recipe_at rs a)) ns → recipe ≡ name_of_recipe (recipe_at rs closing)
    → closing ≡ slice_index ns (length ns - 2) → last ≡ slice_index ns (length ns - 1) → (t : IsTokenOn rs closing last token) → IsDependencyOn rs recipe (get_or names (length names - 1) []) t.path
closing_dependency rs ns c recipe names closing last token e r closing_is last_is t =
    let name : ℕ → List ℕ = λ a. name_of_recipe (recipe_at rs a) in
    let read : get_or names (length names - 1) [] ≡ name (slice_index ns (length ns - 1)) =
    ap (λ xs. get_or xs (length xs - 1) []) e ∙ (ap (λ n. get_or (map name ns) (n - 1) []) (length-map ns name) ∙ get_or-map name ns (length ns - 1) 0 [] (omega (arith, c.steps))) in
    record {
      from = closing;
      there = subst (λ x. x < length rs) (sym closing_is) (circle_below rs ns c (length ns - 2) (omega (arith, c.steps)));
      dependent_is = sym r;
      depends = t.depends;
      names = t.names ∙ ap (λ x. x ∷ []) (ap name last_is ∙ sym read);
    }

-- The table of recipes.
use Rattle.std.proofs.Common.{◌≡◌, ◌⊎◌, ℕ, ◌+◌, ◌<◌, Bool, true, false, cond, List, [], ◌∷◌, ◌++◌, map, take, length, None, Some, refl, sym, ap, ◌∙◌, inl, inr}
use Rattle.std.specs.Str.{bytes_eq}
use Rattle.std.proofs.lemmas.List.{map-append, take_more}
use Rattle.std.proofs.lemmas.Slice.Eq.{bytes_eq-Decides}
use Rattle.just_graph.proofs.Index.{some_same}
use Rattle.just_graph.proofs.Members.{In, from_map}
use Rattle.just_names.specs.Texts.{Text}
use Rattle.just_recipe.specs.declared.dependency.UnresolvedDependency.{UnresolvedDependency}
use Rattle.just_recipe.specs.declared.recipe.Recipe.{Recipe}
use Rattle.just_justfile.specs.declared.justfile.RecipeKey.{RecipeKey}
use Rattle.just_table.specs.Entries.{find, put, put_all}
use Rattle.just_table.proofs.Puts.{find_put}
use Rattle.just_module_contents.specs.Recipes.{name_of_recipe, no_recipe, recipe_at}
use Rattle.just_compiled.specs.Analysis.{recipe_key_of, name_of_key, recipe_table}

module _ {V : Type 0} (key : V → Text) where
  all_more : (es : List (Text × V)) (vs : List V) (v : V) → put_all key es (vs ++ v ∷ []) ≡ put (key v) v (put_all key es vs)
  all_more es [] v = refl
  all_more es (w ∷ vs) v = all_more (put (key w) w es) vs v

  put_by : (k : Text) (w v : V) (vs : List V) (es : List (Text × V)) (b : Bool) → bytes_eq k (key w) ≡ b → cond b (Some w) (find k es) ≡ Some v → (In v (w ∷ vs) × (key v ≡ k)) ⊎ (find k es ≡ Some v)
  put_by k w v vs es true at e = let same : w ≡ v = some_same e in inl (inl (sym same), ap key (sym same) ∙ sym ((bytes_eq-Decides k (key w)).0 at))
  put_by k w v vs es false at e = inr e

  -- what is found among values that were put in was put in under this key, or was there before
  pub found_among : (k : Text) (v : V) (es : List (Text × V)) (vs : List V) → find k (put_all key es vs) ≡ Some v → (In v vs × (key v ≡ k)) ⊎ (find k es ≡ Some v)
  found_among k v es [] e = inr e
  found_among k v es (w ∷ vs) e = elim (found_among k v (put (key w) w es) vs e) [
    | inl h ↦ inl (inr h.0, h.1)
    | inr f ↦ put_by k w v vs es (bytes_eq k (key w)) refl (sym (find_put k (key w) w es) ∙ f)
  ]

  absent_before : (k : Text) (es : List (Text × V)) (vs : List V) → find k (put_all key es vs) ≡ None → find k es ≡ None
  absent_before k es [] e = e
  absent_before k es (w ∷ vs) e = past (bytes_eq k (key w)) (sym (find_put k (key w) w es) ∙ absent_before k (put (key w) w es) vs e)
    where
      past : (b : Bool) → cond b (Some w) (find k es) ≡ None → find k es ≡ None
      past true f = cc
      past false f = f

  -- where nothing is found, nothing was put in under this key
  pub not_found : (k : Text) (es : List (Text × V)) (vs : List V) → find k (put_all key es vs) ≡ None → (v : V) → In v vs → key v ≡ k → ⊥
  not_found k es [] e v i same = absurd i
  not_found k es (w ∷ vs) e v (inl is) same =
      let at : bytes_eq k (key w) ≡ true = (bytes_eq-Decides k (key w)).1 (sym same ∙ ap key is) in
      let none : cond true (Some w) (find k es) ≡ None = ap (λ b. cond b (Some w) (find k es)) (sym at) ∙ sym (find_put k (key w) w es) ∙ absent_before k (put (key w) w es) vs e in
      let wrong : Some w ≡ None = none in
      cc
  not_found k es (w ∷ vs) e v (inr i) same = not_found k (put (key w) w es) vs e v i same

-- one more key
pub keys_next : (rs : List (Recipe UnresolvedDependency)) (n : ℕ) (key : RecipeKey) (old new : List (Text × RecipeKey)) → n < length rs → old ≡ recipe_table (take n rs) → key ≡ recipe_key_of (recipe_at rs n)
    → new ≡ put (name_of_key key) key old → new ≡ recipe_table (take (n + 1) rs)
keys_next rs n key old new more so is e =
    e ∙ (λ i. put (name_of_key (is i)) (is i) (so i)) ∙ sym (all_more name_of_key [] (map recipe_key_of (take n rs)) (recipe_key_of (recipe_at rs n)))
    ∙ ap (put_all name_of_key []) (sym (map-append recipe_key_of (take n rs) (recipe_at rs n ∷ [])) ∙ ap (map recipe_key_of) (sym (take_more rs n no_recipe more)))

-- a key that is found is that of a recipe of the name
pub key_found : (rs : List (Recipe UnresolvedDependency)) (name : Text) (key : RecipeKey) → find name (recipe_table rs) ≡ Some key → (r : Recipe UnresolvedDependency) × In r rs × (key ≡ recipe_key_of r) × (name_of_recipe r ≡ name)
key_found rs name key e = elim (found_among name_of_key name key [] (map recipe_key_of rs) e) [
  | inl h ↦ (let r = from_map recipe_key_of key rs h.0 in (r.0, r.1, r.2, ap name_of_key (sym r.2) ∙ h.1))
  | inr none ↦ cc
]

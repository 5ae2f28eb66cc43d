-- What bars a recipe at a place is what disables the recipe of its name, and the sets that are gathered are exactly that.
use Rattle.std.proofs.Common.{◌≡◌, ℕ, ◌+◌, ◌<◌, List, [], ◌∷◌, length, get_or, slice_index, set, refl, sym, ◌∙◌, ap, subst, arith, inl, inr, ◌↔◌, get_or-set_same, get_or-set_other}
use Rattle.std.proofs.lemmas.Bool.{cases_lt}
use Rattle.std.proofs.lemmas.List.{get_or_default}
use Rattle.std.specs.BTreeSet.{BTreeSet}
use Rattle.std.specs.List.{Contains, All}
use Rattle.std.proofs.lemmas.List.Elements.{Contains-get_or}
use Rattle.just_graph.specs.Steps.{in_take}
use Rattle.just_graph.proofs.Members.{In, contained, from_map, is_in, in_left, in_right, in_cases}
use Rattle.just_module_contents.proofs.RecipePlaces.{one_place}
use Rattle.just_module_contents.specs.Recipes.{name_of_recipe, named_paths, names_of, recipe_at}
use Rattle.just_module_recipes.specs.Links.{Around, Disables, by_recipe, by_walk, found_by}
use Rattle.just_module_recipes.specs.loops.Making.{AreExact}
use Rattle.just_module_recipes.specs.Rows.{keys_at, no_paths}
use Rattle.just_module_recipes.specs.loops.Rows.{AreRecipeRows, AreTold, Bars, IsOrderOf, IsTargetOf, SameMembers, gathered_paths, itself, near, through}
use Rattle.just_module_recipes.specs.declared.targets.Target.{Target}
use Rattle.just_module_recipes.specs.declared.targets.Target.TheVariants.{Near, Far, Gone}
use Rattle.just_module_recipes.proofs.Finding.{gone_only, path_there}
use Rattle.just_module_recipes.proofs.Nearby.{near_has, near_is}
use Rattle.just_module_recipes.proofs.Steps.{row_steps, steps_row}
use Rattle.just_module_recipes.proofs.Zipped.{zip_back, zip_forth}
use Rattle.just_names.specs.Index.{AreDifferent}
use Rattle.just_names.specs.Texts.{Text}
use Rattle.just_paths.specs.declared.modulepath.Modulepath.{Modulepath}
use Rattle.just_recipe.specs.declared.dependency.UnresolvedDependency.{UnresolvedDependency}
use Rattle.just_recipe.specs.declared.recipe.Recipe.{Recipe}

module _ (sets : List (BTreeSet Modulepath)) where
  in_near : (ts : List Target) (j : ℕ) (p : Modulepath) → In (Near j) ts → In p (keys_at sets j) → In p (gathered_paths sets ts)
  in_near [] j p h m = absurd h
  in_near (Near k ∷ ts) j p (inl e) m = let same : j ≡ k = cc in in_left p (keys_at sets k) (gathered_paths sets ts) (subst (λ x. In p (keys_at sets x)) same m)
  in_near (Near k ∷ ts) j p (inr h) m = in_right p (keys_at sets k) (gathered_paths sets ts) (in_near ts j p h m)
  in_near (Far n ∷ ts) j p (inl e) m = absurd (cc)
  in_near (Far n ∷ ts) j p (inr h) m = in_near ts j p h m
  in_near (Gone ps ∷ ts) j p (inl e) m = absurd (cc)
  in_near (Gone ps ∷ ts) j p (inr h) m = in_right p ps.keys (gathered_paths sets ts) (in_near ts j p h m)

  in_gone : (ts : List Target) (qs : BTreeSet Modulepath) (p : Modulepath) → In (Gone qs) ts → In p qs.keys → In p (gathered_paths sets ts)
  in_gone [] qs p h m = absurd h
  in_gone (Near k ∷ ts) qs p (inl e) m = absurd (cc)
  in_gone (Near k ∷ ts) qs p (inr h) m = in_right p (keys_at sets k) (gathered_paths sets ts) (in_gone ts qs p h m)
  in_gone (Far n ∷ ts) qs p (inl e) m = absurd (cc)
  in_gone (Far n ∷ ts) qs p (inr h) m = in_gone ts qs p h m
  in_gone (Gone ps ∷ ts) qs p (inl e) m = let same : qs ≡ ps = cc in in_left p ps.keys (gathered_paths sets ts) (subst (λ (x : BTreeSet Modulepath). In p x.keys) same m)
  in_gone (Gone ps ∷ ts) qs p (inr h) m = in_right p ps.keys (gathered_paths sets ts) (in_gone ts qs p h m)

  module _ (rows : List (List Target)) (i : ℕ) (told : (j : ℕ) → Contains (get_or rows i []) (Near j) → (p : Modulepath) → Contains (keys_at sets j) p ↔ Bars rows j p) where
    from_gathered : (ts : List Target) → ((t : Target) → In t ts → Contains (get_or rows i []) t) → (p : Modulepath) → In p (gathered_paths sets ts) → Bars rows i p
    from_gathered [] sub p h = absurd h
    from_gathered (Near j ∷ ts) sub p h = elim (in_cases p (keys_at sets j) (gathered_paths sets ts) h) [
      | inl l ↦ through j (sub (Near j) (inl refl)) ((told j (sub (Near j) (inl refl)) p).0 (contained p (keys_at sets j) l))
      | inr r ↦ from_gathered ts (λ t k. sub t (inr k)) p r
    ]
    from_gathered (Far n ∷ ts) sub p h = from_gathered ts (λ t k. sub t (inr k)) p h
    from_gathered (Gone ps ∷ ts) sub p h = elim (in_cases p ps.keys (gathered_paths sets ts) h) [
      | inl l ↦ itself ps (sub (Gone ps) (inl refl)) (contained p ps.keys l)
      | inr r ↦ from_gathered ts (λ t k. sub t (inr k)) p r
    ]

    into_gathered : (p : Modulepath) → Bars rows i p → In p (gathered_paths sets (get_or rows i []))
    into_gathered p (itself ps c m) = in_gone (get_or rows i []) ps p (is_in (Gone ps) (get_or rows i []) c) (is_in p ps.keys m)
    into_gathered p (through j c b) = in_near (get_or rows i []) j p (is_in (Near j) (get_or rows i []) c) (is_in p (keys_at sets j) ((told j c p).1 b))

    pub gathered_told : (all : List Modulepath) → SameMembers all (gathered_paths sets (get_or rows i [])) → (p : Modulepath) → Contains all p ↔ Bars rows i p
    gathered_told all s p = (
      (λ (c : Contains all p). from_gathered (get_or rows i []) (λ t k. contained t (get_or rows i []) k) p (is_in p (gathered_paths sets (get_or rows i [])) (s.into p c))),
      (λ (b : Bars rows i p). s.back p (contained p (gathered_paths sets (get_or rows i [])) (into_gathered p b))),
    )

-- one more place of an order
pub told_more : (rows : List (List Target)) (order : List ℕ) (o : IsOrderOf rows order) (sets : List (BTreeSet Modulepath)) (n : ℕ) (all : BTreeSet Modulepath) → length sets ≡ length rows → n < length order → AreTold rows order n sets
    → SameMembers all.keys (gathered_paths sets (get_or rows (slice_index order n) [])) → AreTold rows order (n + 1) (set sets (slice_index order n) all)
told_more rows order o sets n all count h told s k l p = elim (cases_lt k n) [
  | inl below ↦ subst (λ (xs : BTreeSet Modulepath). Contains xs.keys p ↔ Bars rows (slice_index order k) p) (sym (get_or-set_other sets (slice_index order n) (slice_index order k) all no_paths (λ e. o.once k n below h e))) (told k below p)
  | inr above ↦
      let same : n ≡ k = omega arith in
      let i : ℕ = slice_index order n in
      let inside : i < length sets = omega (arith, o.below n h) in
      let known : ((j : ℕ) → Contains (get_or rows i []) (Near j) → (p : Modulepath) → Contains (keys_at sets j) p ↔ Bars rows j p) = (λ j c q.
      let b = in_take order n j (omega arith) (o.first n j h (near_has (get_or rows i []) j c)) in
      subst (λ x. Contains (keys_at sets x) q ↔ Bars rows x q) b.2 (told b.0 b.1 q)) in
      subst (λ m. Contains (keys_at (set sets i all) (slice_index order m)) p ↔ Bars rows (slice_index order m) p) same
      (subst (λ (xs : BTreeSet Modulepath). Contains xs.keys p ↔ Bars rows i p) (sym (get_or-set_same sets i all no_paths inside)) (gathered_told sets rows i known all.keys s p))
]

module _ (rs : List (Recipe UnresolvedDependency)) (different : AreDifferent (names_of rs)) (it : Around) (rows : List (List Target)) (are : AreRecipeRows rs it (length rs) rows) where
  pub bars_disables : (i : ℕ) (p : Modulepath) → i < length rs → Bars rows i p → Disables rs it (name_of_recipe (recipe_at rs i)) p
  bars_disables i p h (itself set c m) =
      let t = zip_back (IsTargetOf rs it) (recipe_at rs i).dependencies (get_or rows i []) (Gone set) (are.each i h) (is_in (Gone set) (get_or rows i []) c) in
      by_walk t.0.recipe set (record { from = i; there = h; name_is = refl; depends = path_there rs it (recipe_at rs i) t.0 (contained t.0 (recipe_at rs i).dependencies t.1) }) t.2 m
  bars_disables i p h (through j c b) =
      let s = row_steps rs different it rows are i j h (near_has (get_or rows i []) j c) in
      by_recipe (name_of_recipe (recipe_at rs j)) (record { from = i; to = j; step = s; dependent_is = refl; name_is = refl }) (bars_disables j p s.there b)

  pub disables_bars : (name : Text) (p : Modulepath) → Disables rs it name p → (i : ℕ) → i < length rs → name_of_recipe (recipe_at rs i) ≡ name → Bars rows i p
  disables_bars name p (by_walk d set by res m) i l n =
      let same : by.from ≡ i = one_place rs different by.from i by.there l (by.name_is ∙ sym n) in
      let x = from_map (λ (d : UnresolvedDependency). d.recipe) d (recipe_at rs by.from).dependencies (is_in d (named_paths (recipe_at rs by.from)) by.depends) in
      let t = zip_forth (IsTargetOf rs it) (recipe_at rs by.from).dependencies (get_or rows by.from []) x.0 (are.each by.from by.there) x.1 in
      let gone : t.0 ≡ Gone set = gone_only rs it x.0.recipe t.0 set t.2 (ap (found_by it) (sym x.2) ∙ res) in
      subst (λ k. Bars rows k p) same (itself set (subst (Contains (get_or rows by.from [])) gone (contained t.0 (get_or rows by.from []) t.1)) m)
  disables_bars name p (by_recipe other s rest) i l n =
      let same : s.from ≡ i = one_place rs different s.from i s.step.dependent l (s.dependent_is ∙ sym n) in
      subst (λ k. Bars rows k p) same (through s.to (near_is (get_or rows s.from []) s.to (steps_row rs different it rows are s.from s.to s.step)) (disables_bars other p rest s.to s.step.there s.name_is))

  -- the sets of an order are exact
  pub are_exact : (order : List ℕ) → IsOrderOf rows order → (sets : List (BTreeSet Modulepath)) → length sets ≡ length rows → AreTold rows order (length order) sets → AreExact rs it sets
  are_exact order o sets count told = record {
    count = count ∙ are.count;
    exact = λ i h p.
        let c = o.all i (omega (arith, are.count)) in
        let e : slice_index order c.0 ≡ i = get_or_default order c.0 0 i c.1 ∙ c.2 in
        let b : Contains (keys_at sets i) p ↔ Bars rows i p = subst (λ x. Contains (keys_at sets x) p ↔ Bars rows x p) e (told c.0 c.1 p) in (
          (λ (m : Contains (keys_at sets i) p). bars_disables i p h (b.0 m)),
          (λ (d : Disables rs it (name_of_recipe (recipe_at rs i)) p). b.1 (disables_bars (name_of_recipe (recipe_at rs i)) p d i h refl)),
        );
  }

-- the places of a row are those of rows
pub near_below : (rows : List (List Target)) (order : List ℕ) → IsOrderOf rows order → (i n : ℕ) → length rows ≡ n → i < length rows → (row : List Target) → row ≡ get_or rows i [] → All (λ j. j < n) (near row)
near_below rows order o i n count h row e k d l =
    let c : Contains (near (get_or rows i [])) (get_or (near row) k d) = subst (λ ts. Contains (near ts) (get_or (near row) k d)) e (Contains-get_or (near row) k d l) in
    let b : get_or (near row) k d < length rows = o.inside i (get_or (near row) k d) h c in
    omega arith

-- the sets of an order are exactly what bars
pub told_at : (rows : List (List Target)) (order : List ℕ) (sets : List (BTreeSet Modulepath)) → IsOrderOf rows order → AreTold rows order (length order) sets → (i : ℕ) → i < length rows → (p : Modulepath) → Contains (keys_at sets i) p ↔ Bars rows i p
told_at rows order sets o told i h p =
    let c = o.all i h in
    let e : slice_index order c.0 ≡ i = get_or_default order c.0 0 i c.1 ∙ c.2 in
    subst (λ x. Contains (keys_at sets x) p ↔ Bars rows x p) e (told c.0 c.1 p)

-- The numbers of the recipes to which tasks lead.
use Rattle.std.proofs.Common.{◌≡◌, ◌↔◌, ◌∙◌, ℕ, zero, suc, ◌<◌, ◌≤◌, ◌||◌, Bool, true, false, List, [], ◌∷◌, ◌++◌, length, map, get_or, replicate, Option, Some, refl, sym, ap, subst, arith, inl, inr}
use Rattle.std.specs.Prelude.{Vec}
use Rattle.std.specs.Global.{Global}
use Rattle.std.specs.List.{All, Contains, list_any, slice_get}
use Rattle.std.proofs.lemmas.Bool.{cases_lt, or_cases}
use Rattle.std.proofs.lemmas.List.Elements.{All-contains}
use Rattle.just_tasks.specs.Leading.{DependsOnPlace, LeadTo, needed_places, places}
use Rattle.just_tasks.specs.declared.task.Task.{Task}
use Rattle.just_tasks.proofs.Places.{IsBefore, at-place, needs-before}
use Rattle.just_tasks.specs.Pairs.{AllBelow, needed}
use Rattle.just_graph.specs.Building.{EachRow, targets_past}
use Rattle.just_graph.specs.Graph.{HasEdge, IsGraph, targets}
use Rattle.just_graph.specs.Steps.{Reached, from_member, from_start}
use Rattle.just_graph.proofs.Members.{In, all_in, contained, from_map, in_cases, in_left, in_right, is_in}
use Rattle.just_name_resolution.proofs.Sets.{number_itself, one_number, or_left, or_right}
use Rattle.just_names.specs.declared.number.Number.{Number}
use Rattle.just_parts.specs.Needs.{same_number}
use Rattle.just_recipe.specs.Recipes.{DependenciesStandFirst}
use Rattle.just_recipe.specs.declared.dependency.Dependency.{Dependency}
use Rattle.just_recipe.specs.declared.recipe.Recipe.{Recipe}
use Rattle.just_recipes.specs.Places.{place_of}
use Rattle.just_scopes.specs.loops.Need.{AreUsed}

-- what is reached goes by the stops alone that are set, and by steps that are the same
pub reached-as : {R S : ℕ → ℕ → Type 0} {start : List ℕ} {stops : List Bool} → ((a b : ℕ) → R a b → S a b) → {a : ℕ} → Reached R start stops a → Reached S start [] a
reached-as f (from_start c) = from_start c
reached-as f (from_member {a = a} {b = b} r on s) = from_member (reached-as f r) refl (f a b s)

pub reached-on : {R S : ℕ → ℕ → Type 0} {start : List ℕ} (stops : List Bool) → ((k : ℕ) → get_or stops k false ≡ false) → ((a b : ℕ) → R a b → S a b) → {a : ℕ} → Reached R start [] a → Reached S start stops a
reached-on stops off f (from_start c) = from_start c
reached-on stops off f (from_member {a = a} {b = b} r on s) = from_member (reached-on stops off f r) (off a) (f a b s)

-- a number that is in a list
pub number-in : (ns : List Number) (n : Number) → list_any (same_number n) ns ≡ true → Contains ns n
number-in ns n h = contained n ns (go ns h)
  where
    by : (b : Bool) (m : Number) (ms : List Number) → (list_any (same_number n) ms ≡ true → In n ms) → same_number n m ≡ b → (b || list_any (same_number n) ms) ≡ true → In n (m ∷ ms)
    by true m ms rest is h = inl (one_number n m is)
    by false m ms rest is h = inr (rest h)

    go : (ms : List Number) → list_any (same_number n) ms ≡ true → In n ms
    go [] h = cc
    go (m ∷ ms) h = by (same_number n m) m ms (go ms) refl h

pub in-number : (ns : List Number) (n : Number) → Contains ns n → list_any (same_number n) ns ≡ true
in-number ns n c = go ns (is_in n ns c)
  where
    go : (ms : List Number) → In n ms → list_any (same_number n) ms ≡ true
    go [] i = absurd i
    go (m ∷ ms) (inl e) = or_left (same_number n m) (list_any (same_number n) ms) (ap (same_number n) (sym e) ∙ number_itself n)
    go (m ∷ ms) (inr i) = or_right (same_number n m) (list_any (same_number n) ms) (go ms i)

-- the numbers of the recipes at some places
pub record IsUsedAt (recipes : List (Recipe Dependency)) (found : List ℕ) (n : Number) : Type 0 where
  pub place : ℕ
  pub recipe : Recipe Dependency
  pub among : Contains found place
  pub at : slice_get recipes place ≡ Some recipe
  pub there : Contains recipe.variable_references n

abbrev pub AreUsedAt : List (Recipe Dependency) → List ℕ → (Number → Bool) → Type 0
AreUsedAt recipes found used = (n : Number) → (used n ≡ true) ↔ IsUsedAt recipes found n

module _ (recipes : List (Recipe Dependency)) where
  pub none-used : (used : Number → Bool) → ((n : Number) → used n ≡ false) → AreUsedAt recipes [] used
  none-used used none n = ((λ h. absurd (let wrong : true ≡ false = sym h ∙ none n in cc)), (λ u. absurd (is_in u.place [] u.among)))

  pub more-used : (found more : List ℕ) (place : ℕ) (recipe : Recipe Dependency) (old new : Number → Bool) → more ≡ found ++ place ∷ [] → slice_get recipes place ≡ Some recipe →
      ((n : Number) → new n ≡ (old n || list_any (same_number n) recipe.variable_references)) → AreUsedAt recipes found old → AreUsedAt recipes more new
  more-used found more place recipe old new pushed at gains are n = (
    (λ h. elim (or_cases (old n) (list_any (same_number n) recipe.variable_references) (sym (gains n) ∙ h)) [
      | inl o ↦
          let u = (are n).0 o in
          record { place = u.place; recipe = u.recipe; among = subst (λ xs. Contains xs u.place) (sym pushed) (contained u.place (found ++ place ∷ []) (in_left u.place found (place ∷ []) (is_in u.place found u.among))); at = u.at; there = u.there }
      | inr i ↦ record {
        place = place;
        recipe = recipe;
        among = subst (λ xs. Contains xs place) (sym pushed) (contained place (found ++ place ∷ []) (in_right place found (place ∷ []) (inl refl)));
        at = at;
        there = number-in recipe.variable_references n i;
      }
    ]),
    (λ u. gains n ∙ elim (in_cases u.place found (place ∷ []) (is_in u.place (found ++ place ∷ []) (subst (λ xs. Contains xs u.place) pushed u.among))) [
      | inl i ↦ or_left (old n) (list_any (same_number n) recipe.variable_references) ((are n).1 (record { place = u.place; recipe = u.recipe; among = contained u.place found i; at = u.at; there = u.there }))
      | inr (inl e) ↦
          let same : u.recipe ≡ recipe = one-got (slice_get recipes place) u.recipe recipe (ap (slice_get recipes) (sym e) ∙ u.at) at in
          or_right (old n) (list_any (same_number n) recipe.variable_references) (in-number recipe.variable_references n (subst (λ (r : Recipe Dependency). Contains r.variable_references n) same u.there))
      | inr (inr nothing) ↦ absurd nothing
    ]),
  )
    where
      one-got : (o : Option (Recipe Dependency)) (x y : Recipe Dependency) → o ≡ Some x → o ≡ Some y → x ≡ y
      one-got o x y h k = cc

  pub all-used : (tops : List Task) (found : List ℕ) (used : Number → Bool) → ((a : ℕ) → Contains found a ↔ LeadTo recipes tops a) → AreUsedAt recipes found used → AreUsed recipes tops used
  all-used tops found used reached are n = (
    (λ h. let u = (are n).0 h in record { place = u.place; recipe = u.recipe; led = (reached u.place).0 u.among; at = u.at; there = u.there }),
    (λ u. (are n).1 (record { place = u.place; recipe = u.recipe; among = (reached u.place).1 u.led; at = u.at; there = u.there })),
  )

-- the graph of what recipes depend on
all-off : (n k : ℕ) → get_or (replicate n false) k false ≡ false
all-off zero k = refl
all-off (suc n) zero = refl
all-off (suc n) (suc k) = all-off n k

none-past : (recipes : List (Recipe Dependency)) (k : ℕ) → length recipes ≤ k → needed recipes k ≡ []
none-past [] k h = refl
none-past (r ∷ rs) zero h = absurd (omega arith)
none-past (r ∷ rs) (suc k) h = none-past rs k (omega arith)

got-at : (recipes : List (Recipe Dependency)) (k : ℕ) → k < length recipes → (r : Recipe Dependency) × (slice_get recipes k ≡ Some r)
got-at [] k h = absurd (omega arith)
got-at (r ∷ rs) zero h = (r, refl)
got-at (r ∷ rs) (suc k) h = got-at rs k (omega arith)

module _ (recipes : List (Recipe Dependency)) (ordered : DependenciesStandFirst recipes) (rows : List (Vec ℕ Global)) (are : EachRow (λ place row. row ≡ needed_places recipes place) (length recipes) rows) where
  same-row : (a : ℕ) → targets rows a ≡ needed_places recipes a
  same-row a = elim (cases_lt a (length recipes)) [
    | inl l ↦ are.rows a l
    | inr l ↦ targets_past rows a (omega (arith, are.count)) ∙ sym (ap (map (λ (d : Dependency). place_of recipes d.recipe.0)) (none-past recipes a (omega arith)))
  ]

  needed-below : (a b : ℕ) → DependsOnPlace recipes a b → b < length recipes
  needed-below a b c = elim (cases_lt a (length recipes)) [
    | inl l ↦
        let r = got-at recipes a l in
        let i = from_map (λ (d : Dependency). place_of recipes d.recipe.0) b (needed recipes a) (is_in b (needed_places recipes a) c) in
        let own : needed recipes a ≡ r.0.dependencies = at-place (λ (r : Recipe Dependency). r.dependencies) recipes a r.0 r.1 in
        let before = All-contains (IsBefore recipes a) r.0.dependencies i.0 (needs-before recipes a r.0 ordered r.1) (contained i.0 r.0.dependencies (subst (In i.0) own i.1)) in
        omega (arith, before.1, i.2, l)
    | inr l ↦ absurd (is_in b [] (subst (λ ns. Contains ns b) (ap (map (λ (d : Dependency). place_of recipes d.recipe.0)) (none-past recipes a (omega arith))) c))
  ]

  pub is-graph : IsGraph rows
  is-graph a b edge = let below = needed-below a b (subst (λ ns. Contains ns b) (same-row a) edge) in omega (arith, below, are.count)

  pub starts-below : (tops : List Task) → AllBelow (length recipes) tops → (starts : List ℕ) → starts ≡ places tops → All (λ a. a < length rows) starts
  starts-below tops below starts same = subst (All (λ a. a < length rows)) (sym same) (all_in (λ a. a < length rows) (places tops) (λ a i.
      let f = from_map (λ (t : Task). t.pair.recipe) a tops i in
      let l = All-contains (λ (t : Task). t.pair.recipe < length recipes) tops f.0 below (contained f.0 tops f.1) in
      omega (arith, l, f.2, are.count)))

  -- what is reached is there
  pub reached-below : {start : List ℕ} {stops : List Bool} → All (λ a. a < length rows) start → (a : ℕ) → Reached (HasEdge rows) start stops a → a < length recipes
  reached-below {start = start} below a (from_start c) = let l = All-contains (λ a. a < length rows) start a below c in omega (arith, l, are.count)
  reached-below below a (from_member {a = b} r on s) = let l = is-graph b a s in omega (arith, l, are.count)

  -- and it is what tasks lead to
  pub reaches : (tops : List Task) (starts : List ℕ) (stops : List Bool) → starts ≡ places tops → ((k : ℕ) → get_or stops k false ≡ false) → (a : ℕ) → Reached (HasEdge rows) starts stops a ↔ LeadTo recipes tops a
  reaches tops starts stops same off a = (
    (λ r. subst (λ ns. Reached (DependsOnPlace recipes) ns [] a) same (reached-as (λ x y s. subst (λ ns. Contains ns y) (same-row x) s) r)),
    (λ l. subst (λ ns. Reached (HasEdge rows) ns stops a) (sym same) (reached-on stops off (λ x y s. subst (λ ns. Contains ns y) (sym (same-row x)) s) l)),
  )

pub are-off : (n : ℕ) (stops : List Bool) → stops ≡ replicate n false → (k : ℕ) → get_or stops k false ≡ false
are-off n stops same k = ap (λ bs. get_or bs k false) same ∙ all-off n k

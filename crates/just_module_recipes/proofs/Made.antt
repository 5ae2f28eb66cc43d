-- What is made of an order.
use Rattle.std.proofs.Common.{◌≡◌, ℕ, suc, ◌+◌, ◌<◌, Bool, List, [], ◌∷◌, ◌++◌, map, length, get_or, slice_index, take, Some, IsSome, refl, sym, ◌∙◌, ap, subst, arith, inl, inr, ◌↔◌, append_assoc, append-nil}
use Rattle.std.specs.BTreeSet.{BTreeSet}
use Rattle.std.specs.List.{All, Contains, flat_map}
use Rattle.std.proofs.lemmas.Bool.{cases_lt}
use Rattle.std.proofs.lemmas.List.{get_or_default, length-map, length-take-le, take_more}
use Rattle.std.proofs.lemmas.List.Elements.{All-contains}
use Rattle.just_graph.proofs.Members.{In, all_in, contained, from_flat, from_map, in_cases, in_flat, in_right, is_in}
use Rattle.just_graph.specs.Steps.{IsOnce, in_take}
use Rattle.just_module_contents.specs.Recipes.{name_of_recipe, recipe_at}
use Rattle.just_module_contents.specs.Resolved.{AreNew, number_at, path_to, unresolved_numbers}
use Rattle.just_module_recipes.specs.loops.Completing.{IsCompleting}
use Rattle.just_module_recipes.specs.loops.Making.{AreAllThere, IsThere, SoFar, link_of, links_of, made, made_of, target_number, parameters_in, parameters_of, settled_of}
use Rattle.just_module_recipes.specs.Rows.{keys_at}
use Rattle.just_module_recipes.specs.loops.Rows.{Bars, IsOrderOf, through}
use Rattle.just_module_recipes.specs.declared.targets.Target.{Target}
use Rattle.just_module_recipes.specs.declared.targets.Target.TheVariants.{Near, Far, Gone}
use Rattle.just_module_recipes.proofs.Held.{empty_or, flat-append, held_more, held_same, held_there, none_in, number_of_place, number_unique, numbers_in}
use Rattle.just_module_recipes.proofs.Nearby.{near_has}
use Rattle.just_module_recipes.proofs.SameSets.{taken}
use Rattle.just_names.specs.declared.number.Number.{Number}
use Rattle.just_paths.specs.declared.modulepath.Modulepath.{Modulepath}
use Rattle.just_recipe.specs.Grouping.{grouped}
use Rattle.just_recipe.specs.Resolved.{resolved}
use Rattle.just_recipe.specs.Recipes.{IsNew, find_number, needs, numbers}
use Rattle.just_recipe.specs.declared.dependency.Dependency.{Dependency}
use Rattle.just_recipe.specs.declared.dependency.UnresolvedDependency.{UnresolvedDependency}
use Rattle.just_recipe.specs.declared.recipe.Recipe.{Recipe}

-- links over recipes to which others were added are the same
parameters_more : (rs : List (Recipe UnresolvedDependency)) (old ys : List (Recipe Dependency)) (t : Target) → IsThere rs old t → parameters_of rs (old ++ ys) t ≡ parameters_of rs old t
parameters_more rs old ys (Near j) h = refl
parameters_more rs old ys (Far n) h = ap parameters_in (held_same old ys n.0 h)
parameters_more rs old ys (Gone set) h = refl

links_more : (lists : Bool) (rs : List (Recipe UnresolvedDependency)) (old ys : List (Recipe Dependency)) (ds : List UnresolvedDependency) (ts : List Target) → ((t : Target) → In t ts → IsThere rs old t) → links_of lists rs (old ++ ys) ds ts ≡ links_of lists rs old ds ts
links_more lists rs old ys [] ts h = refl
links_more lists rs old ys (d ∷ ds) [] h = refl
links_more lists rs old ys (d ∷ ds) (t ∷ ts) h =
    ap (λ ps. let l : Dependency = record { arguments = grouped lists ps d.arguments; path = d.recipe; recipe = target_number rs t } in l ∷ links_of lists rs (old ++ ys) ds ts) (parameters_more rs old ys t (h t (inl refl)))
    ∙ ap (λ ls. link_of lists rs old d t ∷ ls) (links_more lists rs old ys ds ts (λ u k. h u (inr k)))

pub links_length : (lists : Bool) (rs : List (Recipe UnresolvedDependency)) (held : List (Recipe Dependency)) (ds : List UnresolvedDependency) (ts : List Target) → length ts ≡ length ds → length (links_of lists rs held ds ts) ≡ length ds
links_length lists rs held [] ts e = refl
links_length lists rs held (d ∷ ds) [] e = absurd (omega arith)
links_length lists rs held (d ∷ ds) (t ∷ ts) e = ap suc (links_length lists rs held ds ts (omega arith))

-- the numbers that links lead to
pub links_numbers : (lists : Bool) (rs : List (Recipe UnresolvedDependency)) (held : List (Recipe Dependency)) (ds : List UnresolvedDependency) (ts : List Target) → length ts ≡ length ds → map (λ (d : Dependency). d.recipe.0) (links_of lists rs held ds ts) ≡ map (λ t. (target_number rs t).0) ts
links_numbers lists rs held [] [] e = refl
links_numbers lists rs held [] (t ∷ ts) e = absurd (omega arith)
links_numbers lists rs held (d ∷ ds) [] e = absurd (omega arith)
links_numbers lists rs held (d ∷ ds) (t ∷ ts) e = ap (λ ns. (target_number rs t).0 ∷ ns) (links_numbers lists rs held ds ts (omega arith))

-- what a recipe that is made needs
pub needs_made : (by : Recipe UnresolvedDependency → Recipe UnresolvedDependency) (needed : List (List Number)) (lists : Bool) (rs : List (Recipe UnresolvedDependency)) (held : List (Recipe Dependency)) (path : Modulepath) (r : Recipe UnresolvedDependency) (has : List Number) (row : List Target) (m : Recipe Dependency) → m ≡ made_of by needed lists rs held path r has row → length row ≡ length (by r).dependencies
    → All (λ t. Contains (numbers held) (target_number rs t).0) row → All (Contains (numbers held)) (needs m)
needs_made by needed lists rs held path r has row m e count all =
    let is : needs m ≡ map (λ t. (target_number rs t).0) row = ap needs e ∙ links_numbers lists rs held (by r).dependencies row count in
    subst (All (Contains (numbers held))) (sym is) (all_in (Contains (numbers held)) (map (λ t. (target_number rs t).0) row) (λ n h.
    let t = from_map (λ t. (target_number rs t).0) n row h in
    subst (Contains (numbers held)) (sym t.2) (All-contains (λ t. Contains (numbers held) (target_number rs t).0) row t.0 all (contained t.0 row t.1))))

-- one more link
links_push : (lists : Bool) (rs : List (Recipe UnresolvedDependency)) (held : List (Recipe Dependency)) (ds : List UnresolvedDependency) (ts : List Target) (d : UnresolvedDependency) (t : Target) → length ts ≡ length ds → links_of lists rs held (ds ++ d ∷ []) (ts ++ t ∷ []) ≡ links_of lists rs held ds ts ++ link_of lists rs held d t ∷ []
links_push lists rs held [] [] d t e = refl
links_push lists rs held [] (y ∷ ts) d t e = absurd (omega arith)
links_push lists rs held (x ∷ ds) [] d t e = absurd (omega arith)
links_push lists rs held (x ∷ ds) (y ∷ ts) d t e = ap (λ ls. link_of lists rs held x y ∷ ls) (links_push lists rs held ds ts d t (omega arith))

pub link_next : (lists : Bool) (rs : List (Recipe UnresolvedDependency)) (held : List (Recipe Dependency)) (ds : List UnresolvedDependency) (ts : List Target) (at : ℕ) (d : UnresolvedDependency) (t : Target) → at < length ds → at < length ts → d ≡ get_or ds at d → t ≡ get_or ts at t
    → (link : Dependency) (old new : List Dependency) → old ≡ links_of lists rs held (take at ds) (take at ts) → link ≡ link_of lists rs held d t → new ≡ old ++ link ∷ [] → new ≡ links_of lists rs held (take (at + 1) ds) (take (at + 1) ts)
link_next lists rs held ds ts at d t hd ht ed et link old new o l n =
    let same : length (take at ts) ≡ length (take at ds) = omega (arith, length-take-le at ts (omega arith), length-take-le at ds (omega arith)) in
    n ∙ (ap (λ xs. xs ++ link ∷ []) o ∙ (ap (λ (x : Dependency). links_of lists rs held (take at ds) (take at ts) ++ x ∷ []) l
    ∙ (sym (links_push lists rs held (take at ds) (take at ts) d t same)
    ∙ (ap (λ xs. links_of lists rs held xs (take at ts ++ t ∷ [])) (sym (taken ds at d hd ed)) ∙ ap (links_of lists rs held (take (at + 1) ds)) (sym (taken ts at t ht et))))))

module _ (by : Recipe UnresolvedDependency → Recipe UnresolvedDependency) (completes : IsCompleting by) (needed : List (List Number)) (lists : Bool) (rs : List (Recipe UnresolvedDependency)) (path : Modulepath) (rows : List (List Target)) (sets : List (BTreeSet Modulepath)) (old : List (Recipe Dependency)) where
  -- what is made of the recipe at a place, where it is made
  abbrev pub at_place : ℕ → Recipe Dependency
  at_place i = made_of by needed lists rs old path (recipe_at rs i) (get_or needed i []) (get_or rows i [])

  into_settled : (i : ℕ) (set : List Modulepath) → set ≡ [] → In (at_place i) (settled_of by needed lists rs old path (get_or rows i []) set i)
  into_settled i [] e = inl refl
  into_settled i (p ∷ ps) e = absurd (cc)

  from_settled : (i : ℕ) (x : Recipe Dependency) (set : List Modulepath) → In x (settled_of by needed lists rs old path (get_or rows i []) set i) → (set ≡ []) × (x ≡ at_place i)
  from_settled i x [] (inl e) = (refl, e)
  from_settled i x [] (inr h) = absurd h
  from_settled i x (p ∷ ps) h = absurd h

  -- a recipe that is made is made of a place of the order
  pub from_made : (order : List ℕ) (x : Recipe Dependency) → In x (made by needed lists rs old path rows sets order) → (i : ℕ) × In i order × (keys_at sets i ≡ []) × (x ≡ at_place i)
  from_made order x h =
      let f = from_flat (λ k. settled_of by needed lists rs old path (get_or rows k []) (keys_at sets k) k) x order h in
      let g = from_settled f.0 x (keys_at sets f.0) f.2 in
      (f.0, f.1, g.0, g.1)

  into_made : (order : List ℕ) (i : ℕ) → In i order → keys_at sets i ≡ [] → In (at_place i) (made by needed lists rs old path rows sets order)
  into_made order i h e = in_flat (λ k. settled_of by needed lists rs old path (get_or rows k []) (keys_at sets k) k) (at_place i) i order h (into_settled i (keys_at sets i) e)

  number_made : (i : ℕ) (x : Recipe Dependency) → x ≡ at_place i → x.number.0 ≡ (recipe_at rs i).number.0
  number_made i x e = ap (λ (r : Recipe Dependency). r.number.0) e ∙ ap (λ (n : Number). n.0) (completes.number (recipe_at rs i))

  module _ (once : IsOnce (unresolved_numbers rs)) where
    -- a number has one place
    number_once : (i j : ℕ) → i < length rs → j < length rs → (recipe_at rs i).number.0 ≡ (recipe_at rs j).number.0 → i ≡ j
    number_once i j hi hj e =
        let count : length (unresolved_numbers rs) ≡ length rs = length-map rs (λ (r : Recipe UnresolvedDependency). r.number.0) in
        let same : number_at rs i ≡ number_at rs j = number_of_place rs i hi ∙ (e ∙ sym (number_of_place rs j hj)) in
        elim (cases_lt i j) [
          | inl l ↦ absurd (once i j l (omega (arith, count)) same)
          | inr l ↦ elim (cases_lt j i) [
            | inl m ↦ absurd (once j i m (omega (arith, count)) (sym same))
            | inr m ↦ omega arith
          ]
        ]

    number_there : (i : ℕ) → i < length rs → Contains (unresolved_numbers rs) (recipe_at rs i).number.0
    number_there i h =
        let count : length (unresolved_numbers rs) ≡ length rs = length-map rs (λ (r : Recipe UnresolvedDependency). r.number.0) in
        let l : i < length (unresolved_numbers rs) = omega (arith, count) in
        (i, l, get_or_default (unresolved_numbers rs) i (recipe_at rs i).number.0 0 l ∙ number_of_place rs i h)

    module _ (apart : AreNew old rs) (order : List ℕ) (o : IsOrderOf rows order) (many : length rows ≡ length rs) where
      place_below : (i : ℕ) → In i order → i < length rs
      place_below i h =
          let c = contained i order h in
          let b = o.below c.0 c.1 in
          let is : slice_index order c.0 ≡ i = get_or_default order c.0 0 i c.1 ∙ c.2 in
          omega (arith, many)

      -- the recipe of a place is found under its number
      pub found_made : (i : ℕ) → i < length rs → keys_at sets i ≡ [] → find_number (old ++ made by needed lists rs old path rows sets order) (recipe_at rs i).number.0 ≡ Some (at_place i)
      found_made i h e =
          let all : List (Recipe Dependency) = made by needed lists rs old path rows sets order in
          let there : In (at_place i) (old ++ all) = in_right (at_place i) old all (into_made order i (is_in i order (o.all i (omega (arith, many)))) e) in
          number_unique (old ++ all) (recipe_at rs i).number.0 (at_place i) there (number_made i (at_place i) refl) (λ y m n.
          elim (in_cases y old all m) [
            | inl l ↦ absurd (apart (recipe_at rs i).number.0 (subst (Contains (numbers old)) n (numbers_in y old l)) (number_there i h))
            | inr r ↦
                let f = from_made order y r in
                let k : f.0 ≡ i = number_once f.0 i (place_below f.0 f.1) h (sym (number_made f.0 y f.3) ∙ n) in
                f.3 ∙ ap at_place k
          ])

      -- the number of the next of an order is new
      pub is_new : (n : ℕ) → n < length order → (new : List (Recipe Dependency)) → new ≡ old ++ made by needed lists rs old path rows sets (take n order) → IsNew new (recipe_at rs (slice_index order n)).number.0
      is_new n h new e c =
          let all : List (Recipe Dependency) = made by needed lists rs old path rows sets (take n order) in
          let place : ℕ = slice_index order n in
          let below : place < length rs = omega (arith, o.below n h, many) in
          let f = from_map (λ (r : Recipe Dependency). r.number.0) (recipe_at rs place).number.0 (old ++ all) (is_in (recipe_at rs place).number.0 (numbers (old ++ all)) (subst (λ xs. Contains (numbers xs) (recipe_at rs place).number.0) e c)) in
          elim (in_cases f.0 old all f.1) [
            | inl l ↦ apart (recipe_at rs place).number.0 (subst (Contains (numbers old)) (sym f.2) (numbers_in f.0 old l)) (number_there place below)
            | inr r ↦
                let g = from_made (take n order) f.0 r in
                let j = in_take order n g.0 (omega arith) (contained g.0 (take n order) g.1) in
                let first : g.0 < length rs = omega (arith, o.below j.0 (omega (arith, j.1)), many, j.2) in
                let same : g.0 ≡ place = number_once g.0 place first below (sym (number_made g.0 f.0 g.3) ∙ sym f.2) in
                o.once j.0 n j.1 h (j.2 ∙ same)
          ]

      module _ (bars : (i : ℕ) → i < length rows → (p : Modulepath) → Contains (keys_at sets i) p ↔ Bars rows i p) (there : AreAllThere rs old rows sets) where
        -- what a recipe that stands depends on in the module stands
        near_empty : (i j : ℕ) → i < length rows → keys_at sets i ≡ [] → Contains (get_or rows i []) (Near j) → keys_at sets j ≡ []
        near_empty i j h e c = elim (empty_or (keys_at sets j)) [
          | inl f ↦ f
          | inr (p, m) ↦ absurd (none_in (keys_at sets i) p e ((bars i h p).1 (through j c ((bars j (o.inside i j h (near_has (get_or rows i []) j c)) p).0 m))))
        ]

        module _ (n : ℕ) (h : n < length order) (new : List (Recipe Dependency)) (s : SoFar by needed lists rs path rows sets order n old new) where
          -- its numbers are held
          number_held : (t : Target) → keys_at sets (slice_index order n) ≡ [] → Contains (get_or rows (slice_index order n) []) t → Contains (numbers new) (target_number rs t).0
          number_held (Near j) e c =
              let place : ℕ = slice_index order n in
              let b = in_take order n j (omega arith) (o.first n j h (near_has (get_or rows place []) j c)) in
              let f : keys_at sets (slice_index order b.0) ≡ [] = ap (keys_at sets) b.2 ∙ near_empty place j (o.below n h) e c in
              subst (λ x. Contains (numbers new) (recipe_at rs x).number.0) b.2 (s.held b.0 b.1 f)
          number_held (Far m) e c =
              let is : IsSome (find_number old m.0) = All-contains (IsThere rs old) (get_or rows (slice_index order n) []) (Far m) (there (slice_index order n) (o.below n h) e) c in
              subst (λ xs. Contains (numbers xs) m.0) (sym s.new_is) (held_more old (made by needed lists rs old path rows sets (take n order)) m.0 (held_there old m.0 is))
          number_held (Gone set) e c = absurd (All-contains (IsThere rs old) (get_or rows (slice_index order n) []) (Gone set) (there (slice_index order n) (o.below n h) e) c)

          pub numbers_held : keys_at sets (slice_index order n) ≡ [] → All (λ t. Contains (numbers new) (target_number rs t).0) (get_or rows (slice_index order n) [])
          numbers_held e = all_in (λ t. Contains (numbers new) (target_number rs t).0) (get_or rows (slice_index order n) []) (λ t k. number_held t e (contained t (get_or rows (slice_index order n) []) k))

          -- what is there stays there
          there_more : (ys : List (Recipe Dependency)) (t : Target) → IsThere rs old t → IsThere rs (old ++ ys) t
          there_more ys (Near j) k = k
          there_more ys (Far m) k = subst IsSome (sym (held_same old ys m.0 k)) k
          there_more ys (Gone set) k = k

          pub all_there : keys_at sets (slice_index order n) ≡ [] → All (IsThere rs new) (get_or rows (slice_index order n) [])
          all_there e = all_in (IsThere rs new) (get_or rows (slice_index order n) []) (λ t k.
              subst (λ xs. IsThere rs xs t) (sym s.new_is) (there_more (made by needed lists rs old path rows sets (take n order)) t (All-contains (IsThere rs old) (get_or rows (slice_index order n) []) t (there (slice_index order n) (o.below n h) e) (contained t (get_or rows (slice_index order n) []) k))))

          settled_more : (ys : List (Recipe Dependency)) (set : List Modulepath) → set ≡ keys_at sets (slice_index order n) → settled_of by needed lists rs (old ++ ys) path (get_or rows (slice_index order n) []) set (slice_index order n) ≡ settled_of by needed lists rs old path (get_or rows (slice_index order n) []) set (slice_index order n)
          settled_more ys [] e =
              let place : ℕ = slice_index order n in
              let each : (t : Target) → In t (get_or rows place []) → IsThere rs old t = (λ t k. All-contains (IsThere rs old) (get_or rows place []) t (there place (o.below n h) (sym e)) (contained t (get_or rows place []) k)) in
              ap (λ (ls : List Dependency). record (resolved (by (recipe_at rs place)) ls path (path_to path (name_of_recipe (recipe_at rs place)))) { variable_references = get_or needed place [] } ∷ []) (links_more lists rs old ys (by (recipe_at rs place)).dependencies (get_or rows place []) each)
          settled_more ys (p ∷ ps) e = refl

          made_is : made by needed lists rs old path rows sets (take (n + 1) order) ≡ made by needed lists rs old path rows sets (take n order) ++ settled_of by needed lists rs old path (get_or rows (slice_index order n) []) (keys_at sets (slice_index order n)) (slice_index order n)
          made_is =
              let f : ℕ → List (Recipe Dependency) = λ x. settled_of by needed lists rs old path (get_or rows x []) (keys_at sets x) x in
              ap (flat_map f) (take_more order n 0 h) ∙ (flat-append f (take n order) (slice_index order n ∷ []) ∙ ap (λ ys. flat_map f (take n order) ++ ys) (append-nil (f (slice_index order n))))

          held_here : (held : List (Recipe Dependency)) (set : List Modulepath) → set ≡ [] → Contains (numbers (new ++ settled_of by needed lists rs held path (get_or rows (slice_index order n) []) set (slice_index order n))) (recipe_at rs (slice_index order n)).number.0
          held_here held [] e =
              let x : Recipe Dependency = made_of by needed lists rs held path (recipe_at rs (slice_index order n)) (get_or needed (slice_index order n) []) (get_or rows (slice_index order n) []) in
              subst (Contains (numbers (new ++ x ∷ []))) (ap (λ (n : Number). n.0) (completes.number (recipe_at rs (slice_index order n)))) (numbers_in x (new ++ x ∷ []) (in_right x new (x ∷ []) (inl refl)))
          held_here held (p ∷ ps) e = absurd (cc)

          pub so_far : (more : List (Recipe Dependency)) → more ≡ new ++ settled_of by needed lists rs new path (get_or rows (slice_index order n) []) (keys_at sets (slice_index order n)) (slice_index order n) → SoFar by needed lists rs path rows sets order (n + 1) old more
          so_far more e =
              let place : ℕ = slice_index order n in
              let ys : List (Recipe Dependency) = made by needed lists rs old path rows sets (take n order) in
              let last : List (Recipe Dependency) = settled_of by needed lists rs old path (get_or rows place []) (keys_at sets place) place in
              let same : settled_of by needed lists rs new path (get_or rows place []) (keys_at sets place) place ≡ last =
              ap (λ xs. settled_of by needed lists rs xs path (get_or rows place []) (keys_at sets place) place) s.new_is ∙ settled_more ys (keys_at sets place) refl in
              let is : more ≡ new ++ last = e ∙ ap (λ xs. new ++ xs) same in
              record {
                new_is = is ∙ (ap (λ xs. xs ++ last) s.new_is ∙ (append_assoc old ys last ∙ ap (λ xs. old ++ xs) (sym made_is)));
                held = λ k l f. elim (cases_lt k n) [
                  | inl b ↦ subst (λ xs. Contains (numbers xs) (recipe_at rs (slice_index order k)).number.0) (sym is) (held_more new last (recipe_at rs (slice_index order k)).number.0 (s.held k b f))
                  | inr a ↦
                      let at : n ≡ k = omega arith in
                      let g : keys_at sets place ≡ [] = ap (λ x. keys_at sets (slice_index order x)) at ∙ f in
                      subst (λ x. Contains (numbers more) (recipe_at rs (slice_index order x)).number.0) at (subst (λ xs. Contains (numbers xs) (recipe_at rs place).number.0) (sym is) (held_here old (keys_at sets place) g))
                ];
              }

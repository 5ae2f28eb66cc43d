-- Recipes by their places.
use Rattle.std.proofs.Common.{◌≡◌, ℕ, zero, suc, ◌+◌, ◌<◌, List, [], ◌∷◌, ◌++◌, map, take, drop, length, get_or, Option, Some, None, Result, Ok, Err, refl, sym, ◌∙◌, ap, subst, arith, append_assoc}
use Rattle.std.specs.List.{slice_get, All, Contains}
use Rattle.std.specs.Prelude.{OnOk}
use Rattle.std.proofs.lemmas.List.Elements.{All-head, All-tail, All-nil, All-cons, All-take, All-drop, All-weaker, Contains-append_left}
use Rattle.std.proofs.lemmas.List.{length_push}
use Rattle.std.proofs.lemmas.Option.{slice_get-get_or}
use Rattle.just_recipe.specs.declared.dependency.Dependency.{Dependency}
use Rattle.just_recipe.specs.declared.recipe.Recipe.{Recipe}
use Rattle.just_tasks.specs.Pairs.{at_place, prior_dependencies, subsequent_dependencies}
use Rattle.just_recipe.specs.Recipes.{numbers, needs, DependenciesStandFirst, AreOrderedAfter}
use Rattle.just_recipes.specs.Places.{place_of}
use Rattle.just_recipes.proofs.Places.{place-within}
use Rattle.just_recipes.proofs.RecipeLemmas.{numbers-append}

-- what holds of each element of a mapped list
pub All-unmap : {X Y : Type 0} (P : X → Type 0) (f : Y → X) (ys : List Y) → All P (map f ys) → All (λ y. P (f y)) ys
All-unmap P f [] h = All-nil (λ y. P (f y))
All-unmap P f (y ∷ ys) h = All-cons (λ y. P (f y)) y ys (All-head P (f y) (map f ys) h) (All-unmap P f ys (All-tail P (f y) (map f ys) h))

-- what holds of all holds of each that is found at a place
pub All-got : {A : Type 0} (P : A → Type 0) (xs : List A) (k : ℕ) (x : A) → All P xs → slice_get xs k ≡ Some x → P x
All-got P [] k x h e = cc
All-got P (y ∷ xs) zero x h e = let same : y ≡ x = cc in subst P same (All-head P y xs h)
All-got P (y ∷ xs) (suc k) x h e = All-got P xs k x (All-tail P y xs h) e

-- what is read at a place
pub at-place : {A : Type 0} (f : Recipe Dependency → List A) (rs : List (Recipe Dependency)) (k : ℕ) (r : Recipe Dependency) → slice_get rs k ≡ Some r → at_place f rs k ≡ f r
at-place f [] k r e = cc
at-place f (x ∷ rs) zero r e = let same : x ≡ r = cc in ap f same
at-place f (x ∷ rs) (suc k) r e = at-place f rs k r e

-- what a recipe depends on stands before it
ordered-needs : (front rs : List (Recipe Dependency)) (k : ℕ) (r : Recipe Dependency) → AreOrderedAfter (numbers front) rs → slice_get rs k ≡ Some r → All (λ (n : ℕ). (Contains (numbers (front ++ rs)) n) × (place_of (front ++ rs) n < length front + k)) (needs r)
ordered-needs front [] k r p e = cc
ordered-needs front (x ∷ rs) zero r p e =
    let same : x ≡ r = cc in
    subst (λ (q : Recipe Dependency). All (λ (n : ℕ). (Contains (numbers (front ++ x ∷ rs)) n) × (place_of (front ++ x ∷ rs) n < length front + 0)) (needs q)) same
    (All-weaker (Contains (numbers front)) (λ (n : ℕ). (Contains (numbers (front ++ x ∷ rs)) n) × (place_of (front ++ x ∷ rs) n < length front + 0))
    (λ n c. (
      subst (λ ns. Contains ns n) (sym (numbers-append front (x ∷ rs))) (Contains-append_left (numbers front) (numbers (x ∷ rs)) n c),
      (let l : place_of (front ++ x ∷ rs) n < length front = place-within front (x ∷ rs) n c in omega arith),
    )) (needs x) p.1)
ordered-needs front (x ∷ rs) (suc k) r p e =
    let next : AreOrderedAfter (numbers (front ++ x ∷ [])) rs = subst (λ ns. AreOrderedAfter ns rs) (sym (numbers-append front (x ∷ []))) p.2 in
    let rest : All (λ (n : ℕ). (Contains (numbers ((front ++ x ∷ []) ++ rs)) n) × (place_of ((front ++ x ∷ []) ++ rs) n < length (front ++ x ∷ []) + k)) (needs r) = ordered-needs (front ++ x ∷ []) rs k r next e in
    let long : length (front ++ x ∷ []) + k ≡ length front + suc k = omega (arith, length_push front x) in
    subst (λ xs. All (λ (n : ℕ). (Contains (numbers xs) n) × (place_of xs n < length front + suc k)) (needs r)) (append_assoc front (x ∷ []) rs)
    (subst (λ m. All (λ (n : ℕ). (Contains (numbers ((front ++ x ∷ []) ++ rs)) n) × (place_of ((front ++ x ∷ []) ++ rs) n < m)) (needs r)) long rest)

-- a dependency on a recipe that stands before a place
abbrev pub IsBefore : List (Recipe Dependency) → ℕ → Dependency → Type 0
IsBefore rs k d = (Contains (numbers rs) d.recipe.0) × (place_of rs d.recipe.0 < k)

pub needs-before : (rs : List (Recipe Dependency)) (k : ℕ) (r : Recipe Dependency) → DependenciesStandFirst rs → slice_get rs k ≡ Some r → All (IsBefore rs k) r.dependencies
needs-before rs k r ordered e =
    let zero-more : 0 + k ≡ k = omega arith in
    let h : All (λ (n : ℕ). (Contains (numbers rs) n) × (place_of rs n < k)) (needs r) =
    subst (λ m. All (λ (n : ℕ). (Contains (numbers rs) n) × (place_of rs n < m)) (needs r)) zero-more (ordered-needs [] rs k r ordered e) in
    All-unmap (λ (n : ℕ). (Contains (numbers rs) n) × (place_of rs n < k)) (λ (d : Dependency). d.recipe.0) r.dependencies h

pub dependencies-held : (rs : List (Recipe Dependency)) (k : ℕ) (ds : List Dependency) → All (IsBefore rs k) ds → All (λ (d : Dependency). Contains (numbers rs) d.recipe.0) ds
dependencies-held rs k ds h = All-weaker (IsBefore rs k) (λ (d : Dependency). Contains (numbers rs) d.recipe.0) (λ d q. q.0) ds h

-- what is known of the recipe that is read at a place
pub read-at : (inside rs : List (Recipe Dependency)) (k : ℕ) (r : Recipe Dependency) → inside ≡ rs → k < length rs → r ≡ get_or inside k r → slice_get rs k ≡ Some r
read-at inside rs k r same h read = slice_get-get_or rs k r h ∙ ap Some (sym (read ∙ ap (λ xs. get_or xs k r) same))

-- what runs before a recipe, and what runs after it, stands before its place
at-none : {A : Type 0} (f : Recipe Dependency → List A) (rs : List (Recipe Dependency)) (k : ℕ) → slice_get rs k ≡ None → at_place f rs k ≡ []
at-none f [] k e = refl
at-none f (x ∷ rs) zero e = absurd (cc)
at-none f (x ∷ rs) (suc k) e = at-none f rs k e

at-before : (part : Recipe Dependency → List Dependency) → ((r : Recipe Dependency) (P : Dependency → Type 0) → All P r.dependencies → All P (part r)) → (rs : List (Recipe Dependency)) (k : ℕ) (o : Option (Recipe Dependency)) → DependenciesStandFirst rs → slice_get rs k ≡ o → All (IsBefore rs k) (at_place part rs k)
at-before part some rs k None ordered e = subst (All (IsBefore rs k)) (sym (at-none part rs k e)) (All-nil (IsBefore rs k))
at-before part some rs k (Some r) ordered e = subst (All (IsBefore rs k)) (sym (at-place part rs k r e)) (some r (IsBefore rs k) (needs-before rs k r ordered e))

pub priors-before : (rs : List (Recipe Dependency)) (k : ℕ) → DependenciesStandFirst rs → All (IsBefore rs k) (prior_dependencies rs k)
priors-before rs k ordered = at-before (λ r. take r.priors r.dependencies) (λ r P h. All-take P r.priors r.dependencies h) rs k (slice_get rs k) ordered refl

pub subsequents-before : (rs : List (Recipe Dependency)) (k : ℕ) → DependenciesStandFirst rs → All (IsBefore rs k) (subsequent_dependencies rs k)
subsequents-before rs k ordered = at-before (λ r. drop r.priors r.dependencies) (λ r P h. All-drop P r.priors r.dependencies h) rs k (slice_get rs k) ordered refl

pub OnOk-map : {A E P Q : Type 0} (r : Result A E) → (P → Q) → OnOk r P → OnOk r Q
OnOk-map (Ok a) f h = f h
OnOk-map (Err e) f h = tt

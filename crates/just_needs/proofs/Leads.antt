-- Whether tasks lead to a place.
use Rattle.std.proofs.Common.{ℕ, zero, suc, ◌<◌, List, [], ◌∷◌, length, refl, sym, ◌∙◌, subst, arith}
use Rattle.std.proofs.lemmas.List.FromFn.{get_or-range_with_len, length-range_with_len}
use Rattle.std.specs.List.{Contains, range_with_len}
use Rattle.just_tasks.specs.Leading.{DependsOnPlace, LeadTo, places}
use Rattle.just_tasks.specs.Pairs.{at_place, needed}
use Rattle.just_tasks.specs.declared.task.Task.{Task}
use Rattle.just_graph.proofs.Members.{In, contained, from_map, is_in}
use Rattle.just_graph.specs.Steps.{from_member, from_start}
use Rattle.just_recipe.specs.declared.dependency.Dependency.{Dependency}
use Rattle.just_recipe.specs.declared.recipe.Recipe.{Recipe}
use Rattle.just_recipes.specs.Places.{place_of}
use Rattle.just_needs.proofs.Decisions.{dec-by, dec-in, dec-number}
use Rattle.just_needs.proofs.Passages.{Passes, dec-passes, here, onward}

-- the places below a length
abbrev pub below : ℕ → List ℕ
below n = range_with_len 0 n

pub in-below : (n k : ℕ) → k < n → In k (below n)
in-below n k h = is_in k (below n) (k, subst (λ m. k < m) (sym (length-range_with_len 0 n)) h, get_or-range_with_len 0 n k k h ∙ omega arith)

-- a recipe that has something stands at a place of the list
at-within : {A : Type 0} (f : Recipe Dependency → List A) (x : A) (rs : List (Recipe Dependency)) (k : ℕ) → In x (at_place f rs k) → k < length rs
at-within f x [] k i = absurd i
at-within f x (r ∷ rs) zero i = omega arith
at-within f x (r ∷ rs) (suc k) i = let h = at-within f x rs k i in omega arith

dec-contains : (x : ℕ) (xs : List ℕ) → Dec (Contains xs x)
dec-contains x xs = dec-by (contained x xs) (is_in x xs) (dec-in dec-number x xs)

module _ (recipes : List (Recipe Dependency)) (tops : List Task) where
  -- what stands at place b is depended on by what stands at place a
  abbrev IsNeededBy : ℕ → ℕ → Type 0
  IsNeededBy b a = DependsOnPlace recipes a b

  abbrev LeadsBack : ℕ → Type 0
  LeadsBack = Passes IsNeededBy (below (length recipes)) (Contains (places tops))

  needing-within : (a b : ℕ) → DependsOnPlace recipes a b → a < length recipes
  needing-within a b c =
      let d = from_map (λ (d : Dependency). place_of recipes d.recipe.0) b (needed recipes a) (is_in b _ c) in
      at-within (λ (r : Recipe Dependency). r.dependencies) d.0 recipes a d.1

  -- steps back lead from what tasks lead to to one of them
  led-back : (p : ℕ) → LeadTo recipes tops p → LeadsBack p
  led-back p (from_start c) = here c
  led-back p (from_member {a = a} led free depends) = onward depends (in-below (length recipes) a (needing-within a p depends)) (led-back a led)

  back-led : (p : ℕ) → LeadsBack p → LeadTo recipes tops p
  back-led p (here c) = from_start c
  back-led p (onward {b = a} depends i rest) = from_member (back-led a rest) refl depends

  pub dec-leads-to : (p : ℕ) → Dec (LeadTo recipes tops p)
  dec-leads-to p = dec-by (back-led p) (led-back p)
      (dec-passes IsNeededBy (λ b a. dec-contains b _) (below (length recipes)) (Contains (places tops)) (λ x. dec-contains x (places tops)) p)

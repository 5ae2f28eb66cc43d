-- In the expected run each block is of the task that its pair was first asked with.
use Rattle.std.proofs.Common.{◌≡◌, ◌<◌, ℕ, zero, suc, Bool, true, false, cond, List, [], ◌∷◌, ◌++◌, map, sym, ◌∙◌, ap, subst, inl, inr, arith}
use Rattle.std.specs.Prelude.{flat_map}
use Rattle.std.proofs.lemmas.Bool.{cases_Bool, cond-true, cond-false, true≢false}
use Rattle.std.proofs.lemmas.List.Elements.{All-head}
use Rattle.just_graph.proofs.Members.{In, in_cases, in_left, in_right}
use Rattle.just_run_layers.specs.Host.{Answer}
use Rattle.just_run_layers.specs.Interactions.{Question}
use Rattle.just_execution.specs.Expansion.{Part, Prepare, Block, same_part, part_key, expansion}
use Rattle.just_execution.specs.Firsts.{stands_among, without_key, firsts_by}
use Rattle.just_execution.specs.loops.Lower.{IsLower}
use Rattle.just_execution.specs.Reports.{IsFirstAsked}
use Rattle.just_tasks.specs.declared.task.Task.{Task}
use Rattle.just_tasks.specs.Pairs.{same_pair, once_key, AllBelow}
use Rattle.just_execution.specs.Run.{priors_by, run_parts, PriorsIgnoreFlag}
use Rattle.just_execution.specs.Walking.{TaskInteractions}
use Rattle.just_execution.proofs.Walks.{blocks, walk, walks}
use Rattle.just_execution.proofs.Keeps.{Exact}
use Rattle.just_execution.proofs.Pairs.{pair-exact}
use Rattle.just_execution.proofs.Ranks.{part-exact}
use Rattle.just_execution.proofs.Walked.{below-all}
use Rattle.just_execution.proofs.Whole.{walk-parts}

-- each block of a walk is of a task that the walk asks
module _ {P K : Type 0} (same : K → K → Bool) (name : P → K) (priors : P → List P) where
  abbrev AreAsked : List (Part P) → Type 0
  AreAsked xs = (p : P) → In (Block p) xs → In (Prepare p) xs

  none-asked : AreAsked []
  none-asked p h = absurd h

  both-asked : (xs ys : List (Part P)) → AreAsked xs → AreAsked ys → AreAsked (xs ++ ys)
  both-asked xs ys h k p i = elim (in_cases (Block p) xs ys i) [
    | inl l ↦ in_left (Prepare p) xs ys (h p l)
    | inr r ↦ in_right (Prepare p) xs ys (k p r)
  ]

  one-asked : (q : P) (xs : List (Part P)) → AreAsked xs → AreAsked (Prepare q ∷ (xs ++ (Block q ∷ [])))
  one-asked q xs h p (inl e) = absurd (let no : Block p ≡ Prepare q = e in cc)
  one-asked q xs h p (inr i) = elim (in_cases (Block p) xs (Block q ∷ []) i) [
    | inl l ↦ inr (in_left (Prepare p) xs (Block q ∷ []) (h p l))
    | inr (inl e) ↦ inl (let same : p ≡ q = cc in ap (λ x. Prepare x) same)
    | inr (inr none) ↦ absurd none
  ]

  cond-asked : (b : Bool) (xs : List (Part P)) → AreAsked xs → AreAsked (cond b [] xs)
  cond-asked true xs h = none-asked
  cond-asked false xs h = h

  walks-asked : (n : ℕ) → ((table : List K) (p : P) → AreAsked (walk same name priors n table p)) → (ps : List P) (table : List K) → AreAsked (walks name (walk same name priors n) table ps)
  walks-asked n ih [] table = none-asked
  walks-asked n ih (p ∷ ps) table =
      both-asked (walk same name priors n table p) (walks name (walk same name priors n) (table ++ blocks (map (part_key name) (walk same name priors n table p))) ps) (ih table p) (walks-asked n ih ps (table ++ blocks (map (part_key name) (walk same name priors n table p))))

  walk-asked : (n : ℕ) (table : List K) (p : P) → AreAsked (walk same name priors n table p)
  walk-asked zero table p = none-asked
  walk-asked (suc n) table p = cond-asked (stands_among same table (name p)) _ (one-asked p (walks name (walk same name priors n) table (priors p)) (walks-asked n (walk-asked n) (priors p) table))

  pub all-asked : (n : ℕ) (table : List K) (ps : List P) → AreAsked (walks name (walk same name priors n) table ps)
  all-asked n table ps = walks-asked n (walk-asked n) ps table

-- the first members of each key are one for each key
module _ {A K : Type 0} (same : K → K → Bool) (e : Exact same) (name : A → K) where
  abbrev IsOther : K → List A → A → Type 0
  IsOther k xs x = (k ≡ name x → ⊥) × In x xs

  kept-other : (k : K) (y x : A) (ws ys : List A) → same k (name y) ≡ false → (In x ws → IsOther k ys x) → In x (y ∷ ws) → IsOther k (y ∷ ys) x
  kept-other k y x ws ys s h (inl is) = ((λ c. true≢false (sym (e.itself k) ∙ ap (same k) (c ∙ ap name is) ∙ s)), inl is)
  kept-other k y x ws ys s h (inr i) = let r = h i in (r.0, inr r.1)

  other : (k : K) (xs : List A) (x : A) → In x (without_key same name k xs) → IsOther k xs x
  other k [] x h = absurd h
  other k (y ∷ ys) x h = elim (cases_Bool (same k (name y))) [
    | inl s ↦ let r = other k ys x (subst (In x) (cond-true (same k (name y)) _ _ s) h) in (r.0, inr r.1)
    | inr s ↦ kept-other k y x (without_key same name k ys) ys s (other k ys x) (subst (In x) (cond-false (same k (name y)) _ _ s) h)
  ]

  pub one-first : (xs : List A) (x y : A) → In x (firsts_by same name xs) → In y (firsts_by same name xs) → name x ≡ name y → x ≡ y
  one-first [] x y h k c = absurd h
  one-first (z ∷ zs) x y (inl h) (inl k) c = h ∙ sym k
  one-first (z ∷ zs) x y (inl h) (inr k) c = absurd ((other (name z) (firsts_by same name zs) y k).0 (ap name (sym h) ∙ c))
  one-first (z ∷ zs) x y (inr h) (inl k) c = absurd ((other (name z) (firsts_by same name zs) x h).0 (ap name (sym k) ∙ sym c))
  one-first (z ∷ zs) x y (inr h) (inr k) c = one-first zs x y (other (name z) (firsts_by same name zs) x h).1 (other (name z) (firsts_by same name zs) y k).1 c

module _ (of_task : TaskInteractions) (lower : IsLower of_task) (f : Question → Answer) where
  asked-part : (n : ℕ) (ts : List Task) → AllBelow n ts → PriorsIgnoreFlag of_task f n ts → (t : Task) → In (Block t) (run_parts of_task f n ts) → In (Prepare t) (run_parts of_task f n ts)
  asked-part zero [] b s t i = absurd i
  asked-part zero (u ∷ us) b s t i = let low : u.pair.recipe < 0 = All-head (λ (t : Task). t.pair.recipe < 0) u us b in absurd (omega arith)
  asked-part (suc n) ts b s t i =
      let is = walk-parts of_task lower f (PriorsIgnoreFlag of_task f n) (suc n) ts (below-all (suc n) ts b) s in
      subst (In (Prepare t)) is (all-asked same_pair once_key (priors_by of_task f) (suc n) [] ts t (subst (In (Block t)) (sym is) i))

  pub first-asked : (n : ℕ) (ts : List Task) → AllBelow n ts → PriorsIgnoreFlag of_task f n ts → (t : Task) → In (Block t) (run_parts of_task f n ts) → IsFirstAsked of_task f n ts t
  first-asked n ts b s t i = record {
    asked = asked-part n ts b s t i;
    alone = λ u asked same.
        let one : Prepare u ≡ Prepare t = one-first (same_part same_pair) (part-exact same_pair pair-exact) (part_key once_key) (flat_map (expansion (priors_by of_task f) n) ts) (Prepare u) (Prepare t) asked (asked-part n ts b s t i) (ap (λ p. Prepare p) same) in
        cc;
  }

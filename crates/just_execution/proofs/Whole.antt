-- The walk that counts is within the run by the unshared expansion, where what is asked hangs on the pair alone.
use Rattle.std.proofs.Common.{◌≡◌, ℕ, zero, suc, ◌<◌, ◌≤◌, Bool, true, false, cond, List, [], ◌∷◌, ◌++◌, map, refl, sym, ◌∙◌, ap, subst, inl, inr, arith, Ok, Err}
use Rattle.std.specs.Prelude.{flat_map, Result}
use Rattle.std.proofs.lemmas.Bool.{cases_Bool, cond-true, cond-false}
use Rattle.just_errors.specs.declared.halt.Halt.{Halt}
use Rattle.just_run_layers.specs.Host.{Answer}
use Rattle.just_run_layers.specs.declared.held.Held.{Held}
use Rattle.just_run_layers.specs.Interactions.{Question, Interaction, and_then, CanReturn, result_under}
use Rattle.just_run_layers.proofs.InteractionLemmas.{then-each}
use Rattle.just_tasks.specs.declared.pair.Pair.{Pair}
use Rattle.just_execution.specs.Expansion.{Part, Prepare, Block, same_part, part_key, expansion}
use Rattle.just_execution.specs.Firsts.{stands_among, without_key, firsts_by}
use Rattle.just_execution.specs.loops.Lower.{IsLower}
use Rattle.just_tasks.specs.declared.task.Task.{Task}
use Rattle.just_tasks.specs.Pairs.{same_pair, once_key, task, AllBelow}
use Rattle.just_execution.specs.Run.{tasks_in, priors_in, priors_by, subsequents_after, subsequents_by, block_run, part_steps, in_turn, run_parts, run_steps, Each, PartIgnoresFlag, PriorsIgnoreFlag}
use Rattle.just_execution.proofs.Walks.{blocks, walk, walks}
use Rattle.just_execution.specs.Walking.{TaskInteractions, Prepared, fresh_steps, walk_steps}
use Rattle.just_execution.proofs.Keeps.{Exact}
use Rattle.just_execution.proofs.Keyed.{walks-firsts_by}
use Rattle.just_execution.proofs.Pairs.{pair-exact}
use Rattle.just_execution.proofs.Ranks.{part-exact}
use Rattle.just_execution.proofs.Told.{Within, outcome-gives}
use Rattle.just_execution.proofs.Walked.{rank, AreLow, below-all, below-more, Each-left, Each-right, priors-low, subsequents-low, IsFresh, fresh-walked}

Each-append : {A : Type 0} (P : A → Type 0) (xs ys : List A) → Each P xs → Each P ys → Each P (xs ++ ys)
Each-append P [] ys a b = b
Each-append P (x ∷ xs) ys a b = (a.0, Each-append P xs ys a.1 b)

module _ {A K : Type 0} (same : K → K → Bool) (e : Exact same) (name : A → K) where
  -- what holds of all also holds without some
  Each-without : (P : A → Type 0) (k : K) (xs : List A) → Each P xs → Each P (without_key same name k xs)
  Each-without P k [] a = tt
  Each-without P k (x ∷ xs) a = elim (cases_Bool (same k (name x))) [
    | inl h ↦ subst (Each P) (sym (cond-true (same k (name x)) _ _ h)) (Each-without P k xs a.1)
    | inr h ↦ subst (Each P) (sym (cond-false (same k (name x)) _ _ h)) (a.0, Each-without P k xs a.1)
  ]

  pub Each-firsts : (P : A → Type 0) (xs : List A) → Each P xs → Each P (firsts_by same name xs)
  Each-firsts P [] a = tt
  Each-firsts P (x ∷ xs) a = (a.0, Each-without P (name x) (firsts_by same name xs) (Each-firsts P xs a.1))

  -- what holds of the keys of the first holds of all keys
  Each-with : (Q : K → Type 0) (k : K) → Q k → (xs : List A) → Each (λ x. Q (name x)) (without_key same name k xs) → Each (λ x. Q (name x)) xs
  Each-with Q k q [] a = tt
  Each-with Q k q (x ∷ xs) a = elim (cases_Bool (same k (name x))) [
    | inl h ↦ (subst Q (e.only k (name x) h) q, Each-with Q k q xs (subst (Each (λ x. Q (name x))) (cond-true (same k (name x)) _ _ h) a))
    | inr h ↦ let b : Each (λ x. Q (name x)) (x ∷ without_key same name k xs) = subst (Each (λ x. Q (name x))) (cond-false (same k (name x)) _ _ h) a in
        (b.0, Each-with Q k q xs b.1)
  ]

  pub Each-all : (Q : K → Type 0) (xs : List A) → Each (λ x. Q (name x)) (firsts_by same name xs) → Each (λ x. Q (name x)) xs
  Each-all Q [] a = tt
  Each-all Q (x ∷ xs) a = (a.0, Each-all Q xs (Each-with Q (name x) a.0 (firsts_by same name xs) a.1))

-- two ways to the priors that agree wherever a pair is asked give one expansion and one walk
module _ {P K : Type 0} (same : K → K → Bool) (name : P → K) (g h : P → List P) where
  abbrev Alike : Part K → Type 0
  Alike (Prepare k) = (p : P) → name p ≡ k → g p ≡ h p
  Alike (Block k) = Unit {0}

  abbrev Agree : List (Part P) → Type 0
  Agree xs = Each (λ x. Alike (part_key name x)) xs

  list-agree : (n : ℕ) → ((p : P) → Agree (expansion g n p) → expansion g n p ≡ expansion h n p) → (ps : List P) → Agree (flat_map (expansion g n) ps) →
      flat_map (expansion g n) ps ≡ flat_map (expansion h n) ps
  list-agree n ih [] a = refl
  list-agree n ih (p ∷ ps) a =
      ap (λ t. t ++ flat_map (expansion g n) ps) (ih p (Each-left (λ x. Alike (part_key name x)) (expansion g n p) (flat_map (expansion g n) ps) a))
      ∙ ap (λ t. expansion h n p ++ t) (list-agree n ih ps (Each-right (λ x. Alike (part_key name x)) (expansion g n p) (flat_map (expansion g n) ps) a))

  expansion-agree : (n : ℕ) (p : P) → Agree (expansion g n p) → expansion g n p ≡ expansion h n p
  expansion-agree zero p a = refl
  expansion-agree (suc n) p a =
      let l : flat_map (expansion g n) (g p) ≡ flat_map (expansion h n) (g p) =
      list-agree n (expansion-agree n) (g p) (Each-left (λ x. Alike (part_key name x)) (flat_map (expansion g n) (g p)) (Block p ∷ []) a.1) in
      ap (λ t. Prepare p ∷ (t ++ Block p ∷ [])) (l ∙ ap (flat_map (expansion h n)) (a.0 p refl))

  pub expansions-agree : (n : ℕ) (ps : List P) → Agree (flat_map (expansion g n) ps) → flat_map (expansion g n) ps ≡ flat_map (expansion h n) ps
  expansions-agree n ps a = list-agree n (expansion-agree n) ps a

  walk-list : (n : ℕ) → ((table : List K) (p : P) → Agree (expansion g n p) → walk same name g n table p ≡ walk same name h n table p) → (table : List K) (ps : List P) →
      Agree (flat_map (expansion g n) ps) → walks name (walk same name g n) table ps ≡ walks name (walk same name h n) table ps
  walk-list n ih table [] a = refl
  walk-list n ih table (p ∷ ps) a =
      let one : walk same name g n table p ≡ walk same name h n table p = ih table p (Each-left (λ x. Alike (part_key name x)) (expansion g n p) (flat_map (expansion g n) ps) a) in
      ap (λ t. t ++ walks name (walk same name g n) (table ++ blocks (map (part_key name) t)) ps) one
      ∙ ap (λ t. walk same name h n table p ++ t) (walk-list n ih (table ++ blocks (map (part_key name) (walk same name h n table p))) ps (Each-right (λ x. Alike (part_key name x)) (expansion g n p) (flat_map (expansion g n) ps) a))

  walk-agree : (n : ℕ) (table : List K) (p : P) → Agree (expansion g n p) → walk same name g n table p ≡ walk same name h n table p
  walk-agree zero table p a = refl
  walk-agree (suc n) table p a =
      let l : walks name (walk same name g n) table (g p) ≡ walks name (walk same name h n) table (g p) =
      walk-list n (walk-agree n) table (g p) (Each-left (λ x. Alike (part_key name x)) (flat_map (expansion g n) (g p)) (Block p ∷ []) a.1) in
      ap (λ t. cond (stands_among same table (name p)) [] (Prepare p ∷ (t ++ Block p ∷ []))) (l ∙ ap (walks name (walk same name h n) table) (a.0 p refl))

  pub walks-agree : (n : ℕ) (table : List K) (ps : List P) → Agree (flat_map (expansion g n) ps) → walks name (walk same name g n) table ps ≡ walks name (walk same name h n) table ps
  walks-agree n table ps a = walk-list n (walk-agree n) table ps a

module _ (of_task : TaskInteractions) (lower : IsLower of_task) (f : Question → Answer) where
  -- what is given of tasks under these answers, and nothing where they fail
  low-in : (k : ℕ) (s : Interaction (List Task)) → ((ts : List Task) → CanReturn s ts → AreLow k ts) → (r : Result (List Task) Halt) → result_under f s ≡ r → AreLow k (tasks_in r)
  low-in k s h (Ok ts) e = h ts (outcome-gives f s ts e)
  low-in k s h (Err d) e = tt

  low-asked : (t : Task) (r : Result Prepared Halt) → result_under f (of_task.ask t) ≡ r → AreLow t.pair.recipe (priors_in r)
  low-asked t (Ok a) e = priors-low of_task lower t a (outcome-gives f (of_task.ask t) a e)
  low-asked t (Err d) e = tt

  priors-lower : (t : Task) → AreLow t.pair.recipe (priors_by of_task f t)
  priors-lower t = low-asked t (result_under f (of_task.ask t)) refl

  low-after : (t : Task) (r : Result Prepared Halt) → AreLow t.pair.recipe (subsequents_after of_task f t r)
  low-after t (Ok a) = low-in t.pair.recipe (of_task.follow t a.held) (subsequents-low of_task lower t a.held) (result_under f (of_task.follow t a.held)) refl
  low-after t (Err d) = tt

  subsequents-lower : (t : Task) → AreLow t.pair.recipe (subsequents_by of_task f t)
  subsequents-lower t = low-after t (result_under f (of_task.ask t))

  -- the parts of an expansion are of low tasks
  abbrev IsLow : ℕ → Part Task → Type 0
  IsLow k (Prepare t) = Unit {0}
  IsLow k (Block t) = t.pair.recipe < k

  abbrev E : ℕ → Task → List (Part Task)
  E n t = expansion (priors_by of_task f) n t

  low-flat : (n k : ℕ) → ((t : Task) → t.pair.recipe < k → Each (IsLow k) (E n t)) → (ts : List Task) → AreLow k ts → Each (IsLow k) (flat_map (E n) ts)
  low-flat n k ih [] b = tt
  low-flat n k ih (t ∷ ts) b = Each-append (IsLow k) (E n t) (flat_map (E n) ts) (ih t b.0) (low-flat n k ih ts b.1)

  low-expansion : (n k : ℕ) (t : Task) → t.pair.recipe < k → Each (IsLow k) (E n t)
  low-expansion zero k t l = tt
  low-expansion (suc n) k t l = (
    tt,
    Each-append (IsLow k) (flat_map (E n) (priors_by of_task f t)) (Block t ∷ [])
        (low-flat n k (low-expansion n k) (priors_by of_task f t) (below-more t.pair.recipe k (priors_by of_task f t) (omega arith) (priors-lower t))) (l, tt),
  )

  low-parts : (n k : ℕ) (ts : List Task) → AreLow k ts → Each (IsLow k) (run_parts of_task f n ts)
  low-parts n k ts b = Each-firsts (same_part same_pair) (part-exact same_pair pair-exact) (part_key once_key) (IsLow k) (flat_map (E n) ts) (low-flat n k (low-expansion n k) ts b)

  -- whether a task runs as a dependency does not matter
  abbrev plain : Pair → List Task
  plain p = priors_by of_task f (task false p)

  flag-either : (p : Pair) → priors_by of_task f (task true p) ≡ plain p → (b : Bool) → priors_by of_task f (task b p) ≡ plain p
  flag-either p h true = h
  flag-either p h false = refl

  even-one : (t : Task) → priors_by of_task f (task true t.pair) ≡ plain t.pair → (s : Task) → once_key s ≡ t.pair → priors_by of_task f s ≡ plain (once_key s)
  even-one t h s e = flag-either s.pair (subst (λ p. priors_by of_task f (task true p) ≡ plain p) (sym e) h) s.dependency

  parts-even : (run : List Task → Type 0) (xs : List (Part Task)) → Each (PartIgnoresFlag of_task f run) xs → Agree same_pair once_key (priors_by of_task f) (λ t. plain (once_key t)) xs
  parts-even run [] s = tt
  parts-even run (Prepare t ∷ xs) s = ((λ u e. even-one t s.0 u e), parts-even run xs s.1)
  parts-even run (Block t ∷ xs) s = (tt, parts-even run xs s.1)

  -- so the walk is the parts of the run
  pub walk-parts : (run : List Task → Type 0) (n : ℕ) (ts : List Task) → AreLow n ts → Each (PartIgnoresFlag of_task f run) (run_parts of_task f n ts) →
      walks once_key (walk same_pair once_key (priors_by of_task f) n) [] ts ≡ run_parts of_task f n ts
  walk-parts run n ts b s =
      let G : Task → List Task = λ t. plain (once_key t) in
      let alike : Agree same_pair once_key (priors_by of_task f) G (flat_map (E n) ts) =
      Each-all (same_part same_pair) (part-exact same_pair pair-exact) (part_key once_key) (Alike same_pair once_key (priors_by of_task f) G) (flat_map (E n) ts) (parts-even run (run_parts of_task f n ts) s) in
      walks-agree same_pair once_key (priors_by of_task f) G n [] ts alike
      ∙ walks-firsts_by same_pair pair-exact once_key plain rank (λ p. priors-lower (task false p)) n ts b
      ∙ ap (firsts_by (same_part same_pair) (part_key once_key)) (sym (expansions-agree same_pair once_key (priors_by of_task f) G n ts alike))

  abbrev Runs : ℕ → Type 0
  Runs n = (ts : List Task) (calls : List ℕ) → AreLow n ts → PriorsIgnoreFlag of_task f n ts → Within f (λ x y. Unit {0}) (fresh_steps (walk_steps of_task n) ts calls) (run_steps of_task f n ts)

  parts-fresh : (n : ℕ) → Runs n → (xs : List (Part Task)) → Each (IsLow (suc n)) xs → Each (PartIgnoresFlag of_task f (PriorsIgnoreFlag of_task f n)) xs → Each (IsFresh of_task lower f n (run_steps of_task f n)) xs
  parts-fresh n ih [] l s = tt
  parts-fresh n ih (Prepare t ∷ xs) l s = (tt, parts-fresh n ih xs l.1 s.1)
  parts-fresh n ih (Block t ∷ xs) l s =
      let here : t.pair.recipe < suc n = l.0 in
      let place : t.pair.recipe ≤ n = omega arith in
      let low : AreLow n (subsequents_by of_task f t) = below-more t.pair.recipe n (subsequents_by of_task f t) place (subsequents-lower t) in
      ((place, (λ calls. ih (subsequents_by of_task f t) calls low s.0)), parts-fresh n ih xs l.1 s.1)

  runs : (n : ℕ) → Runs n
  runs zero [] calls b s = inl (refl, tt)
  runs zero (t ∷ ts) calls b s = let h = b.0 in absurd (omega arith)
  runs (suc n) ts calls b s =
      let run : List Task → Interaction (Unit {0}) = run_steps of_task f n in
      let S : List (Part Task) = run_parts of_task f (suc n) ts in
      let ws : List (Part Task) = walks once_key (walk same_pair once_key (priors_by of_task f) (suc n)) [] ts in
      let same : ws ≡ S = walk-parts (PriorsIgnoreFlag of_task f n) (suc n) ts b s in
      let fresh : Each (IsFresh of_task lower f n run) S = parts-fresh n (runs n) S (low-parts (suc n) (suc n) ts b) s in
      subst (λ xs. Within f (λ x y. Unit {0}) (fresh_steps (walk_steps of_task (suc n)) ts calls) (in_turn (map (part_steps of_task f run) xs))) same
      (fresh-walked of_task lower f n run ts calls b (subst (Each (IsFresh of_task lower f n run)) (sym same) fresh))

  -- more room changes nothing in an expansion
  flat-more : (n m k : ℕ) → ((t : Task) → t.pair.recipe < k → E n t ≡ E m t) → (ts : List Task) → AreLow k ts → flat_map (E n) ts ≡ flat_map (E m) ts
  flat-more n m k h [] b = refl
  flat-more n m k h (t ∷ ts) b = ap (λ x. x ++ flat_map (E n) ts) (h t b.0) ∙ ap (λ x. E m t ++ x) (flat-more n m k h ts b.1)

  expansion-more : (n m : ℕ) (t : Task) → t.pair.recipe < n → t.pair.recipe < m → E n t ≡ E m t
  expansion-more zero m t a b = absurd (omega arith)
  expansion-more (suc n) zero t a b = absurd (omega arith)
  expansion-more (suc n) (suc m) t a b =
      ap (λ x. Prepare t ∷ (x ++ Block t ∷ []))
      (flat-more n m t.pair.recipe (λ r l. expansion-more n m r (omega (arith, a, l)) (omega (arith, b, l))) (priors_by of_task f t) (priors-lower t))

  both-more : (n m : ℕ) (ts : List Task) → AreLow n ts → AreLow m ts → flat_map (E n) ts ≡ flat_map (E m) ts
  both-more n m [] a b = refl
  both-more n m (t ∷ ts) a b = ap (λ x. x ++ flat_map (E n) ts) (expansion-more n m t a.0 b.0) ∙ ap (λ x. E m t ++ x) (both-more n m ts a.1 b.1)

  -- blocks whose subsequents run alike
  block-more : (N M : List Task → Interaction (Unit {0})) (t : Task) → ((h : Held) (ts : List Task) → CanReturn (of_task.follow t h) ts → N ts ≡ M ts) → (r : Result Prepared Halt) →
      block_run of_task N t r ≡ block_run of_task M t r
  block-more N M t same (Ok a) = ap (λ x. and_then (of_task.execute t a.held) (λ _. x)) (then-each (of_task.follow t a.held) N M (same a.held))
  block-more N M t same (Err d) = refl

  turn-more : (n m : ℕ) → ((ts : List Task) → AreLow n ts → AreLow m ts → run_steps of_task f n ts ≡ run_steps of_task f m ts) → (xs : List (Part Task)) → Each (IsLow (suc n)) xs →
      Each (IsLow (suc m)) xs →
      in_turn (map (part_steps of_task f (run_steps of_task f n)) xs) ≡ in_turn (map (part_steps of_task f (run_steps of_task f m)) xs)
  turn-more n m ih [] a b = refl
  turn-more n m ih (Prepare t ∷ xs) a b = ap (λ s. and_then (part_steps of_task f (run_steps of_task f n) (Prepare t)) (λ _. s)) (turn-more n m ih xs a.1 b.1)
  turn-more n m ih (Block t ∷ xs) a b =
      let in_n : t.pair.recipe < suc n = a.0 in
      let in_m : t.pair.recipe < suc m = b.0 in
      let N : List Task → Interaction (Unit {0}) = run_steps of_task f n in
      let M : List Task → Interaction (Unit {0}) = run_steps of_task f m in
      let below : (h : Held) (ts : List Task) → CanReturn (of_task.follow t h) ts → N ts ≡ M ts =
      λ h ts g.
      let low : AreLow t.pair.recipe ts = subsequents-low of_task lower t h ts g in
      ih ts (below-more t.pair.recipe n ts (omega arith) low) (below-more t.pair.recipe m ts (omega arith) low) in
      ap (λ x. and_then x (λ _. in_turn (map (part_steps of_task f N) xs))) (block-more N M t below (result_under f (of_task.ask t)))
      ∙ ap (λ s. and_then (part_steps of_task f M (Block t)) (λ _. s)) (turn-more n m ih xs a.1 b.1)

  runs-more : (n m : ℕ) (ts : List Task) → AreLow n ts → AreLow m ts → run_steps of_task f n ts ≡ run_steps of_task f m ts
  runs-more zero zero ts a b = refl
  runs-more zero (suc m) [] a b = refl
  runs-more zero (suc m) (t ∷ ts) a b = let h = a.0 in absurd (omega arith)
  runs-more (suc n) zero [] a b = refl
  runs-more (suc n) zero (t ∷ ts) a b = let h = b.0 in absurd (omega arith)
  runs-more (suc n) (suc m) ts a b =
      turn-more n m (runs-more n m) (run_parts of_task f (suc n) ts) (low-parts (suc n) (suc n) ts a) (low-parts (suc n) (suc m) ts b)
      ∙ ap (λ xs. in_turn (map (part_steps of_task f (run_steps of_task f m)) (firsts_by (same_part same_pair) (part_key once_key) xs))) (both-more (suc n) (suc m) ts a b)

-- the walk of a fresh table is within the expected run
pub fresh-run : (of_task : TaskInteractions) → IsLower of_task → (f : Question → Answer) (n : ℕ) (ts : List Task) (calls : List ℕ) → AllBelow n ts → PriorsIgnoreFlag of_task f n ts →
    Within f (λ x y. Unit {0}) (fresh_steps (walk_steps of_task n) ts calls) (run_steps of_task f n ts)
fresh-run of_task lower f n ts calls b s = runs of_task lower f n ts calls (below-all n ts b) s

-- more room changes nothing in the expected run
pub more-run : (of_task : TaskInteractions) → IsLower of_task → (f : Question → Answer) (n m : ℕ) (ts : List Task) → AllBelow n ts → AllBelow m ts → run_steps of_task f n ts ≡ run_steps of_task f m ts
more-run of_task lower f n m ts a b = runs-more of_task lower f n m ts (below-all n ts a) (below-all m ts b)

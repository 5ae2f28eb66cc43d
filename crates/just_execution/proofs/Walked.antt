-- The walk that counts is within its parts in turn.
use Rattle.std.proofs.Common.{◌≡◌, ℕ, zero, suc, ◌+◌, ◌==◌, ◌^◌, ◌<◌, ◌≤◌, Bool, true, false, cond, ◌||◌, List, [], ◌∷◌, ◌++◌, map, refl, sym, ◌∙◌, ap, subst, inl, inr, append_assoc, arith, Ok}
use Rattle.std.specs.Prelude.{get_or}
use Rattle.std.proofs.lemmas.Bool.{true≢false}
use Rattle.std.proofs.lemmas.List.{append-nil, map-append}
use Rattle.std.proofs.lemmas.List.Elements.{All-cons, All-head, All-nil, All-tail}
use Rattle.just_errors.specs.declared.halt.Halt.TheVariants.{Exhausted}
use Rattle.just_run_layers.specs.Host.{Answer}
use Rattle.just_run_layers.specs.declared.held.Held.{Held}
use Rattle.just_run_layers.specs.Interactions.{Question, Interaction, Return, Fail, and_then, CanReturn, trace_under, result_under}
use Rattle.just_run_layers.proofs.InteractionLemmas.{then-assoc, then-give}
use Rattle.just_tasks.specs.declared.pair.Pair.{Pair}
use Rattle.just_execution.specs.Expansion.{Part, Prepare, Block, part_key}
use Rattle.just_execution.specs.Firsts.{stands_among}
use Rattle.just_execution.specs.loops.Lower.{IsLower}
use Rattle.just_tasks.specs.declared.task.Task.{Task}
use Rattle.just_tasks.specs.Pairs.{same_pair, put_in, once_key, AllBelow}
use Rattle.just_execution.specs.Run.{tasks_in, priors_in, priors_by, subsequents_after, subsequents_by, block_run, part_steps, in_turn, Each}
use Rattle.just_execution.proofs.Walks.{blocks, walk, walks}
use Rattle.just_execution.specs.Walking.{TaskInteractions, Prepared, State, counted, all_steps, opened, fresh_steps, block_steps, ran, ran_steps, visit_steps, walk_steps}
use Rattle.just_execution.proofs.FrameLemmas.{agree, fresh-same}
use Rattle.just_execution.proofs.Keeps.{has-append, or_false}
use Rattle.just_execution.proofs.Ranks.{Below, blocks-append}
use Rattle.just_execution.proofs.Told.{Within, within-itself, within-then, in_turn-append, outcome-gives}

-- places as ranks
abbrev pub rank : Pair → ℕ
rank p = p.recipe

abbrev pub AreLow : ℕ → List Task → Type 0
AreLow k ts = Below rank k (map once_key ts)

pub below-all : (k : ℕ) (ts : List Task) → AllBelow k ts → AreLow k ts
below-all k [] h = tt
below-all k (t ∷ ts) h = (All-head (λ (t : Task). t.pair.recipe < k) t ts h, below-all k ts (All-tail (λ (t : Task). t.pair.recipe < k) t ts h))

pub below-more : (k n : ℕ) (ts : List Task) → k ≤ n → AreLow k ts → AreLow n ts
below-more k n [] l h = tt
below-more k n (t ∷ ts) l h = (omega (arith, h.0), below-more k n ts l h.1)

pub Each-left : {A : Type 0} (P : A → Type 0) (xs ys : List A) → Each P (xs ++ ys) → Each P xs
Each-left P [] ys a = tt
Each-left P (x ∷ xs) ys a = (a.0, Each-left P xs ys a.1)

pub Each-right : {A : Type 0} (P : A → Type 0) (xs ys : List A) → Each P (xs ++ ys) → Each P ys
Each-right P [] ys a = a
Each-right P (x ∷ xs) ys a = Each-right P xs ys a.1

low-all : (k : ℕ) (ts : List Task) → AreLow k ts → AllBelow k ts
low-all k [] h = All-nil (λ (t : Task). t.pair.recipe < k)
low-all k (t ∷ ts) h = All-cons (λ (t : Task). t.pair.recipe < k) t ts h.0 (low-all k ts h.1)

module _ (of_task : TaskInteractions) (lower : IsLower of_task) where
  pub priors-low : (t : Task) (a : Prepared) → CanReturn (of_task.ask t) a → AreLow t.pair.recipe a.priors
  priors-low t a g = below-all t.pair.recipe a.priors (lower.priors t a g)

  pub subsequents-low : (t : Task) (h : Held) (ss : List Task) → CanReturn (of_task.follow t h) ss → AreLow t.pair.recipe ss
  subsequents-low t h ss g = below-all t.pair.recipe ss (lower.subsequents t h ss g)

  -- more room changes nothing
  pub fresh-more : (n m k : ℕ) (ts : List Task) (calls : List ℕ) → k ≤ n → k ≤ m → AreLow k ts → fresh_steps (walk_steps of_task n) ts calls ≡ fresh_steps (walk_steps of_task m) ts calls
  fresh-more n m k ts calls a b low = fresh-same (walk_steps of_task n) (walk_steps of_task m) k (λ s t l. agree of_task lower n m s t (omega (arith, a, l)) (omega (arith, b, l))) ts (low-all k ts low) calls

-- a walk of room n, whose subsequents run as `run` does
module _ (of_task : TaskInteractions) (lower : IsLower of_task) (f : Question → Answer) (n : ℕ) (run : List Task → Interaction (Unit {0})) where
  abbrev W : ℕ → List Pair → Task → List (Part Task)
  W j = walk same_pair once_key (priors_by of_task f) j

  abbrev keys_of : List (Part Task) → List Pair
  keys_of xs = blocks (map (part_key once_key) xs)

  abbrev turned : List (Part Task) → Interaction (Unit {0})
  turned xs = in_turn (map (part_steps of_task f run) xs)

  -- the state has the table of these pairs
  abbrev At : List Pair → State → Unit {0} → Type 0
  At xs s u = s.table ≡ stands_among same_pair xs

  -- the subsequents of a block run below
  abbrev pub IsFresh : Part Task → Type 0
  IsFresh (Prepare t) = Unit {0}
  IsFresh (Block t) = (t.pair.recipe ≤ n) × ((calls : List ℕ) → Within f (λ x y. Unit {0}) (fresh_steps (walk_steps of_task n) (subsequents_by of_task f t) calls) (run (subsequents_by of_task f t)))

  keys-append : (xs ys : List (Part Task)) → keys_of (xs ++ ys) ≡ keys_of xs ++ keys_of ys
  keys-append xs ys = ap blocks (map-append (part_key once_key) xs ys) ∙ blocks-append (map (part_key once_key) xs) (map (part_key once_key) ys)

  turned-append : (xs ys : List (Part Task)) → and_then (turned xs) (λ _. turned ys) ≡ turned (xs ++ ys)
  turned-append xs ys = sym (ap in_turn (map-append (part_steps of_task f run) xs ys) ∙ in_turn-append (map (part_steps of_task f run) xs) (map (part_steps of_task f run) ys))

  put-has : (xs : List Pair) (p : Pair) → put_in (stands_among same_pair xs) p ≡ stands_among same_pair (xs ++ p ∷ [])
  put-has xs p = λ i q. (ap (λ b. stands_among same_pair xs q || b) (sym (or_false (same_pair p q))) ∙ sym (has-append same_pair xs (p ∷ []) q)) i

  -- parts after parts, with what the table has then
  joined : (s : Interaction State) (next : State → Interaction State) (table : List Pair) (xs ys : List (Part Task)) →
      Within f (At (table ++ keys_of xs)) s (turned xs) →
      ((z : State) → z.table ≡ stands_among same_pair (table ++ keys_of xs) → Within f (At ((table ++ keys_of xs) ++ keys_of ys)) (next z) (turned ys)) →
      Within f (At (table ++ keys_of (xs ++ ys))) (and_then s next) (turned (xs ++ ys))
  joined s next table xs ys h k =
      let e : (table ++ keys_of xs) ++ keys_of ys ≡ table ++ keys_of (xs ++ ys) = append_assoc table (keys_of xs) (keys_of ys) ∙ ap (λ t. table ++ t) (sym (keys-append xs ys)) in
      subst (λ t. Within f (At t) (and_then s next) (turned (xs ++ ys))) e
      (subst (λ u. Within f (At ((table ++ keys_of xs) ++ keys_of ys)) (and_then s next) u) (turned-append xs ys)
      (within-then f (At (table ++ keys_of xs)) (At ((table ++ keys_of xs) ++ keys_of ys)) s (turned xs) next (λ _. turned ys) h (λ z y a b r. k z r)))

  abbrev IsWalked : ℕ → Type 0
  IsWalked j = (s : State) (table : List Pair) (t : Task) → t.pair.recipe < j → s.table ≡ stands_among same_pair table → Each IsFresh (W j table t) →
      Within f (At (table ++ keys_of (W j table t))) (walk_steps of_task j s t) (turned (W j table t))

  nothing : (s : State) (table : List Pair) → s.table ≡ stands_among same_pair table → Within f (At (table ++ keys_of [])) (Return s) (turned [])
  nothing s table h = inl (refl, h ∙ ap (λ xs. stands_among same_pair xs) (sym (append-nil table)))

  pub listed : (j : ℕ) → IsWalked j → (s : State) (table : List Pair) (ts : List Task) → AreLow j ts → s.table ≡ stands_among same_pair table → Each IsFresh (walks once_key (W j) table ts) →
      Within f (At (table ++ keys_of (walks once_key (W j) table ts))) (all_steps (walk_steps of_task j) s ts) (turned (walks once_key (W j) table ts))
  listed j ih s table [] l h g = nothing s table h
  listed j ih s table (t ∷ ts) l h g =
      let a : List (Part Task) = W j table t in
      let b : List (Part Task) = walks once_key (W j) (table ++ keys_of a) ts in
      joined (walk_steps of_task j s t) (λ now. all_steps (walk_steps of_task j) now ts) table a b (ih s table t l.0 h (Each-left IsFresh a b g))
      (λ z r. listed j ih z (table ++ keys_of a) ts l.1 r (Each-right IsFresh a b g))

  -- a block, with what asking for its task came to
  block-within : (j : ℕ) (t : Task) (a : Prepared) (calls : List ℕ) → result_under f (of_task.ask t) ≡ Ok a → j ≤ n → t.pair.recipe ≤ j → IsFresh (Block t) →
      Within f (λ x y. Unit {0}) (block_steps of_task (walk_steps of_task j) t a.held calls) (part_steps of_task f run (Block t))
  block-within j t a calls came b c g =
      let h : Held = a.held in
      let F : List Task → Interaction (List ℕ) = λ ts. fresh_steps (walk_steps of_task j) ts calls in
      let subs : List Task = subsequents_by of_task f t in
      let own : (ts us : List Task) → result_under f (of_task.follow t h) ≡ Ok ts → ts ≡ us → Within f (λ x y. Unit {0}) (F ts) (run us) =
      λ ts us e same.
      let is : subs ≡ ts = ap (subsequents_after of_task f t) came ∙ ap tasks_in e in
      let low : AreLow t.pair.recipe subs = subst (AreLow t.pair.recipe) (sym is) (subsequents-low of_task lower t h ts (outcome-gives f (of_task.follow t h) ts e)) in
      let here : Within f (λ x y. Unit {0}) (F subs) (run subs) =
      subst (λ s. Within f (λ x y. Unit {0}) s (run subs)) (fresh-more of_task lower n j t.pair.recipe subs calls g.0 c low) (g.1 calls) in
      subst (λ us. Within f (λ x y. Unit {0}) (F ts) (run us)) same (subst (λ ts. Within f (λ x y. Unit {0}) (F ts) (run ts)) is here) in
      subst (λ o. Within f (λ x y. Unit {0}) (block_steps of_task (walk_steps of_task j) t h calls) (block_run of_task run t o)) (sym came)
      (within-then f (λ (x y : Unit {0}). x ≡ y) (λ x y. Unit {0}) (of_task.execute t h) (of_task.execute t h) (λ _. and_then (of_task.follow t h) F) (λ _. and_then (of_task.follow t h) run)
      (within-itself f (of_task.execute t h)) (λ x y d e r.
      within-then f (λ (x y : List Task). x ≡ y) (λ x y. Unit {0}) (of_task.follow t h) (of_task.follow t h) F run (within-itself f (of_task.follow t h)) (λ ts us d e r. own ts us d r)))

  ran-within : (j : ℕ) (t : Task) (a : Prepared) (s : State) (table : List Pair) → result_under f (of_task.ask t) ≡ Ok a → j ≤ n → t.pair.recipe ≤ j → IsFresh (Block t) → s.table ≡ stands_among same_pair table →
      Within f (At (table ++ keys_of (Block t ∷ []))) (ran_steps of_task (walk_steps of_task j) t a.held s) (turned (Block t ∷ []))
  ran-within j t a s table came b c g h =
      within-then f (λ x y. Unit {0}) (At (table ++ t.pair ∷ [])) (block_steps of_task (walk_steps of_task j) t a.held s.calls) (part_steps of_task f run (Block t)) (λ calls. Return (ran s t calls)) (λ _. Return tt)
      (block-within j t a s.calls came b c g) (λ x y d e r. inl (refl, ap (λ a. put_in a t.pair) h ∙ put-has table t.pair))

  -- the questions of a task, and what follows them
  asked : (j : ℕ) → IsWalked j → (s : State) (table : List Pair) (t : Task) → j ≤ n → t.pair.recipe ≤ j → s.table ≡ stands_among same_pair table → (ws : List (Part Task)) →
      ws ≡ walks once_key (W j) table (priors_by of_task f t) →
      Each IsFresh (Prepare t ∷ (ws ++ Block t ∷ [])) →
      Within f (At (table ++ keys_of (Prepare t ∷ (ws ++ Block t ∷ [])))) (and_then (of_task.ask t) (λ a. and_then (all_steps (walk_steps of_task j) s a.priors) (ran_steps of_task (walk_steps of_task j) t a.held))) (turned (Prepare t ∷ (ws ++ Block t ∷ [])))
  asked j ih s table t b c h ws same g =
      let V : State → Task → Interaction State = walk_steps of_task j in
      let next : Prepared → Interaction State = λ a. and_then (all_steps V s a.priors) (ran_steps of_task V t a.held) in
      let R : State → Unit {0} → Type 0 = At (table ++ keys_of (ws ++ Block t ∷ [])) in
      let fresh : Each IsFresh ws = Each-left IsFresh ws (Block t ∷ []) g.1 in
      let block : Each IsFresh (Block t ∷ []) = Each-right IsFresh ws (Block t ∷ []) g.1 in
      let one : (a : Prepared) → result_under f (of_task.ask t) ≡ Ok a → Within f R (next a) (turned (ws ++ Block t ∷ [])) =
      λ a e.
      let ps : List Task = a.priors in
      let is : priors_by of_task f t ≡ ps = ap priors_in e in
      let low : AreLow j ps = below-more t.pair.recipe j ps c (priors-low of_task lower t a (outcome-gives f (of_task.ask t) a e)) in
      let all : walks once_key (W j) table ps ≡ ws = sym (same ∙ ap (walks once_key (W j) table) is) in
      let first : Within f (At (table ++ keys_of ws)) (all_steps V s ps) (turned ws) =
      subst (λ xs. Within f (At (table ++ keys_of xs)) (all_steps V s ps) (turned xs)) all (listed j ih s table ps low h (subst (Each IsFresh) (sym all) fresh)) in
      joined (all_steps V s ps) (ran_steps of_task V t a.held) table ws (Block t ∷ []) first (λ z r. ran-within j t a z (table ++ keys_of ws) e b c block.0 r) in
      subst (λ u. Within f R (and_then (of_task.ask t) next) u) (sym (then-assoc (of_task.ask t) (λ _. Return tt) (λ _. turned (ws ++ Block t ∷ []))))
      (within-then f (λ (x y : Prepared). x ≡ y) R (of_task.ask t) (of_task.ask t) next (λ _. turned (ws ++ Block t ∷ [])) (within-itself f (of_task.ask t)) (λ a b d e r. one a d))

  either : (b c : Bool) → b ≡ c → (table : List Pair) (xs : List (Part Task)) (s u : Interaction State) →
      Within f (At (table ++ keys_of [])) s (turned []) → (Each IsFresh xs → Within f (At (table ++ keys_of xs)) u (turned xs)) → Each IsFresh (cond c [] xs) →
      Within f (At (table ++ keys_of (cond c [] xs))) (cond b s u) (turned (cond c [] xs))
  either true true e table xs s u h k g = h
  either true false e table xs s u h k g = absurd (true≢false e)
  either false true e table xs s u h k g = absurd (true≢false (sym e))
  either false false e table xs s u h k g = k g

  -- unless the last number is reached
  tallied : (b : Bool) (R : State → Unit {0} → Type 0) (s : State) (next : State → Interaction State) (u : Interaction (Unit {0})) → Within f R (next s) u →
      Within f R (and_then (cond b (Fail Exhausted) (Return s)) next) u
  tallied true R s next u h = inr (refl, trace_under f u, refl)
  tallied false R s next u h = h

  pub walked : (j : ℕ) → j ≤ suc n → IsWalked j
  walked zero m s table t l h g = absurd (omega arith)
  walked (suc j) m s table t l h g =
      let V : State → Task → Interaction State = walk_steps of_task j in
      let ws : List (Part Task) = walks once_key (W j) table (priors_by of_task f t) in
      let xs : List (Part Task) = Prepare t ∷ (ws ++ Block t ∷ []) in
      let z : State = counted s in
      let rest : Interaction State = and_then (of_task.ask t) (λ a. and_then (all_steps V z a.priors) (ran_steps of_task V t a.held)) in
      let after : Within f (At (table ++ keys_of (W (suc j) table t))) (visit_steps of_task V t z) (turned (W (suc j) table t)) =
      either (z.table t.pair) (stands_among same_pair table t.pair) (ap (λ a. a t.pair) h) table xs (Return z) rest (nothing z table h)
      (λ k. asked j (walked j (omega arith)) z table t (omega arith) (omega arith) h ws refl k) g in
      tallied (get_or s.calls s.number 0 + 1 == 2 ^ 64) (At (table ++ keys_of (W (suc j) table t))) z (visit_steps of_task V t) (turned (W (suc j) table t)) after

  -- a fresh table
  pub fresh-walked : (ts : List Task) (calls : List ℕ) → AreLow (suc n) ts → Each IsFresh (walks once_key (W (suc n)) [] ts) →
      Within f (λ x y. Unit {0}) (fresh_steps (walk_steps of_task (suc n)) ts calls) (turned (walks once_key (W (suc n)) [] ts))
  fresh-walked [] calls l g = inl (refl, tt)
  fresh-walked (t ∷ ts) calls l g =
      let ws : List (Part Task) = walks once_key (W (suc n)) [] (t ∷ ts) in
      let all : Interaction State = all_steps (walk_steps of_task (suc n)) (opened calls) (t ∷ ts) in
      subst (λ u. Within f (λ x y. Unit {0}) (and_then all (λ s. Return s.calls)) u) (then-give (turned ws))
      (within-then f (At (keys_of ws)) (λ x y. Unit {0}) all (turned ws) (λ s. Return s.calls) (λ x. Return x)
      (listed (suc n) (walked (suc n) (omega arith)) (opened calls) [] (t ∷ ts) l refl g) (λ x y d e r. inl (refl, tt)))

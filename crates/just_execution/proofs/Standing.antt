-- Where a run stands, and what happened: each part of a run put into its account.
use Rattle.std.proofs.Common.{◌≡◌, ◌⊎◌, ℕ, suc, ◌+◌, ◌<◌, ◌≤◌, ◌==◌, ◌^◌, true, false, ◌||◌, cond, List, [], ◌∷◌, ◌++◌, length, get_or, Option, Result, Ok, Err, refl, sym, ◌∙◌, ap, subst, inl, inr, arith, append_assoc, eqb-true}
use Rattle.std.specs.List.{All}
use Rattle.std.proofs.lemmas.Bool.{cases_Bool, cond-true, cond-false}
use Rattle.std.proofs.lemmas.List.{append-nil}
use Rattle.std.proofs.lemmas.List.Elements.{All-head, All-tail, All-nil, All-cons, All-weaker}
use Rattle.just_graph.proofs.Members.{In}
use Rattle.just_recipe.specs.declared.dependency.Dependency.{Dependency}
use Rattle.just_errors.specs.declared.halt.Halt.{Halt}
use Rattle.just_errors.specs.declared.halt.Halt.TheVariants.{Memory, Exhausted}
use Rattle.just_recipe.specs.declared.recipe.Recipe.{Recipe}
use Rattle.just_run_layers.specs.Host.{Answer}
use Rattle.just_run_layers.specs.Interactions.{Log, executed_in, Question, Interaction, Return, Fail, and_then, HasTrace}
use Rattle.just_tasks.specs.declared.pair.Pair.{Pair}
use Rattle.just_execution.specs.Account.{AskedTask, OnceTables, NoMore, Asked, Began, own, begun, executions, AreIn, may_be_asked, AreNamed, AskFits, RunFits, FitsTables, Complete, prior_count, asked_count, counts_below, counts, IsFullBelow, IsFull}
use Rattle.just_execution.specs.Firsts.{stands_among}
use Rattle.just_tasks.specs.declared.task.Task.{Task}
use Rattle.just_tasks.specs.Pairs.{OnceTable, put_in, same_pair, prior_dependencies, subsequent_dependencies}
use Rattle.just_execution.specs.Walking.{State, add_at, counted, opened, ran}
use Rattle.just_run_layers.proofs.Halts.{ok-is, ok-not, err-is, memory-not}
use Rattle.just_execution.proofs.Joined.{with_priors, asks, AllLow, AreDone, Settled, AllNamed, join, own-join, priors-join, asked-join, even-join, Complete-join, AllNamed-join, full-join, Fits-join, AllLow-more, has-last, known-more, known-priors, known-all, length-known, length-known_one, length-known_none, length-known_tops, AreDone-join, Settled-low, Settled-then, Settled-asked, unasked, add-twice, count-added, length-added, count-opened, length-opened, joined-counts, block-counts, opened-counts, joined-begun, joined-low, joined-own, joined-asks, none-in, none-below, one-below, has-more}
use Rattle.just_execution.proofs.Keeps.{has-append, or_false}

-- where a run stands before some tasks
pub record Stands (tops : List Task) (before : List AskedTask) (done : List Pair) (bound : ℕ) (s : State) (ts : List Task) : Type 0 where
  pub known_all : All (λ (q : Task). In q (may_be_asked tops before)) ts
  pub table : s.table ≡ stands_among same_pair done
  pub settled : Settled bound before done
  pub number : s.number < length s.calls
  pub counter : get_or s.calls s.number 0 + length ts ≤ length (may_be_asked tops before)

-- where it stands after them
pub record Walked (recipes : List (Recipe Dependency)) (done : List Pair) (ts : List Task) (s now : State) (u : OnceTables) : Type 0 where
  pub number : now.number ≡ s.number
  pub table : now.table ≡ stands_among same_pair (done ++ own u)
  pub all_done : AreIn (done ++ own u) ts
  pub named : AllNamed recipes u
  pub complete : Complete recipes u
  pub settled : AreDone (own u) (asks u)
  pub counts : now.calls ≡ add_at s.calls s.number (length ts + prior_count u) ++ counts_below u
  pub even : asked_count u ≡ prior_count u

-- some tasks under a table, and what happened
pub record Accounts (recipes : List (Recipe Dependency)) (tops : List Task) (before : List AskedTask) (done : List Pair) (bound : ℕ) (s : State) (ts : List Task)
    (old new : Log) (r : Result State Halt) (u : OnceTables) : Type 0 where
  pub gained : executed_in new ≡ executed_in old ++ executions recipes (begun u)
  pub fits : FitsTables recipes tops before done u
  pub low : AllLow bound (own u)
  pub whole : (now : State) → r ≡ Ok now → Walked recipes done ts s now u
  pub full : r ≡ Err Exhausted → (2 ^ 64 ≤ length (may_be_asked tops (before ++ asks u))) ⊎ IsFullBelow u

-- tasks under a table of their own, and what happened
pub record IsFresh (recipes : List (Recipe Dependency)) (ts : List Task) (calls : List ℕ) (old new : Log) (r : Result (List ℕ) Halt) (u : OnceTables) : Type 0 where
  pub gained : executed_in new ≡ executed_in old ++ executions recipes (begun u)
  pub fits : FitsTables recipes ts [] [] u
  pub whole : (now : List ℕ) → r ≡ Ok now → AreIn (own u) ts × Complete recipes u × (now ≡ calls ++ counts ts u)
  pub full : r ≡ Err Exhausted → IsFull ts u

-- the block of a task that succeeds
pub record IsBlock (recipes : List (Recipe Dependency)) (t : Task) (ps : List Task) (calls now : List ℕ) (u : OnceTables) : Type 0 where
  pub own_is : own u ≡ t.pair ∷ []
  pub asks_is : asks u ≡ []
  pub named : AllNamed recipes u
  pub complete : Complete recipes u
  pub priors : prior_count u ≡ length ps
  pub asked : asked_count u ≡ 0
  pub counts : now ≡ calls ++ counts_below u

-- the block of a task, and what happened
pub record Blocks (recipes : List (Recipe Dependency)) (tops : List Task) (before : List AskedTask) (done : List Pair) (t : Task) (ps : List Task) (calls : List ℕ)
    (old new : Log) (r : Result (List ℕ) Halt) (u : OnceTables) : Type 0 where
  pub gained : executed_in new ≡ executed_in old ++ executions recipes (begun u)
  pub fits : FitsTables recipes tops before done u
  pub low : AllLow (suc t.pair.recipe) (own u)
  pub whole : (now : List ℕ) → r ≡ Ok now → IsBlock recipes t ps calls now u
  pub full : r ≡ Err Exhausted → IsFullBelow u

-- nothing happened but a call
pub gained-none : (recipes : List (Recipe Dependency)) (old new : Log) → executed_in new ≡ executed_in old → executed_in new ≡ executed_in old ++ executions recipes []
gained-none recipes old new n = n ∙ sym (append-nil (executed_in old))

pub gave : (recipes : List (Recipe Dependency)) (tops : List Task) (before : List AskedTask) (done : List Pair) (bound : ℕ) (s now : State) (ts : List Task) (old new : Log)
    (r : Result State Halt) →
    now.number ≡ s.number → now.table ≡ stands_among same_pair done → now.calls ≡ add_at s.calls s.number (length ts) → AreIn done ts → new ≡ old → (r ≡ Ok now) ⊎ (r ≡ Err Memory) →
    Accounts recipes tops before done bound s ts old new r NoMore
gave recipes tops before done bound s now ts old new r m t c d n h =
    let more : length ts ≡ length ts + 0 = omega arith in
    let all : Walked recipes done ts s now NoMore = record {
      number = m;
      table = t ∙ ap (stands_among same_pair) (sym (append-nil done));
      all_done = subst (λ ps. AreIn ps ts) (sym (append-nil done)) d;
      named = tt;
      complete = tt;
      settled = tt;
      counts = c ∙ ap (add_at s.calls s.number) more ∙ sym (append-nil (add_at s.calls s.number (length ts + 0)));
      even = refl;
    } in
    record {
      gained = gained-none recipes old new (ap executed_in n);
      fits = tt;
      low = none-below bound;
      whole = λ x k. elim (h) [
        | inl a ↦ subst (λ x. Walked recipes done ts s x NoMore) (ok-is r now x a k) all
        | inr a ↦ absurd (ok-not r x Memory k a)
      ];
      full = λ k. elim (h) [
        | inl a ↦ absurd (ok-not r now Exhausted a k)
        | inr a ↦ absurd (memory-not (err-is r Memory Exhausted a k))
      ];
    }

-- what failed
pub broke : (recipes : List (Recipe Dependency)) (tops : List Task) (before : List AskedTask) (done : List Pair) (bound : ℕ) (s : State) (ts : List Task) (old new : Log)
    (r : Result State Halt) (u : OnceTables) (e : Halt) →
    r ≡ Err e → executed_in new ≡ executed_in old ++ executions recipes (begun u) → FitsTables recipes tops before done u → AllLow bound (own u) →
    (e ≡ Exhausted → (2 ^ 64 ≤ length (may_be_asked tops (before ++ asks u))) ⊎ IsFullBelow u) → Accounts recipes tops before done bound s ts old new r u
broke recipes tops before done bound s ts old new r u e h g f l k = record {
  gained = g;
  fits = f;
  low = l;
  whole = λ now j. absurd (ok-not r now e j h);
  full = λ j. k (err-is r e Exhausted h j);
}

-- one task, and where the run stands then
pub stands-then : (recipes : List (Recipe Dependency)) (tops : List Task) (before : List AskedTask) (done : List Pair) (bound : ℕ) (s now : State) (t : Task) (ts : List Task) (u : OnceTables) →
    Stands tops before done bound s (t ∷ ts) → Walked recipes done (t ∷ []) s now u → Stands tops (before ++ asks u) (done ++ own u) bound now ts
stands-then recipes tops before done bound s now t ts u a w =
    let calls : List ℕ = add_at s.calls s.number (1 + prior_count u) ++ counts_below u in
    let here : get_or calls s.number 0 ≡ get_or s.calls s.number 0 + (1 + prior_count u) = count-added s.calls (counts_below u) s.number (1 + prior_count u) a.number in
    let same : get_or now.calls now.number 0 ≡ get_or calls s.number 0 = λ i. get_or (w.counts i) (w.number i) 0 in
    let longer : s.number < length calls = length-added s.calls (counts_below u) s.number (1 + prior_count u) a.number in
    record {
      known_all = All-weaker (λ (q : Task). In q (may_be_asked tops before)) (λ (q : Task). In q (may_be_asked tops (before ++ asks u))) (λ q i. known-more tops before (asks u) q i) ts
          (All-tail (λ (q : Task). In q (may_be_asked tops before)) t ts a.known_all);
      table = w.table;
      settled = Settled-then bound done before u a.settled w.settled;
      number = subst (λ m. m < length now.calls) (sym w.number) (subst (λ c. s.number < length c) (sym w.counts) longer);
      counter = omega (arith, same, here, a.counter, length-known tops before u, w.even);
    }

pub stands-low : (tops : List Task) (before : List AskedTask) (done : List Pair) (k n : ℕ) (s : State) (t : Task) (ts : List Task) → k ≤ n → Stands tops before done n s (t ∷ ts) →
    Stands tops before done k s (t ∷ [])
stands-low tops before done k n s t ts l a = record {
  known_all = All-cons (λ (q : Task). In q (may_be_asked tops before)) t [] (All-head (λ (q : Task). In q (may_be_asked tops before)) t ts a.known_all) (All-nil (λ (q : Task). In q (may_be_asked tops before)));
  table = a.table;
  settled = Settled-low k n done before l a.settled;
  number = a.number;
  counter = let h : get_or s.calls s.number 0 + suc (length ts) ≤ length (may_be_asked tops before) = a.counter in omega arith;
}

-- one task, and then others
walked-then : (recipes : List (Recipe Dependency)) (done : List Pair) (t : Task) (ts : List Task) (s now end : State) (u v : OnceTables) →
    s.number < length s.calls → Walked recipes done (t ∷ []) s now u → Walked recipes (done ++ own u) ts now end v → Walked recipes done (t ∷ ts) s end (join u v)
walked-then recipes done t ts s now end u v n a b =
    let there : end.calls ≡ add_at now.calls s.number (length ts + prior_count v) ++ counts_below v =
    b.counts ∙ ap (λ i. add_at now.calls i (length ts + prior_count v) ++ counts_below v) a.number in
    let one_more : 1 + length ts ≡ suc (length ts) = omega arith in
    let all : AreIn ((done ++ own u) ++ own v) (t ∷ ts) = All-cons (λ (q : Task). stands_among same_pair ((done ++ own u) ++ own v) q.pair ≡ true) t ts
    (has-more (done ++ own u) (own v) t.pair (All-head (λ (q : Task). stands_among same_pair (done ++ own u) q.pair ≡ true) t [] a.all_done)) b.all_done in
    record {
      number = b.number ∙ a.number;
      table = b.table ∙ ap (stands_among same_pair) (joined-own u v done);
      all_done = subst (λ ps. AreIn ps (t ∷ ts)) (joined-own u v done) all;
      named = AllNamed-join recipes u v a.named b.named;
      complete = Complete-join recipes u v a.complete b.complete;
      settled = AreDone-join u v a.settled b.settled;
      counts = joined-counts u v s.calls now.calls end.calls s.number 1 (length ts) n a.counts there
          ∙ ap (λ m. add_at s.calls s.number (m + prior_count (join u v)) ++ counts_below (join u v)) one_more;
      even = even-join u v a.even b.even;
    }

full-then : (tops : List Task) (before : List AskedTask) (u v : OnceTables) → (2 ^ 64 ≤ length (may_be_asked tops ((before ++ asks u) ++ asks v))) ⊎ IsFullBelow v →
    (2 ^ 64 ≤ length (may_be_asked tops (before ++ asks (join u v)))) ⊎ IsFullBelow (join u v)
full-then tops before u v (inl h) = inl (subst (λ as0. 2 ^ 64 ≤ length (may_be_asked tops as0)) (joined-asks u v before) h)
full-then tops before u v (inr h) = inr (full-join u v h)

pub accounts-then : (recipes : List (Recipe Dependency)) (tops : List Task) (before : List AskedTask) (done : List Pair) (k bound : ℕ) (s now : State) (t : Task) (ts : List Task)
    (old mid new : Log) (r : Result State Halt) (u v : OnceTables) →
    k ≤ bound → s.number < length s.calls → Accounts recipes tops before done k s (t ∷ []) old mid (Ok now) u →
    Accounts recipes tops (before ++ asks u) (done ++ own u) bound now ts mid new r v →
    Accounts recipes tops before done bound s (t ∷ ts) old new r (join u v)
accounts-then recipes tops before done k bound s now t ts old mid new r u v l n a b =
    let w : Walked recipes done (t ∷ []) s now u = a.whole now refl in
    record {
      gained = joined-begun recipes u v (executed_in old) (executed_in mid) (executed_in new) a.gained b.gained;
      fits = Fits-join recipes tops u v before done w.named w.complete a.fits b.fits;
      low = joined-low u v bound (AllLow-more k bound (own u) l a.low) b.low;
      whole = λ end h. walked-then recipes done t ts s now end u v n w (b.whole end h);
      full = λ h. full-then tops before u v (b.full h);
    }

pub accounts-broke : (recipes : List (Recipe Dependency)) (tops : List Task) (before : List AskedTask) (done : List Pair) (k bound : ℕ) (s : State) (t : Task) (ts : List Task)
    (old new : Log) (r : Result State Halt) (e : Halt) (u : OnceTables) →
    k ≤ bound → r ≡ Err e → Accounts recipes tops before done k s (t ∷ []) old new (Err e) u → Accounts recipes tops before done bound s (t ∷ ts) old new r u
accounts-broke recipes tops before done k bound s t ts old new r e u l h a =
    broke recipes tops before done bound s (t ∷ ts) old new r u e h a.gained a.fits (AllLow-more k bound (own u) l a.low) (λ j. a.full (ap (λ x. Err x) j))

-- a call is counted, unless the last number was reached
pub count-split : {A : Type 0} (p : Question → Option Answer) (c limit : ℕ) (x : State) (next : State → Interaction A) (old new : Log) (r : Result A Halt) →
    HasTrace p (and_then (cond (c + 1 == limit) (Fail Exhausted) (Return x)) next) old new r →
    (((new ≡ old) × (c + 1 ≡ limit) × (r ≡ Err Exhausted)) ⊎ ((new ≡ old) × (r ≡ Err Memory))) ⊎ HasTrace p (next x) old new r
count-split {A} p c limit x next old new r t = elim (cases_Bool (c + 1 == limit)) [
  | inl h ↦
      let f : HasTrace p (Fail Exhausted) old new r = subst (λ (s : Interaction State). HasTrace p (and_then s next) old new r) (cond-true (c + 1 == limit) (Fail Exhausted) (Return x) h) t in
      elim (f.1) [ inl e ↦ inl (inl (f.0, eqb-true (c + 1) limit h, e)) | inr e ↦ inl (inr (f.0, e)) ]
  | inr h ↦ inr (subst (λ (s : Interaction State). HasTrace p (and_then s next) old new r) (cond-false (c + 1 == limit) (Fail Exhausted) (Return x) h) t)
]

-- where no more calls can be counted, as many tasks are known
pub full-here : (tops : List Task) (before : List AskedTask) (done : List Pair) (bound : ℕ) (s : State) (t : Task) (limit : ℕ) → Stands tops before done bound s (t ∷ []) →
    get_or s.calls s.number 0 + 1 ≡ limit → limit ≤ length (may_be_asked tops (before ++ []))
full-here tops before done bound s t limit a h =
    let l : get_or s.calls s.number 0 + 1 ≤ length (may_be_asked tops before) = a.counter in
    subst (λ as0. limit ≤ length (may_be_asked tops as0)) (sym (append-nil before)) (omega (arith, l, h))

-- the call is counted, and the priors are asked for
pub stands-asked : (tops : List Task) (before : List AskedTask) (done : List Pair) (s : State) (t : Task) (ps : List Task) →
    Stands tops before done (suc t.pair.recipe) s (t ∷ []) → Stands tops (before ++ with_priors t ps ∷ []) done t.pair.recipe (counted s) ps
stands-asked tops before done s t ps a =
    let one : add_at s.calls s.number 1 ++ [] ≡ add_at s.calls s.number 1 = append-nil (add_at s.calls s.number 1) in
    let more : get_or (add_at s.calls s.number 1) s.number 0 ≡ get_or s.calls s.number 0 + 1 = ap (λ c. get_or c s.number 0) (sym one) ∙ count-added s.calls [] s.number 1 a.number in
    let h : get_or s.calls s.number 0 + 1 ≤ length (may_be_asked tops before) = a.counter in
    record {
      known_all = known-priors tops before t ps;
      table = a.table;
      settled = Settled-asked done before (with_priors t ps) a.settled;
      number = subst (λ c. s.number < length c) one (length-added s.calls [] s.number 1 a.number);
      counter = omega (arith, more, h, length-known_one tops before (with_priors t ps));
    }

-- an opened table
pub stands-opened : (ts : List Task) (bound : ℕ) (calls : List ℕ) → Stands ts [] [] bound (opened calls) ts
stands-opened ts bound calls = record {
  known_all = known-all ts;
  table = λ i q. false;
  settled = tt;
  number = length-opened calls;
  counter = omega (arith, count-opened calls, length-known_none ts);
}

-- what is asked first
full-asked : (tops : List Task) (before : List AskedTask) (a : AskedTask) (u : OnceTables) → (2 ^ 64 ≤ length (may_be_asked tops ((before ++ a ∷ []) ++ asks u))) ⊎ IsFullBelow u →
    (2 ^ 64 ≤ length (may_be_asked tops (before ++ asks (Asked a u)))) ⊎ IsFullBelow (Asked a u)
full-asked tops before a u (inl h) = inl (subst (λ as0. 2 ^ 64 ≤ length (may_be_asked tops as0)) (append_assoc before (a ∷ []) (asks u)) h)
full-asked tops before a u (inr h) = inr h

-- a task begun, and then no more
runs-gained : (recipes : List (Recipe Dependency)) (t : Task) (ps ss : List Task) (v : OnceTables) (old mid new : Log) →
    executed_in mid ≡ executed_in old ++ executions recipes (t ∷ []) → executed_in new ≡ executed_in mid ++ executions recipes (begun v) →
    executed_in new ≡ executed_in old ++ executions recipes (begun (Began t ps ss v NoMore))
runs-gained recipes t ps ss v old mid new h k = joined-begun recipes (Began t ps [] NoMore NoMore) v (executed_in old) (executed_in mid) (executed_in new) h k
    ∙ ap (λ x. executed_in old ++ executions recipes (t ∷ x)) (sym (append-nil (begun v)))

-- a table of its own, from what happened under it
pub fresh-of : (recipes : List (Recipe Dependency)) (t : Task) (ts : List Task) (bound : ℕ) (calls : List ℕ) (now : State) (old new : Log) (r : Result (List ℕ) Halt) (u : OnceTables) →
    Accounts recipes (t ∷ ts) [] [] bound (opened calls) (t ∷ ts) old new (Ok now) u → (r ≡ Ok now.calls) ⊎ (r ≡ Err Memory) → IsFresh recipes (t ∷ ts) calls old new r u
fresh-of recipes t ts bound calls now old new r u a h =
    let w : Walked recipes [] (t ∷ ts) (opened calls) now u = a.whole now refl in
    let all : now.calls ≡ calls ++ counts (t ∷ ts) u = opened-counts calls now.calls (length (t ∷ ts) + prior_count u) (counts_below u) w.counts in
    let good : AreIn (own u) (t ∷ ts) × Complete recipes u × (now.calls ≡ calls ++ counts (t ∷ ts) u) = (w.all_done, w.complete, all) in
    record {
      gained = a.gained;
      fits = a.fits;
      whole = λ end k. elim (h) [
        | inl m ↦ subst (λ c. AreIn (own u) (t ∷ ts) × Complete recipes u × (c ≡ calls ++ counts (t ∷ ts) u)) (ok-is r now.calls end m k) good
        | inr m ↦ absurd (ok-not r end Memory k m)
      ];
      full = λ k. elim (h) [
        | inl m ↦ absurd (ok-not r now.calls Exhausted m k)
        | inr m ↦ absurd (memory-not (err-is r Memory Exhausted m k))
      ];
    }

full-tops : (ts : List Task) (u : OnceTables) → (2 ^ 64 ≤ length (may_be_asked ts (asks u))) ⊎ IsFullBelow u → IsFull ts u
full-tops ts u (inl h) = inl (subst (λ m. 2 ^ 64 ≤ m) (length-known_tops ts u) h)
full-tops ts u (inr h) = inr h

pub fresh-broke : (recipes : List (Recipe Dependency)) (ts : List Task) (bound : ℕ) (s : State) (calls : List ℕ) (old new : Log) (r : Result (List ℕ) Halt) (e : Halt) (u : OnceTables) →
    Accounts recipes ts [] [] bound s ts old new (Err e) u → r ≡ Err e → IsFresh recipes ts calls old new r u
fresh-broke recipes ts bound s calls old new r e u a h = record {
  gained = a.gained;
  fits = a.fits;
  whole = λ end k. absurd (ok-not r end e k h);
  full = λ k. full-tops ts u (a.full (ap (λ x. Err x) (err-is r e Exhausted h k)));
}

-- a task is begun
run-fits : (recipes : List (Recipe Dependency)) (before : List AskedTask) (done : List Pair) (t : Task) (ps ss : List Task) (v : OnceTables) →
    In (with_priors t ps) before → stands_among same_pair done t.pair ≡ false → AreIn done ps →
    AreNamed recipes (subsequent_dependencies recipes t.pair.recipe) ss ⊎ ((ss ≡ []) × (v ≡ NoMore) × (NoMore ≡ NoMore)) →
    RunFits recipes before done t ps ss v NoMore
run-fits recipes before done t ps ss v i n d m = record { asked_before = i; unbegun = n; priors_begun = d; named = m }

-- the block failed before its subsequents
pub block-broke : (recipes : List (Recipe Dependency)) (tops : List Task) (before : List AskedTask) (done : List Pair) (t : Task) (ps : List Task) (calls : List ℕ) (old new : Log)
    (r : Result (List ℕ) Halt) (e : Halt) →
    In (with_priors t ps) before → stands_among same_pair done t.pair ≡ false → AreIn done ps → r ≡ Err e → (e ≡ Exhausted → ⊥) →
    executed_in new ≡ executed_in old ++ executions recipes (t ∷ []) → Blocks recipes tops before done t ps calls old new r (Began t ps [] NoMore NoMore)
block-broke recipes tops before done t ps calls old new r e i n d h k g = record {
  gained = g;
  fits = (run-fits recipes before done t ps [] NoMore i n d (inr (refl, refl, refl)), tt, tt);
  low = one-below t.pair;
  whole = λ now j. absurd (ok-not r now e j h);
  full = λ j. absurd (k (err-is r e Exhausted h j));
}

-- nor was it begun
pub block-none : (recipes : List (Recipe Dependency)) (tops : List Task) (before : List AskedTask) (done : List Pair) (t : Task) (ps : List Task) (calls : List ℕ) (old new : Log)
    (r : Result (List ℕ) Halt) (e : Halt) →
    r ≡ Err e → (e ≡ Exhausted → ⊥) → executed_in new ≡ executed_in old → Blocks recipes tops before done t ps calls old new r NoMore
block-none recipes tops before done t ps calls old new r e h k g = record {
  gained = gained-none recipes old new g;
  fits = tt;
  low = none-below (suc t.pair.recipe);
  whole = λ now j. absurd (ok-not r now e j h);
  full = λ j. absurd (k (err-is r e Exhausted h j));
}

-- its subsequents ran, or failed
pub block-ran : (recipes : List (Recipe Dependency)) (tops : List Task) (before : List AskedTask) (done : List Pair) (t : Task) (ps ss : List Task) (calls : List ℕ)
    (old mid new : Log) (r : Result (List ℕ) Halt) (v : OnceTables) →
    In (with_priors t ps) before → stands_among same_pair done t.pair ≡ false → AreIn done ps → AreNamed recipes (subsequent_dependencies recipes t.pair.recipe) ss →
    executed_in mid ≡ executed_in old ++ executions recipes (t ∷ []) → IsFresh recipes ss calls mid new r v → Blocks recipes tops before done t ps calls old new r (Began t ps ss v NoMore)
block-ran recipes tops before done t ps ss calls old mid new r v i n d m g f =
    let same : length ps + 0 ≡ length ps = omega arith in
    record {
      gained = runs-gained recipes t ps ss v old mid new g f.gained;
      fits = (run-fits recipes before done t ps ss v i n d (inl m), f.fits, tt);
      low = one-below t.pair;
      whole = λ now j.
          let w : AreIn (own v) ss × Complete recipes v × (now ≡ calls ++ counts ss v) = f.whole now j in
          record {
            own_is = refl;
            asks_is = refl;
            named = tt;
            complete = (m, w.0, w.1, tt);
            priors = same;
            asked = refl;
            counts = w.2 ∙ ap (λ x. calls ++ x) (sym (append-nil (counts ss v)));
          };
      full = λ j. inl (f.full j);
    }

-- the task whose priors could not be asked for
pub ask-broke : (recipes : List (Recipe Dependency)) (tops : List Task) (before : List AskedTask) (done : List Pair) (s : State) (t : Task) (old new : Log) (r : Result State Halt) (e : Halt) →
    Stands tops before done (suc t.pair.recipe) s (t ∷ []) → stands_among same_pair done t.pair ≡ false → r ≡ Err e → (e ≡ Exhausted → ⊥) → executed_in new ≡ executed_in old →
    Accounts recipes tops before done (suc t.pair.recipe) s (t ∷ []) old new r (Asked (with_priors t []) NoMore)
ask-broke recipes tops before done s t old new r e a n h k g =
    let f : AskFits recipes tops before (with_priors t []) NoMore = record {
      from = All-head (λ (q : Task). In q (may_be_asked tops before)) t [] a.known_all;
      unasked = unasked t.pair done before a.settled n;
      named = inr (refl, refl);
    } in
    broke recipes tops before done (suc t.pair.recipe) s (t ∷ []) old new r (Asked (with_priors t []) NoMore) e h
    (gained-none recipes old new g) (f, tt) (none-below (suc t.pair.recipe)) (λ j. absurd (k j))

ask-fits : (recipes : List (Recipe Dependency)) (tops : List Task) (before : List AskedTask) (done : List Pair) (s : State) (t : Task) (ps : List Task) (u : OnceTables) →
    Stands tops before done (suc t.pair.recipe) s (t ∷ []) → stands_among same_pair done t.pair ≡ false → AreNamed recipes (prior_dependencies recipes t.pair.recipe) ps →
    AskFits recipes tops before (with_priors t ps) u
ask-fits recipes tops before done s t ps u a n m = record {
  from = All-head (λ (q : Task). In q (may_be_asked tops before)) t [] a.known_all;
  unasked = unasked t.pair done before a.settled n;
  named = inl m;
}

-- its priors failed
pub priors-broke : (recipes : List (Recipe Dependency)) (tops : List Task) (before : List AskedTask) (done : List Pair) (s : State) (t : Task) (ps : List Task) (old mid new : Log)
    (r : Result State Halt) (e : Halt) (u : OnceTables) →
    Stands tops before done (suc t.pair.recipe) s (t ∷ []) → stands_among same_pair done t.pair ≡ false → AreNamed recipes (prior_dependencies recipes t.pair.recipe) ps →
    executed_in mid ≡ executed_in old → r ≡ Err e → Accounts recipes tops (before ++ with_priors t ps ∷ []) done t.pair.recipe (counted s) ps mid new (Err e) u →
    Accounts recipes tops before done (suc t.pair.recipe) s (t ∷ []) old new r (Asked (with_priors t ps) u)
priors-broke recipes tops before done s t ps old mid new r e u a n m g h c =
    broke recipes tops before done (suc t.pair.recipe) s (t ∷ []) old new r (Asked (with_priors t ps) u) e h
    (c.gained ∙ ap (λ x. x ++ executions recipes (begun u)) g)
    (ask-fits recipes tops before done s t ps u a n m, c.fits)
    (AllLow-more t.pair.recipe (suc t.pair.recipe) (own u) (omega arith) c.low)
    (λ j. full-asked tops before (with_priors t ps) u (c.full (ap (λ x. Err x) j)))

-- the task after its priors and its block, all but what comes of it
visit-gained : (recipes : List (Recipe Dependency)) (u v : OnceTables) (old mid next new : Log) → executed_in mid ≡ executed_in old →
    executed_in next ≡ executed_in mid ++ executions recipes (begun u) → executed_in new ≡ executed_in next ++ executions recipes (begun v) →
    executed_in new ≡ executed_in old ++ executions recipes (begun (join u v))
visit-gained recipes u v old mid next new g h k = joined-begun recipes u v (executed_in old) (executed_in next) (executed_in new) (h ∙ ap (λ x. x ++ executions recipes (begun u)) g) k

-- the table after the block
table-put : (table : OnceTable) (now done : List Pair) (pair : Pair) → table ≡ stands_among same_pair now → now ++ pair ∷ [] ≡ done → put_in table pair ≡ stands_among same_pair done
table-put table now done pair h k =
    let here : (q : Pair) → put_in table pair q ≡ stands_among same_pair (now ++ pair ∷ []) q = λ q.
    ap (λ (f : OnceTable). f q || same_pair pair q) h ∙ ap (λ b. stands_among same_pair now q || b) (sym (or_false (same_pair pair q))) ∙ sym (has-append same_pair now (pair ∷ []) q) in
    (λ i q. here q i) ∙ ap (stands_among same_pair) k

-- the block failed after the priors
pub visit-broke : (recipes : List (Recipe Dependency)) (tops : List Task) (before : List AskedTask) (done : List Pair) (s now : State) (t : Task) (ps : List Task) (calls : List ℕ)
    (old mid next new : Log) (r : Result State Halt) (e : Halt) (u v : OnceTables) →
    Stands tops before done (suc t.pair.recipe) s (t ∷ []) → stands_among same_pair done t.pair ≡ false → AreNamed recipes (prior_dependencies recipes t.pair.recipe) ps →
    executed_in mid ≡ executed_in old → r ≡ Err e → Accounts recipes tops (before ++ with_priors t ps ∷ []) done t.pair.recipe (counted s) ps mid next (Ok now) u →
    Blocks recipes tops ((before ++ with_priors t ps ∷ []) ++ asks u) (done ++ own u) t ps calls next new (Err e) v →
    Accounts recipes tops before done (suc t.pair.recipe) s (t ∷ []) old new r (Asked (with_priors t ps) (join u v))
visit-broke recipes tops before done s now t ps calls old mid next new r e u v a n m g h c b =
    let w : Walked recipes done ps (counted s) now u = c.whole now refl in
    broke recipes tops before done (suc t.pair.recipe) s (t ∷ []) old new r (Asked (with_priors t ps) (join u v)) e h
    (visit-gained recipes u v old mid next new g c.gained b.gained)
    (ask-fits recipes tops before done s t ps (join u v) a n m, Fits-join recipes tops u v (before ++ with_priors t ps ∷ []) done w.named w.complete c.fits b.fits)
    (joined-low u v (suc t.pair.recipe) (AllLow-more t.pair.recipe (suc t.pair.recipe) (own u) (omega arith) c.low) b.low)
    (λ j. inr (full-join u v (b.full (ap (λ x. Err x) j))))

-- the priors and the block succeeded
visit-walked : (recipes : List (Recipe Dependency)) (done : List Pair) (s now : State) (t : Task) (ps : List Task) (calls : List ℕ) (u v : OnceTables) →
    AreNamed recipes (prior_dependencies recipes t.pair.recipe) ps →
    Walked recipes done ps (counted s) now u → IsBlock recipes t ps now.calls calls v → Walked recipes done (t ∷ []) s (ran now t calls) (Asked (with_priors t ps) (join u v))
visit-walked recipes done s now t ps calls u v m w b =
    let with_pair : (done ++ own u) ++ t.pair ∷ [] ≡ done ++ own (join u v) = ap (λ x. (done ++ own u) ++ x) (sym b.own_is) ∙ joined-own u v done in
    let own_here : own u ++ t.pair ∷ [] ≡ own (join u v) = ap (λ x. own u ++ x) (sym b.own_is) ∙ sym (own-join u v) in
    let both : 1 + (length ps + prior_count u) ≡ (1 + length ps) + prior_count u = omega arith in
    let counted_here : now.calls ≡ add_at s.calls s.number ((1 + length ps) + prior_count u) ++ counts_below u = w.counts
    ∙ ap (λ c. c ++ counts_below u) (add-twice s.calls s.number 1 (length ps + prior_count u) ∙ ap (add_at s.calls s.number) both) in
    record {
      number = w.number;
      table = table-put now.table (done ++ own u) (done ++ own (join u v)) t.pair w.table with_pair;
      all_done = All-cons (λ (q : Task). stands_among same_pair (done ++ own (join u v)) q.pair ≡ true) t [] (subst (λ d. stands_among same_pair d t.pair ≡ true) with_pair (has-last (done ++ own u) t.pair))
          (none-in (done ++ own (join u v)));
      named = (m, AllNamed-join recipes u v w.named b.named);
      complete = Complete-join recipes u v w.complete b.complete;
      settled = (subst (λ d. stands_among same_pair d t.pair ≡ true) own_here (has-last (own u) t.pair), AreDone-join u v w.settled (subst (λ as0. AreDone (own v) as0) (sym b.asks_is) tt));
      counts = block-counts u v s.calls now.calls calls s.number 1 (length ps) counted_here b.counts b.priors;
      even = omega (arith, asked-join u v, priors-join u v, w.even, b.asked, b.priors);
    }

pub visit-ran : (recipes : List (Recipe Dependency)) (tops : List Task) (before : List AskedTask) (done : List Pair) (s now : State) (t : Task) (ps : List Task) (calls : List ℕ)
    (old mid next new : Log) (r : Result State Halt) (u v : OnceTables) →
    Stands tops before done (suc t.pair.recipe) s (t ∷ []) → stands_among same_pair done t.pair ≡ false → AreNamed recipes (prior_dependencies recipes t.pair.recipe) ps →
    executed_in mid ≡ executed_in old → Accounts recipes tops (before ++ with_priors t ps ∷ []) done t.pair.recipe (counted s) ps mid next (Ok now) u →
    Blocks recipes tops ((before ++ with_priors t ps ∷ []) ++ asks u) (done ++ own u) t ps now.calls next new (Ok calls) v →
    (r ≡ Ok (ran now t calls)) ⊎ (r ≡ Err Memory) →
    Accounts recipes tops before done (suc t.pair.recipe) s (t ∷ []) old new r (Asked (with_priors t ps) (join u v))
visit-ran recipes tops before done s now t ps calls old mid next new r u v a n m g c b h =
    let w : Walked recipes done ps (counted s) now u = c.whole now refl in
    let all : Walked recipes done (t ∷ []) s (ran now t calls) (Asked (with_priors t ps) (join u v)) = visit-walked recipes done s now t ps calls u v m w (b.whole calls refl) in
    record {
      gained = visit-gained recipes u v old mid next new g c.gained b.gained;
      fits = (ask-fits recipes tops before done s t ps (join u v) a n m, Fits-join recipes tops u v (before ++ with_priors t ps ∷ []) done w.named w.complete c.fits b.fits);
      low = joined-low u v (suc t.pair.recipe) (AllLow-more t.pair.recipe (suc t.pair.recipe) (own u) (omega arith) c.low) b.low;
      whole = λ end k. elim (h) [
        | inl j ↦ subst (λ x. Walked recipes done (t ∷ []) s x (Asked (with_priors t ps) (join u v))) (ok-is r (ran now t calls) end j k) all
        | inr j ↦ absurd (ok-not r end Memory k j)
      ];
      full = λ k. elim (h) [
        | inl j ↦ absurd (ok-not r (ran now t calls) Exhausted j k)
        | inr j ↦ absurd (memory-not (err-is r Memory Exhausted j k))
      ];
    }

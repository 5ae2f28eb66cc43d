-- Trees of once tables put together.
use Rattle.std.proofs.Common.{◌≡◌, ℕ, zero, suc, ◌+◌, ◌<◌, ◌≤◌, true, false, ◌||◌, List, [], ◌∷◌, ◌++◌, length, get_or, refl, sym, ◌∙◌, ap, subst, inl, inr, arith, append_assoc}
use Rattle.std.specs.Prelude.{flat_map}
use Rattle.std.specs.List.{All}
use Rattle.std.proofs.lemmas.List.{append-nil}
use Rattle.std.proofs.lemmas.Grind.{flat_map-append}
use Rattle.std.proofs.lemmas.List.Elements.{All-weaker, All-append, All-cons, All-nil}
use Rattle.std.proofs.lemmas.Bool.{or_left, or_right, or_cases, true≢false, false_from_ne_true}
use Rattle.just_graph.proofs.Members.{In, in_left, in_right}
use Rattle.just_recipe.specs.declared.dependency.Dependency.{Dependency}
use Rattle.just_recipe.specs.declared.recipe.Recipe.{Recipe}
use Rattle.just_run_layers.specs.Host.{Executed}
use Rattle.just_tasks.specs.declared.pair.Pair.{Pair}
use Rattle.just_execution.specs.Firsts.{stands_among}
use Rattle.just_tasks.specs.declared.task.Task.{Task}
use Rattle.just_tasks.specs.Pairs.{same_pair, prior_dependencies}
use Rattle.just_execution.specs.Account.{AskedTask, OnceTables, NoMore, Asked, Began, own, begun, executions, AreIn, may_be_asked, pairs_asked, AreNamed, FitsTables, Complete, prior_count, asked_count, if_any, counts_below, IsFullBelow}
use Rattle.just_execution.specs.Walking.{add_at}
use Rattle.just_execution.proofs.Keeps.{has-append}
use Rattle.just_execution.proofs.Pairs.{pair-exact}

-- a task that was asked, with its priors
abbrev pub with_priors : Task → List Task → AskedTask
with_priors t ps = record { task = t; priors = ps }

-- those asked in the table itself
abbrev pub asks : OnceTables → List AskedTask
asks NoMore = []
asks (Asked a rest) = a ∷ asks rest
asks (Began t ps ss below rest) = asks rest

-- each pair's recipe stands below the bound
abbrev pub AllLow : ℕ → List Pair → Type 0
AllLow bound ps = All (λ (p : Pair). p.recipe < bound) ps

-- the pair of each asked is among some pairs
abbrev pub AreDone : List Pair → List AskedTask → Type 0
AreDone done [] = Unit {0}
AreDone done (a ∷ rest) = (stands_among same_pair done a.task.pair ≡ true) × AreDone done rest

-- the pair of each asked of a recipe below the bound is among some pairs
abbrev pub Settled : ℕ → List AskedTask → List Pair → Type 0
Settled bound [] done = Unit {0}
Settled bound (a ∷ rest) done = (a.task.pair.recipe < bound → stands_among same_pair done a.task.pair ≡ true) × Settled bound rest done

-- the priors of each asked are what its recipe names
abbrev pub AllNamed : List (Recipe Dependency) → OnceTables → Type 0
AllNamed recipes NoMore = Unit {0}
AllNamed recipes (Asked a rest) = AreNamed recipes (prior_dependencies recipes a.task.pair.recipe) a.priors × AllNamed recipes rest
AllNamed recipes (Began t ps ss below rest) = AllNamed recipes rest

-- what happened in a table, and then more
abbrev pub join : OnceTables → OnceTables → OnceTables
join NoMore u = u
join (Asked a r) u = Asked a (join r u)
join (Began t ps ss b r) u = Began t ps ss b (join r u)

pub own-join : (t u : OnceTables) → own (join t u) ≡ own t ++ own u
own-join NoMore u = refl
own-join (Asked a r) u = own-join r u
own-join (Began t ps ss b r) u = ap (λ x. t.pair ∷ x) (own-join r u)

pub asks-join : (t u : OnceTables) → asks (join t u) ≡ asks t ++ asks u
asks-join NoMore u = refl
asks-join (Asked a r) u = ap (λ x. a ∷ x) (asks-join r u)
asks-join (Began t ps ss b r) u = asks-join r u

pub begun-join : (t u : OnceTables) → begun (join t u) ≡ begun t ++ begun u
begun-join NoMore u = refl
begun-join (Asked a r) u = begun-join r u
begun-join (Began t ps ss b r) u = ap (λ x. t ∷ (begun b ++ x)) (begun-join r u) ∙ ap (λ x. t ∷ x) (sym (append_assoc (begun b) (begun r) (begun u)))

pub priors-join : (t u : OnceTables) → prior_count (join t u) ≡ prior_count t + prior_count u
priors-join NoMore u = omega arith
priors-join (Asked a r) u = priors-join r u
priors-join (Began t ps ss b r) u = let h = priors-join r u in omega arith

pub asked-join : (t u : OnceTables) → asked_count (join t u) ≡ asked_count t + asked_count u
asked-join NoMore u = omega arith
asked-join (Asked a r) u = let h = asked-join r u in omega arith
asked-join (Began t ps ss b r) u = asked-join r u

pub even-join : (t u : OnceTables) → asked_count t ≡ prior_count t → asked_count u ≡ prior_count u → asked_count (join t u) ≡ prior_count (join t u)
even-join t u h k = asked-join t u ∙ (λ i. h i + k i) ∙ sym (priors-join t u)

pub below-join : (t u : OnceTables) → counts_below (join t u) ≡ counts_below t ++ counts_below u
below-join NoMore u = refl
below-join (Asked a r) u = below-join r u
below-join (Began t ps ss b r) u = ap (λ x. if_any ss ((length ss + prior_count b) ∷ counts_below b) ++ x) (below-join r u)
    ∙ sym (append_assoc (if_any ss ((length ss + prior_count b) ∷ counts_below b)) (counts_below r) (counts_below u))

pub Complete-join : (recipes : List (Recipe Dependency)) (t u : OnceTables) → Complete recipes t → Complete recipes u → Complete recipes (join t u)
Complete-join recipes NoMore u h k = k
Complete-join recipes (Asked a r) u h k = Complete-join recipes r u h k
Complete-join recipes (Began t ps ss b r) u h k = (h.0, h.1, h.2, Complete-join recipes r u h.3 k)

pub AllNamed-join : (recipes : List (Recipe Dependency)) (t u : OnceTables) → AllNamed recipes t → AllNamed recipes u → AllNamed recipes (join t u)
AllNamed-join recipes NoMore u h k = k
AllNamed-join recipes (Asked a r) u h k = (h.0, AllNamed-join recipes r u h.1 k)
AllNamed-join recipes (Began t ps ss b r) u h k = AllNamed-join recipes r u h k

pub full-join : (t u : OnceTables) → IsFullBelow u → IsFullBelow (join t u)
full-join NoMore u h = h
full-join (Asked a r) u h = full-join r u h
full-join (Began t ps ss b r) u h = inr (full-join r u h)

-- only where nothing failed can more follow
pub Fits-join : (recipes : List (Recipe Dependency)) (tops : List Task) (t u : OnceTables) (asked : List AskedTask) (done : List Pair) → AllNamed recipes t → Complete recipes t →
    FitsTables recipes tops asked done t → FitsTables recipes tops (asked ++ asks t) (done ++ own t) u → FitsTables recipes tops asked done (join t u)
Fits-join recipes tops NoMore u asked done n c h k = subst (λ a. FitsTables recipes tops a done u) (append-nil asked) (subst (λ d. FitsTables recipes tops (asked ++ []) d u) (append-nil done) k)
Fits-join recipes tops (Asked a r) u asked done n c h k = (
  record { from = h.0.from; unasked = h.0.unasked; named = inl n.0 },
  Fits-join recipes tops r u (asked ++ a ∷ []) done n.1 c h.1 (subst (λ x. FitsTables recipes tops x (done ++ own r) u) (sym (append_assoc asked (a ∷ []) (asks r))) k),
)
Fits-join recipes tops (Began t ps ss b r) u asked done n c h k = (
  record { asked_before = h.0.asked_before; unbegun = h.0.unbegun; priors_begun = h.0.priors_begun; named = inl c.0 },
  h.1,
  Fits-join recipes tops r u asked (done ++ t.pair ∷ []) n c.3 h.2 (subst (λ d. FitsTables recipes tops (asked ++ asks r) d u) (sym (append_assoc done (t.pair ∷ []) (own r))) k),
)

pub AllLow-more : (k n : ℕ) (ps : List Pair) → k ≤ n → AllLow k ps → AllLow n ps
AllLow-more k n ps l h = All-weaker (λ (p : Pair). p.recipe < k) (λ (p : Pair). p.recipe < n) (λ p q. omega arith) ps h

-- a pair is not among pairs of lower places
not-below : (p : Pair) → (ps : List Pair) → AllLow p.recipe ps → stands_among same_pair ps p ≡ true → ⊥
not-below p [] h k = true≢false (sym k)
not-below p (q ∷ ps) h k = elim (or_cases (same_pair q p) (stands_among same_pair ps p) k) [
  | inl m ↦ let e : q.recipe ≡ p.recipe = ap (λ (r : Pair). r.recipe) (pair-exact.only q p m) in let l : q.recipe < p.recipe = h 0 p (omega arith) in absurd (omega arith)
  | inr m ↦ not-below p ps (λ i d l. h (suc i) d (omega arith)) m
]

pub still-new : (done ps : List Pair) (p : Pair) → stands_among same_pair done p ≡ false → AllLow p.recipe ps → stands_among same_pair (done ++ ps) p ≡ false
still-new done ps p h k = false_from_ne_true (stands_among same_pair (done ++ ps) p) (λ m. elim (or_cases (stands_among same_pair done p) (stands_among same_pair ps p) (sym (has-append same_pair done ps p) ∙ m)) [
  | inl a ↦ true≢false (sym a ∙ h)
  | inr a ↦ not-below p ps k a
])

pub has-last : (done : List Pair) (p : Pair) → stands_among same_pair (done ++ p ∷ []) p ≡ true
has-last done p = has-append same_pair done (p ∷ []) p ∙ or_right (stands_among same_pair done p) (same_pair p p || false) (or_left (same_pair p p) false (pair-exact.itself p))

pub executions-append : (rs : List (Recipe Dependency)) (xs ys : List Task) → executions rs (xs ++ ys) ≡ executions rs xs ++ executions rs ys
executions-append rs xs ys = flat_map-append _ xs ys

-- what is known grows with what was asked
pub known-append : (tops : List Task) (a b : List AskedTask) → may_be_asked tops (a ++ b) ≡ may_be_asked tops a ++ flat_map (λ (a : AskedTask). a.priors) b
known-append tops a b = ap (λ x. tops ++ x) (flat_map-append (λ (a : AskedTask). a.priors) a b)
    ∙ sym (append_assoc tops (flat_map (λ (a : AskedTask). a.priors) a) (flat_map (λ (a : AskedTask). a.priors) b))

pub known-more : (tops : List Task) (a b : List AskedTask) (t : Task) → In t (may_be_asked tops a) → In t (may_be_asked tops (a ++ b))
known-more tops a b t h = subst (λ x. In t x) (sym (known-append tops a b)) (in_left t (may_be_asked tops a) (flat_map (λ (a : AskedTask). a.priors) b) h)

All-In : {A : Type 0} → (qs xs : List A) → ((q : A) → In q qs → In q xs) → All (λ (q : A). In q xs) qs
All-In {A} [] xs h = All-nil (λ (q : A). In q xs)
All-In {A} (q ∷ qs) xs h = All-cons (λ (q : A). In q xs) q qs (h q (inl refl)) (All-In qs xs (λ r i. h r (inr i)))

-- the priors of a task just asked are known
pub known-priors : (tops : List Task) (asked : List AskedTask) (t : Task) (ps : List Task) → All (λ (q : Task). In q (may_be_asked tops (asked ++ with_priors t ps ∷ []))) ps
known-priors tops asked t ps = All-In ps (may_be_asked tops (asked ++ with_priors t ps ∷ [])) (λ q i.
    subst (λ x. In q x) (sym (known-append tops asked (with_priors t ps ∷ []))) (in_right q (may_be_asked tops asked) (ps ++ []) (in_left q ps [] i)))

pub known-all : (tops : List Task) → All (λ (q : Task). In q (may_be_asked tops [])) tops
known-all tops = All-In tops (may_be_asked tops []) (λ q i. in_left q tops [] i)

-- how many may be asked
length-append : {A : Type 0} (xs ys : List A) → length (xs ++ ys) ≡ length xs + length ys
length-append [] ys = omega arith
length-append (x ∷ xs) ys = let h = length-append xs ys in omega arith

length-asked : (t : OnceTables) → length (flat_map (λ (a : AskedTask). a.priors) (asks t)) ≡ asked_count t
length-asked NoMore = refl
length-asked (Asked a r) = length-append a.priors (flat_map (λ (a : AskedTask). a.priors) (asks r)) ∙ ap (λ n. length a.priors + n) (length-asked r)
length-asked (Began t ps ss b r) = length-asked r

pub length-known : (tops : List Task) (before : List AskedTask) (t : OnceTables) → length (may_be_asked tops (before ++ asks t)) ≡ length (may_be_asked tops before) + asked_count t
length-known tops before t = ap (λ x. length x) (known-append tops before (asks t)) ∙ length-append (may_be_asked tops before) (flat_map (λ (a : AskedTask). a.priors) (asks t))
    ∙ ap (λ n. length (may_be_asked tops before) + n) (length-asked t)

pub length-known_one : (tops : List Task) (before : List AskedTask) (a : AskedTask) → length (may_be_asked tops (before ++ a ∷ [])) ≡ length (may_be_asked tops before) + length a.priors
length-known_one tops before a =
    let e : length (may_be_asked tops before) + (length a.priors + 0) ≡ length (may_be_asked tops before) + length a.priors = omega arith in
    length-known tops before (Asked a NoMore) ∙ e

pub length-known_none : (tops : List Task) → length (may_be_asked tops []) ≡ length tops
length-known_none tops = ap (λ x. length x) (append-nil tops)

pub length-known_tops : (tops : List Task) (t : OnceTables) → length (may_be_asked tops (asks t)) ≡ length tops + asked_count t
length-known_tops tops t = length-known tops [] t ∙ ap (λ n. n + asked_count t) (length-known_none tops)

-- those asked and done
pub AreDone-more : (done more : List Pair) (rest : List AskedTask) → AreDone done rest → AreDone (done ++ more) rest
AreDone-more done more [] h = tt
AreDone-more done more (a ∷ rest) h = (has-append same_pair done more a.task.pair ∙ or_left (stands_among same_pair done a.task.pair) (stands_among same_pair more a.task.pair) h.0, AreDone-more done more rest h.1)

pub AreDone-after : (done more : List Pair) (rest : List AskedTask) → AreDone more rest → AreDone (done ++ more) rest
AreDone-after done more [] h = tt
AreDone-after done more (a ∷ rest) h =
    (has-append same_pair done more a.task.pair ∙ or_right (stands_among same_pair done a.task.pair) (stands_among same_pair more a.task.pair) h.0, AreDone-after done more rest h.1)

AreDone-append : (done : List Pair) (rest bs : List AskedTask) → AreDone done rest → AreDone done bs → AreDone done (rest ++ bs)
AreDone-append done [] bs h k = k
AreDone-append done (a ∷ rest) bs h k = (h.0, AreDone-append done rest bs h.1 k)

pub AreDone-join : (t u : OnceTables) → AreDone (own t) (asks t) → AreDone (own u) (asks u) → AreDone (own (join t u)) (asks (join t u))
AreDone-join t u h k = subst (λ d. AreDone d (asks (join t u))) (sym (own-join t u)) (subst (λ a. AreDone (own t ++ own u) a) (sym (asks-join t u))
    (AreDone-append (own t ++ own u) (asks t) (asks u) (AreDone-more (own t) (own u) (asks t) h) (AreDone-after (own t) (own u) (asks u) k)))

Settled-append : (k : ℕ) (done : List Pair) (rest bs : List AskedTask) → Settled k rest done → Settled k bs done → Settled k (rest ++ bs) done
Settled-append k done [] bs h i = i
Settled-append k done (a ∷ rest) bs h i = (h.0, Settled-append k done rest bs h.1 i)

Settled-more : (k : ℕ) (done more : List Pair) (rest : List AskedTask) → Settled k rest done → Settled k rest (done ++ more)
Settled-more k done more [] h = tt
Settled-more k done more (a ∷ rest) h =
    ((λ l. has-append same_pair done more a.task.pair ∙ or_left (stands_among same_pair done a.task.pair) (stands_among same_pair more a.task.pair) (h.0 l)), Settled-more k done more rest h.1)

pub Settled-low : (k n : ℕ) (done : List Pair) (rest : List AskedTask) → k ≤ n → Settled n rest done → Settled k rest done
Settled-low k n done [] l h = tt
Settled-low k n done (a ∷ rest) l h = ((λ i. h.0 (omega arith)), Settled-low k n done rest l h.1)

Settled-done : (k : ℕ) (done : List Pair) (rest : List AskedTask) → AreDone done rest → Settled k rest done
Settled-done k done [] h = tt
Settled-done k done (a ∷ rest) h = ((λ i. h.0), Settled-done k done rest h.1)

pub Settled-then : (k : ℕ) (done : List Pair) (asked : List AskedTask) (t : OnceTables) → Settled k asked done → AreDone (own t) (asks t) → Settled k (asked ++ asks t) (done ++ own t)
Settled-then k done asked t h i =
    Settled-append k (done ++ own t) asked (asks t) (Settled-more k done (own t) asked h) (Settled-done k (done ++ own t) (asks t) (AreDone-after done (own t) (asks t) i))

-- the pair itself, asked, does not count below it
pub Settled-asked : (done : List Pair) (asked : List AskedTask) (a : AskedTask) → Settled (suc a.task.pair.recipe) asked done → Settled a.task.pair.recipe (asked ++ a ∷ []) done
Settled-asked done asked a h =
    Settled-append a.task.pair.recipe done asked (a ∷ []) (Settled-low a.task.pair.recipe (suc a.task.pair.recipe) done asked (omega arith) h) ((λ l. absurd (omega arith)), tt)

-- a pair that is not done was not asked
unasked-not : (p : Pair) (done : List Pair) (rest : List AskedTask) → Settled (suc p.recipe) rest done → stands_among same_pair done p ≡ false → stands_among same_pair (pairs_asked rest) p ≡ true → ⊥
unasked-not p done [] h n k = true≢false (sym k)
unasked-not p done (a ∷ rest) h n k = elim (or_cases (same_pair a.task.pair p) (stands_among same_pair (pairs_asked rest) p) k) [
  | inl m ↦ let e : a.task.pair ≡ p = pair-exact.only a.task.pair p m in
      let l : a.task.pair.recipe ≡ p.recipe = ap (λ (q : Pair). q.recipe) e in
      true≢false (sym (h.0 (omega arith)) ∙ ap (stands_among same_pair done) e ∙ n)
  | inr m ↦ unasked-not p done rest h.1 n m
]

pub unasked : (p : Pair) (done : List Pair) (rest : List AskedTask) → Settled (suc p.recipe) rest done → stands_among same_pair done p ≡ false → stands_among same_pair (pairs_asked rest) p ≡ false
unasked p done rest h n = false_from_ne_true (stands_among same_pair (pairs_asked rest) p) (λ k. unasked-not p done rest h n k)

-- counts
pub add-twice : (ns : List ℕ) (i a b : ℕ) → add_at (add_at ns i a) i b ≡ add_at ns i (a + b)
add-twice [] i a b = refl
add-twice (n ∷ ns) zero a b = ap (λ x. x ∷ ns) (omega arith)
add-twice (n ∷ ns) (suc i) a b = ap (λ x. n ∷ x) (add-twice ns i a b)

pub add-append : (ns ms : List ℕ) (i a : ℕ) → i < length ns → add_at (ns ++ ms) i a ≡ add_at ns i a ++ ms
add-append [] ms i a h = absurd (omega arith)
add-append (n ∷ ns) ms zero a h = refl
add-append (n ∷ ns) ms (suc i) a h = ap (λ x. n ∷ x) (add-append ns ms i a (omega arith))

pub add-zero : (ns : List ℕ) (i : ℕ) → add_at ns i 0 ≡ ns
add-zero [] i = refl
add-zero (n ∷ ns) zero = ap (λ x. x ∷ ns) (omega arith)
add-zero (n ∷ ns) (suc i) = ap (λ x. n ∷ x) (add-zero ns i)

pub length-add : (ns : List ℕ) (i a : ℕ) → length (add_at ns i a) ≡ length ns
length-add [] i a = refl
length-add (n ∷ ns) zero a = refl
length-add (n ∷ ns) (suc i) a = ap suc (length-add ns i a)

pub add-last : (ns : List ℕ) (a : ℕ) → add_at (ns ++ 0 ∷ []) (length ns) a ≡ ns ++ a ∷ []
add-last [] a = ap (λ x. x ∷ []) (omega arith)
add-last (n ∷ ns) a = ap (λ x. n ∷ x) (add-last ns a)

-- the counter that was added to, whatever was opened after it
pub count-added : (ns ms : List ℕ) (i k : ℕ) → i < length ns → get_or (add_at ns i k ++ ms) i 0 ≡ get_or ns i 0 + k
count-added [] ms i k h = absurd (omega arith)
count-added (n ∷ ns) ms zero k h = refl
count-added (n ∷ ns) ms (suc i) k h = count-added ns ms i k (omega arith)

pub length-added : (ns ms : List ℕ) (i k : ℕ) → i < length ns → i < length (add_at ns i k ++ ms)
length-added ns ms i k h = let a : length (add_at ns i k ++ ms) ≡ length (add_at ns i k) + length ms = length-append (add_at ns i k) ms in let b = length-add ns i k in omega arith

pub count-opened : (ns : List ℕ) → get_or (ns ++ 0 ∷ []) (length ns) 0 ≡ 0
count-opened [] = refl
count-opened (n ∷ ns) = count-opened ns

pub length-opened : (ns : List ℕ) → length ns < length (ns ++ 0 ∷ [])
length-opened ns = let a : length (ns ++ 0 ∷ []) ≡ length ns + 1 = length-append ns (0 ∷ []) in omega arith

-- two parts of a run, one after the other, counted under one table
counted-join : (c0 c1 c2 : List ℕ) (i a b : ℕ) (x y : List ℕ) → i < length c0 → c1 ≡ add_at c0 i a ++ x → c2 ≡ add_at c1 i b ++ y → c2 ≡ add_at c0 i (a + b) ++ (x ++ y)
counted-join c0 c1 c2 i a b x y h e k =
    k ∙ ap (λ t. add_at t i b ++ y) e ∙ ap (λ t. t ++ y) (add-append (add_at c0 i a) x i b (let l = length-add c0 i a in omega arith))
    ∙ ap (λ t. (t ++ x) ++ y) (add-twice c0 i a b) ∙ append_assoc (add_at c0 i (a + b)) x y

pub joined-counts : (t u : OnceTables) (c0 c1 c2 : List ℕ) (i a b : ℕ) → i < length c0 → c1 ≡ add_at c0 i (a + prior_count t) ++ counts_below t →
    c2 ≡ add_at c1 i (b + prior_count u) ++ counts_below u → c2 ≡ add_at c0 i ((a + b) + prior_count (join t u)) ++ counts_below (join t u)
joined-counts t u c0 c1 c2 i a b h e k =
    let n : (a + prior_count t) + (b + prior_count u) ≡ (a + b) + prior_count (join t u) = omega (arith, priors-join t u) in
    counted-join c0 c1 c2 i (a + prior_count t) (b + prior_count u) (counts_below t) (counts_below u) h e k
    ∙ ap (λ x. add_at c0 i x ++ (counts_below t ++ counts_below u)) n ∙ ap (λ x. add_at c0 i ((a + b) + prior_count (join t u)) ++ x) (sym (below-join t u))

-- the priors, and then the block, which counts nothing in the table itself
pub block-counts : (t u : OnceTables) (c0 c1 c2 : List ℕ) (i k a : ℕ) → c1 ≡ add_at c0 i ((k + a) + prior_count t) ++ counts_below t → c2 ≡ c1 ++ counts_below u → prior_count u ≡ a →
    c2 ≡ add_at c0 i (k + prior_count (join t u)) ++ counts_below (join t u)
block-counts t u c0 c1 c2 i k a e g h =
    let n : (k + a) + prior_count t ≡ k + prior_count (join t u) = omega (arith, priors-join t u) in
    g ∙ ap (λ x. x ++ counts_below u) e ∙ append_assoc (add_at c0 i ((k + a) + prior_count t)) (counts_below t) (counts_below u)
    ∙ ap (λ x. add_at c0 i x ++ (counts_below t ++ counts_below u)) n ∙ ap (λ x. add_at c0 i (k + prior_count (join t u)) ++ x) (sym (below-join t u))

-- a table that is opened, and what is counted in it and below
pub opened-counts : (calls new : List ℕ) (k : ℕ) (below : List ℕ) → new ≡ add_at (calls ++ 0 ∷ []) (length calls) k ++ below → new ≡ calls ++ k ∷ below
opened-counts calls new k below e = e ∙ ap (λ x. x ++ below) (add-last calls k) ∙ append_assoc calls (k ∷ []) below

-- the executions of two parts
pub joined-begun : (rs : List (Recipe Dependency)) (t u : OnceTables) (old mid new : List Executed) → mid ≡ old ++ executions rs (begun t) → new ≡ mid ++ executions rs (begun u) →
    new ≡ old ++ executions rs (begun (join t u))
joined-begun rs t u old mid new h k = k ∙ ap (λ x. x ++ executions rs (begun u)) h ∙ append_assoc old (executions rs (begun t)) (executions rs (begun u))
    ∙ ap (λ x. old ++ x) (sym (executions-append rs (begun t) (begun u)) ∙ ap (executions rs) (sym (begun-join t u)))

pub joined-low : (t u : OnceTables) (k : ℕ) → AllLow k (own t) → AllLow k (own u) → AllLow k (own (join t u))
joined-low t u k h i = subst (λ ps. AllLow k ps) (sym (own-join t u)) (All-append (λ (p : Pair). p.recipe < k) (own t) (own u) h i)

pub joined-own : (t u : OnceTables) (done : List Pair) → (done ++ own t) ++ own u ≡ done ++ own (join t u)
joined-own t u done = append_assoc done (own t) (own u) ∙ ap (λ x. done ++ x) (sym (own-join t u))

pub joined-asks : (t u : OnceTables) (before : List AskedTask) → (before ++ asks t) ++ asks u ≡ before ++ asks (join t u)
joined-asks t u before = append_assoc before (asks t) (asks u) ∙ ap (λ x. before ++ x) (sym (asks-join t u))

pub none-in : (done : List Pair) → AreIn done []
none-in done i d h = absurd (omega arith)

pub none-below : (k : ℕ) → AllLow k []
none-below k i d h = absurd (omega arith)

pub one-below : (p : Pair) → AllLow (suc p.recipe) (p ∷ [])
one-below p = All-cons (λ (q : Pair). q.recipe < suc p.recipe) p [] (omega arith) (none-below (suc p.recipe))

pub has-more : (done more : List Pair) (p : Pair) → stands_among same_pair done p ≡ true → stands_among same_pair (done ++ more) p ≡ true
has-more done more p h = has-append same_pair done more p ∙ or_left (stands_among same_pair done p) (stands_among same_pair more p) h

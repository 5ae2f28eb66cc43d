-- Rows of places, as they are read, joined and set.
use Rattle.std.proofs.Common.{◌≡◌, ◌≢◌, inl, inr, subst, ℕ, zero, suc, ◌+◌, ◌-◌, ◌<◌, List, [], ◌∷◌, ◌++◌, take, length, get_or, set, slice_index, refl, sym, ap, ◌∙◌, ◌↔◌, arith}
use Rattle.std.specs.Prelude.{flat_map, nat_eq}
use Rattle.std.specs.List.{All, Contains}
use Rattle.std.proofs.lemmas.Bool.{cases_eq, cases_lt}
use Rattle.std.proofs.lemmas.List.Elements.{All-append, Contains-get_or}
use Rattle.std.proofs.lemmas.List.{append_assoc, append-nil, length-set, take_more}
use Rattle.std.specs.declared.vec.Vec.{Vec}
use Rattle.std.specs.declared.alloc.Global.{Global}
use Rattle.just_graph.specs.Graph.{targets}
use Rattle.just_graph.specs.Building.{EachRow, targets_past}
use Rattle.just_graph.specs.Levels.{AreLevels}
use Rattle.just_graph.proofs.Targets.{targets_at}
use Rattle.just_graph.specs.Graph.{HasEdge, IsGraph}
use Rattle.just_graph.specs.Steps.{IsCircle, IsWalk, Reached, from_start, from_member}
use Rattle.just_graph.proofs.Members.{In, contained, from_flat, is_in}
use Rattle.just_module_headers.specs.Joined.{AreGraphs, AreJoined, IsJoined}
use Rattle.just_module_headers.specs.loops.Joined.{StaysJoined}
use Rattle.just_module_headers.specs.declared.files.Rows.{Rows}
use Rattle.just_module_headers.specs.declared.join.Joined.{Joined}

-- one more element
flat_append : (f : ℕ → List ℕ) (xs ys : List ℕ) → flat_map f (xs ++ ys) ≡ flat_map f xs ++ flat_map f ys
flat_append f [] ys = refl
flat_append f (x ∷ xs) ys = ap (λ zs. f x ++ zs) (flat_append f xs ys) ∙ sym (append_assoc (f x) (flat_map f xs) (flat_map f ys))

pub flat_more : (f : ℕ → List ℕ) (xs : List ℕ) (n : ℕ) → n < length xs → flat_map f (take (n + 1) xs) ≡ flat_map f (take n xs) ++ f (slice_index xs n)
flat_more f xs n h = ap (flat_map f) (take_more xs n 0 h) ∙ flat_append f (take n xs) (slice_index xs n ∷ []) ∙ ap (λ ys. flat_map f (take n xs) ++ ys) (append-nil (f (slice_index xs n)))

-- a row that is read
pub row_read : (rows : List (Vec ℕ Global)) (a : ℕ) (row : Vec ℕ Global) → a < length rows → row ≡ get_or rows a row → targets rows a ≡ row.items
row_read rows a row h is = targets_at rows a row h ∙ ap (λ (r : Vec ℕ Global). r.items) (sym is)

-- a row that is set
pub targets_set_same : (rows : List (Vec ℕ Global)) (a : ℕ) (row : Vec ℕ Global) → a < length rows → targets (set rows a row) a ≡ row.items
targets_set_same [] a row h = absurd (omega arith)
targets_set_same (r ∷ rows) zero row h = refl
targets_set_same (r ∷ rows) (suc a) row h = targets_set_same rows a row (omega arith)

pub targets_set_other : (rows : List (Vec ℕ Global)) (a b : ℕ) (row : Vec ℕ Global) → b ≢ a → targets (set rows a row) b ≡ targets rows b
targets_set_other [] a b row ne = refl
targets_set_other (r ∷ rows) zero zero row ne = absurd (ne refl)
targets_set_other (r ∷ rows) zero (suc b) row ne = refl
targets_set_other (r ∷ rows) (suc a) zero row ne = refl
targets_set_other (r ∷ rows) (suc a) (suc b) row ne = targets_set_other rows a b row (λ e. ne (ap suc e))

-- one more module is joined
module _ (rows : Rows) (n : ℕ) (old new : Joined) (place : ℕ) (files modules : Vec ℕ Global) (inside : place < n) (so : AreJoined rows n old)
    (levels : AreLevels nat_eq (targets rows.imports.items) place files.items) (after : modules.items ≡ flat_map (targets rows.modules.items) files.items)
    (files_set : new.files.items ≡ set old.files.items place files) (modules_set : new.modules.items ≡ set old.modules.items place modules) where
  files_here : targets new.files.items place ≡ files.items
  files_here = ap (λ rs. targets rs place) files_set ∙ targets_set_same old.files.items place files (omega (arith, inside, so.files))

  modules_here : targets new.modules.items place ≡ modules.items
  modules_here = ap (λ rs. targets rs place) modules_set ∙ targets_set_same old.modules.items place modules (omega (arith, inside, so.modules))

  pub joined_here : IsJoined rows new place
  joined_here = record {
    files = subst (AreLevels nat_eq (targets rows.imports.items) place) (sym files_here) levels;
    modules = modules_here ∙ after ∙ ap (flat_map (targets rows.modules.items)) (sym files_here);
  }

  files_there : (a : ℕ) → a ≢ place → targets new.files.items a ≡ targets old.files.items a
  files_there a ne = ap (λ rs. targets rs a) files_set ∙ targets_set_other old.files.items place a files ne

  modules_there : (a : ℕ) → a ≢ place → targets new.modules.items a ≡ targets old.modules.items a
  modules_there a ne = ap (λ rs. targets rs a) modules_set ∙ targets_set_other old.modules.items place a modules ne

  joined_there : (a : ℕ) → a ≢ place → IsJoined rows old a → IsJoined rows new a
  joined_there a ne j = record {
    files = subst (AreLevels nat_eq (targets rows.imports.items) a) (sym (files_there a ne)) j.files;
    modules = modules_there a ne ∙ j.modules ∙ ap (flat_map (targets rows.modules.items)) (sym (files_there a ne));
  }

  pub stays_joined : StaysJoined rows old new
  stays_joined = λ a j. elim (cases_eq a place) [ inl same ↦ subst (IsJoined rows new) (sym same) joined_here | inr ne ↦ joined_there a ne j ]

  pub all_joined : AreJoined rows n new
  all_joined = record {
    files = ap length files_set ∙ length-set old.files.items place files ∙ so.files;
    modules = ap length modules_set ∙ length-set old.modules.items place modules ∙ so.modules;
    each = λ a. elim (cases_eq a place) [
      | inl same ↦ inr (subst (IsJoined rows new) (sym same) joined_here)
      | inr ne ↦ elim (so.each a) [ inl none ↦ inl (files_there a ne ∙ none.0, modules_there a ne ∙ none.1) | inr j ↦ inr (joined_there a ne j) ]
    ];
  }

-- what is joined, where it is not nothing
pub joined_unless : (rows : Rows) (n : ℕ) (joined : Joined) (a : ℕ) → AreJoined rows n joined → (targets joined.files.items a ≡ [] → ⊥) → IsJoined rows joined a
joined_unless rows n joined a so some = elim (so.each a) [ inl none ↦ absurd (some none.0) | inr j ↦ j ]

reached_below : (g : List (Vec ℕ Global)) (start : ℕ) → IsGraph g → start < length g → {a : ℕ} → Reached (HasEdge g) (start ∷ []) [] a → a < length g
reached_below g start graph h (from_start {a} c) = elim (is_in a (start ∷ []) c) [ inl e ↦ omega (arith, h, e) | inr wrong ↦ absurd wrong ]
reached_below g start graph h (from_member {a} {b} r on e) = graph a b e

-- what is reached is inside
pub all_below : (g : List (Vec ℕ Global)) (start n : ℕ) (found same : List ℕ) → IsGraph g → start < length g → length g ≡ n → ((a : ℕ) → Contains found a ↔ Reached (HasEdge g) (start ∷ []) [] a) → same ≡ found → All (λ a. a < n) same
all_below g start n found same graph h count reached e = λ k d l.
    let x = get_or same k d in
    let c : Contains found x = subst (λ xs. Contains xs x) e (Contains-get_or same k d l) in
    let below : x < length g = reached_below g start graph h ((reached x).0 c) in
    omega (arith, below, count)

all_one : (P : ℕ → Type 0) (x : ℕ) → P x → All P (x ∷ [])
all_one P x p zero d l = p
all_one P x p (suc k) d l = absurd (omega arith)

-- one more of a list
pub all_more : (P Q : ℕ → Type 0) (xs : List ℕ) (n : ℕ) → n < length xs → ((a : ℕ) → P a → Q a) → Q (slice_index xs n) → All P (take n xs) → All Q (take (n + 1) xs)
all_more P Q xs n h f q all = subst (All Q) (sym (take_more xs n 0 h)) (All-append Q (take n xs) (slice_index xs n ∷ []) (λ k d l. f _ (all k d l)) (all_one Q (slice_index xs n) q))

no_row : (g : List (Vec ℕ Global)) (count : ℕ) → EachRow (λ a row. row ≡ []) count g → (a : ℕ) → targets g a ≡ []
no_row g count each a = elim (cases_lt a count) [ inl l ↦ each.rows a l | inr l ↦ targets_past g a (omega (arith, l, each.count)) ]

-- nothing is joined
pub none_are_joined : (rows : Rows) (n count : ℕ) (joined : Joined) → count ≡ n → EachRow (λ a row. row ≡ []) count joined.files.items → EachRow (λ a row. row ≡ []) count joined.modules.items → AreJoined rows n joined
none_are_joined rows n count joined same files modules = record {
  files = files.count ∙ same;
  modules = modules.count ∙ same;
  each = λ a. inl (no_row joined.files.items count files a, no_row joined.modules.items count modules a);
}

-- what holds of each element
pub in_row : (P : ℕ → Type 0) (xs : List ℕ) (b : ℕ) → All P xs → Contains xs b → P b
in_row P xs b all c = subst P c.2 (all c.0 b c.1)

-- a walk of steps that each lead deeper ends deeper than it begins
module _ (R : ℕ → ℕ → Type 0) (depth : ℕ → ℕ) (deeper : (a b : ℕ) → R a b → depth a < depth b) (ns : List ℕ) (walk : IsWalk R ns) where
  deeper_at : (k : ℕ) → k + 1 < length ns → depth (slice_index ns 0) < depth (slice_index ns (k + 1))
  deeper_at zero h = deeper (slice_index ns 0) (slice_index ns 1) (walk 0 h)
  deeper_at (suc k) h =
      let before = deeper_at k (omega (arith, h)) in
      let step : depth (slice_index ns (k + 1)) < depth (slice_index ns (suc k + 1)) = deeper (slice_index ns (k + 1)) (slice_index ns (suc k + 1)) (subst (λ m. R (slice_index ns (k + 1)) (slice_index ns m)) (omega arith) (walk (k + 1) (omega (arith, h)))) in
      omega (arith, before, step)

-- so there is no circle
pub no_circle : (R : ℕ → ℕ → Type 0) (depth : ℕ → ℕ) → ((a b : ℕ) → R a b → depth a < depth b) → (ns : List ℕ) → IsCircle R ns → ⊥
no_circle R depth deeper ns c =
    let deep = deeper_at R depth deeper ns c.walk (length ns - 2) (omega (arith, c.steps)) in
    let last : slice_index ns (length ns - 2 + 1) ≡ slice_index ns 0 = ap (slice_index ns) (omega (arith, c.steps)) ∙ sym c.closed in
    omega (arith, deep, ap depth last)

-- a row that is read and lent
pub row_lent : (rows : List (Vec ℕ Global)) (a : ℕ) (row : Vec ℕ Global) (lent : List ℕ) → a < length rows → row ≡ get_or rows a row → lent ≡ row.items → lent ≡ targets rows a
row_lent rows a row lent h is same = same ∙ sym (row_read rows a row h is)

-- the modules in modules have places
pub joined_graph : (rows : Rows) (joined : Joined) → AreGraphs rows (length rows.imports.items) → AreJoined rows (length rows.imports.items) joined → IsGraph joined.modules.items
joined_graph rows joined graphs aj a b e = elim (aj.each a) [
  | inl none ↦ (let wrong = is_in b [] (subst (λ xs. Contains xs b) none.1 e) in absurd wrong)
  | inr j ↦
      let x = from_flat (targets rows.modules.items) b (targets joined.files.items a) (subst (In b) j.modules (is_in b (targets joined.modules.items a) e)) in
      omega (arith, graphs.module_graph x.0 b (contained b (targets rows.modules.items x.0) x.2), graphs.modules, aj.modules)
]

-- The modules in an order are those that stand in the root, and there is one such order.
use Rattle.std.proofs.Common.{◌≡◌, ◌↔◌, ℕ, zero, suc, ◌+◌, ◌≤◌, Bool, List, [], ◌∷◌, ◌++◌, length, map, None, Some, refl, sym, ap, subst, ◌∙◌, inl, inr, arith}
use Rattle.std.specs.List.{Contains, sum_by}
use Rattle.std.proofs.lemmas.List.Sums.{sum_by-cons}
use Rattle.just_graph.proofs.Members.{In, contained, from_map, in_cases, in_left, in_map, in_right, is_in}
use Rattle.just_justfile.proofs.Counts.{count, count_is}
use Rattle.just_justfile.specs.Closed.{StandsIn, inside, itself}
use Rattle.just_justfile.specs.declared.justfile.Justfile.{Justfile, out-Justfile}
use Rattle.just_scopes.specs.Preorder.{AreBelow, IsPreorderUnder, Placed, is_lazy_under, none, one, placed_under}

-- the modules in one that stands in the root stand there too
stands-below : (root m n : Justfile) → StandsIn root m → Contains (out-Justfile m).modules n → StandsIn root n
stands-below root m n itself c = inside c itself
stands-below root m n (inside {inner = i} d below) c = inside d (stands-below i m n below c)

-- what is listed below modules that stand in the root stands there
listed-stands : {parent start : ℕ} {above : Bool} {js : List Justfile} {ps : List Placed} → (root : Justfile) → AreBelow parent above start js ps →
    ((j : Justfile) → In j js → StandsIn root j) → (p : Placed) → In p ps → StandsIn root p.justfile
listed-stands root none stand p i = absurd i
listed-stands root (one {j = j} inner after) stand p (inl e) = subst (λ (q : Placed). StandsIn root q.justfile) (sym e) (stand j (inl refl))
listed-stands root (one {j = j} {below = b} {rest = r} inner after) stand p (inr i) = elim (in_cases p b r i) [
  | inl within ↦ listed-stands root inner (λ n d. stands-below root j n (stand j (inl refl)) (contained n (out-Justfile j).modules d)) p within
  | inr behind ↦ listed-stands root after (λ n d. stand n (inr d)) p behind
]

-- a module in some order
abbrev IsListed : List Placed → Justfile → Type 0
IsListed ps j = (p : Placed) × In p ps × (p.justfile ≡ j)

-- a module, or what stands in one of its modules
own-listed : (p : Placed) (rest : List Placed) (h j : Justfile) → p.justfile ≡ h → StandsIn h j → ((n : Justfile) → Contains (out-Justfile h).modules n → StandsIn n j → IsListed rest j) → IsListed (p ∷ rest) j
own-listed p rest h j e itself found = (p, inl refl, e)
own-listed p rest h j e (inside {inner = n} d below) found = let f = found n d below in (f.0, inr f.1, f.2)

-- and whatever stands in one of them is listed
standing-listed : {parent start : ℕ} {above : Bool} {js : List Justfile} {ps : List Placed} → AreBelow parent above start js ps → (i j : Justfile) → In i js → StandsIn i j → IsListed ps j
standing-listed none i j c stands = absurd c
standing-listed (one {parent = parent} {above = above} {j = h} {below = b} {rest = r} inner after) i j (inl e) stands =
    own-listed (placed_under (Some parent) above h) (b ++ r) h j refl (subst (λ n. StandsIn n j) e stands)
    (λ n d below. let f = standing-listed inner n j (is_in n (out-Justfile h).modules d) below in (f.0, in_left f.0 b r f.1, f.2))
standing-listed (one {below = b} {rest = r} inner after) i j (inr c) stands = let f = standing-listed after i j c stands in (f.0, inr (in_right f.0 b r f.1), f.2)

pub placed-stand : (above : Bool) (root : Justfile) (ps : List Placed) → IsPreorderUnder above root ps → (p : Placed) → In p ps → StandsIn root p.justfile
placed-stand above root ps (below, is, rest) p i = found (subst (In p) is i)
  where
    found : In p (placed_under None above root ∷ below) → StandsIn root p.justfile
    found (inl e) = subst (λ (q : Placed). StandsIn root q.justfile) (sym e) itself
    found (inr c) = listed-stands root rest (λ n d. inside (contained n (out-Justfile root).modules d) itself) p c

pub standing-placed : (above : Bool) (root : Justfile) (ps : List Placed) → IsPreorderUnder above root ps → (j : Justfile) → StandsIn root j → IsListed ps j
standing-placed above root ps (below, is, rest) j stands =
    let f = own-listed (placed_under None above root) below root j refl stands (λ n d within. standing-listed rest n j (is_in n (out-Justfile root).modules d) within) in
    (f.0, subst (In f.0) (sym is) f.1, f.2)

pub are-standing : (above : Bool) (root j : Justfile) (ps : List Placed) → IsPreorderUnder above root ps → Contains (map (λ (p : Placed). p.justfile) ps) j ↔ StandsIn root j
are-standing above root j ps order = (
  (λ c. let f = from_map (λ (p : Placed). p.justfile) j ps (is_in j (map (λ (p : Placed). p.justfile) ps) c) in subst (StandsIn root) (sym f.2) (placed-stand above root ps order f.0 f.1)),
  (λ s. let f = standing-placed above root ps order j s in
      contained j (map (λ (p : Placed). p.justfile) ps) (subst (λ i. In i (map (λ (p : Placed). p.justfile) ps)) f.2 (in_map (λ (p : Placed). p.justfile) f.0 ps f.1))),
)

below-one : {parent start : ℕ} {above : Bool} {js : List Justfile} {ps qs : List Placed} → AreBelow parent above start js ps → AreBelow parent above start js qs → ps ≡ qs
below-one none none = refl
below-one {parent = parent} {start = start} {above = above} (one {j = j} {js = js} {below = b} {rest = r} inner after) (one {below = c} {rest = s} inner_too after_too) =
    let same : b ≡ c = below-one inner inner_too in
    let rest : r ≡ s = below-one (subst (λ xs. AreBelow parent above (start + 1 + length xs) js r) same after) after_too in
    λ i. placed_under (Some parent) above j ∷ (same i ++ rest i)

pub one-order : (above : Bool) (root : Justfile) (ps qs : List Placed) → IsPreorderUnder above root ps → IsPreorderUnder above root qs → ps ≡ qs
one-order above root ps qs (b, is, below) (c, are, other) = is ∙ ap (λ xs. placed_under None above root ∷ xs) (below-one below other) ∙ sym are

-- modules have an order, where n is as many as stand in them or more
some-below : (n parent start : ℕ) (above : Bool) (js : List Justfile) → sum_by count js ≤ n → (ps : List Placed) × AreBelow parent above start js ps
some-below n parent start above [] enough = ([], none)
some-below zero parent start above (j ∷ js) enough = let own = count_is j in let both = sum_by-cons count j js in absurd (omega arith)
some-below (suc n) parent start above (j ∷ js) enough =
    let own = count_is j in
    let both = sum_by-cons count j js in
    let inner = some-below n start (start + 1) (is_lazy_under above j) (out-Justfile j).modules (omega arith) in
    let after = some-below n parent (start + 1 + length inner.0) above js (omega arith) in
    (placed_under (Some parent) above j ∷ (inner.0 ++ after.0), one inner.1 after.1)

pub some-order : (above : Bool) (root : Justfile) → (ps : List Placed) × IsPreorderUnder above root ps
some-order above root =
    let js = (out-Justfile root).modules in
    let found = some-below (sum_by count js) 0 1 (is_lazy_under above root) js (omega arith) in
    (placed_under None above root ∷ found.0, (found.0, refl, found.1))

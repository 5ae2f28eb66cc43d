-- A walk in preorder: what is listed, and what is left.
use Rattle.std.proofs.Common.{◌≡◌, ℕ, ◌+◌, ◌<◌, ◌≤◌, Bool, true, false, not, List, [], ◌∷◌, ◌++◌, map, reverse, refl, sym, ap, subst, ◌∙◌, arith}
use Rattle.std.specs.Borrow.{Bor}
use Rattle.std.specs.List.{filter, sum_by}
use Rattle.std.proofs.lemmas.List.{append-nil, append_assoc, map-append, reverse-append, reverse-reverse}
use Rattle.std.proofs.lemmas.List.Filters.{sum_by-filter_both}
use Rattle.std.proofs.lemmas.List.Sorted.{sum_by-IsPermutation}
use Rattle.std.proofs.lemmas.List.Sums.{sum_by-append, sum_by-cons}
use Rattle.just_justfile.specs.declared.justfile.Justfile.{Justfile, out-Justfile}
use Rattle.just_justfile.proofs.Counts.{count, count_is}
use Rattle.just_listings.specs.Order.{referents}
use Rattle.just_listings.specs.Preorder.{AreChosen, AreInPreorder, next, none}
use Rattle.just_listings.specs.Public.{ArePublicModules, is_public_module}
use Rattle.just_listings.specs.declared.walk.Choice.{Choice}
use Rattle.just_listings.specs.declared.walk.Choice.TheVariants as choice

behind_reversed : (xs : List (Bor Justfile)) → referents (reverse xs) ≡ reverse (referents xs)
behind_reversed [] = refl
behind_reversed (x ∷ xs) =
    ap referents (reverse-append (x ∷ []) xs) ∙ map-append (λ (it : Bor Justfile). it.now) (reverse xs) (x ∷ []) ∙ ap (λ ys. ys ++ x.now ∷ []) (behind_reversed xs) ∙ sym (reverse-append (x.now ∷ []) (referents xs))

twice : (xs : List Justfile) → reverse (reverse xs) ≡ xs
twice xs = reverse-reverse xs

module _ (which : Choice) where
  -- of some modules, and of those behind them
  split : (js ks rest : List Justfile) → AreInPreorder which (js ++ ks) rest → (below : List Justfile) × (more : List Justfile) × (rest ≡ below ++ more) × AreInPreorder which js below × AreInPreorder which ks more
  split [] ks rest p = ([], rest, refl, none, p)
  split (j ∷ js) ks _ (next {inner = inner} {below = b} {rest = r} chosen under after) =
      let s = split js ks r after in
      (j ∷ (b ++ s.0), s.1, ap (λ xs. j ∷ (b ++ xs)) s.2 ∙ ap (λ xs. j ∷ xs) (sym (append_assoc b s.0 s.1)), next chosen under s.3, s.4)

  -- one is listed, and the chosen ones of its modules are taken next
  listed : (j : Justfile) (inner js rest : List Justfile) → AreChosen which j inner → AreInPreorder which (inner ++ js) rest → AreInPreorder which (j ∷ js) (j ∷ rest)
  listed j inner js rest chosen p =
      let s = split inner js rest p in
      subst (λ xs. AreInPreorder which (j ∷ js) (j ∷ xs)) (sym s.2) (next chosen s.3 s.4)

  -- the walk from what is listed: whatever is listed of those that are left, the last of which is taken next, all is in preorder
  abbrev pub Walks : Justfile → List (Bor Justfile) → List (Bor Justfile) → Type 0
  Walks root done left = (rest : List Justfile) → AreInPreorder which (reverse (referents left)) rest → AreInPreorder which (root ∷ []) (referents done ++ rest)

  pub begins : (root : Bor Justfile) (done left : List (Bor Justfile)) → done ≡ [] → left ≡ root ∷ [] → Walks root.now done left
  begins root done left no_done one_left rest p =
      subst (λ (xs : List (Bor Justfile)). AreInPreorder which (root.now ∷ []) (referents xs ++ rest)) (sym no_done)
      (subst (λ (xs : List (Bor Justfile)). AreInPreorder which (reverse (referents xs)) rest) one_left p)

  -- those that are left, where a module's own take its place
  turned : (front inner turn left : List (Bor Justfile)) → turn ≡ reverse inner → left ≡ front ++ turn → reverse (referents left) ≡ referents inner ++ reverse (referents front)
  turned front inner turn left back added =
      ap (λ (xs : List (Bor Justfile)). reverse (referents xs)) (added ∙ ap (λ xs. front ++ xs) back)
      ∙ ap reverse (map-append (λ (it : Bor Justfile). it.now) front (reverse inner))
      ∙ reverse-append (referents front) (referents (reverse inner))
      ∙ ap (λ xs. reverse xs ++ reverse (referents front)) (behind_reversed inner)
      ∙ ap (λ xs. xs ++ reverse (referents front)) (twice (referents inner))

  pub walks_on : (root : Justfile) (done left front inner turn more after : List (Bor Justfile)) (j : Bor Justfile) → left ≡ front ++ j ∷ [] → AreChosen which j.now (referents inner) → turn ≡ reverse inner → more ≡ front ++ turn →
      after ≡ done ++ j ∷ [] → Walks root done left → Walks root after more
  walks_on root done left front inner turn more after j taken chosen back added pushed walks rest p =
      let last : reverse (referents left) ≡ j.now ∷ reverse (referents front) =
      ap (λ (xs : List (Bor Justfile)). reverse (referents xs)) taken ∙ ap reverse (map-append (λ (it : Bor Justfile). it.now) front (j ∷ [])) ∙ reverse-append (referents front) (j.now ∷ []) in
      let under : AreInPreorder which (referents inner ++ reverse (referents front)) rest = subst (λ xs. AreInPreorder which xs rest) (turned front inner turn more back added) p in
      let here : AreInPreorder which (reverse (referents left)) (j.now ∷ rest) = subst (λ xs. AreInPreorder which xs (j.now ∷ rest)) (sym last) (listed j.now (referents inner) (reverse (referents front)) rest chosen under) in
      let whole : referents done ++ (j.now ∷ rest) ≡ referents after ++ rest =
      sym (append_assoc (referents done) (j.now ∷ []) rest) ∙ ap (λ xs. xs ++ rest) (sym (ap referents pushed ∙ map-append (λ (it : Bor Justfile). it.now) done (j ∷ []))) in
      subst (AreInPreorder which (root ∷ [])) whole (walks (j.now ∷ rest) here)

  pub ends : (root : Justfile) (done left : List (Bor Justfile)) → left ≡ [] → Walks root done left → AreInPreorder which (root ∷ []) (referents done)
  ends root done left none_left walks =
      subst (AreInPreorder which (root ∷ [])) (append-nil (referents done)) (walks [] (subst (λ (xs : List (Bor Justfile)). AreInPreorder which (reverse (referents xs)) []) (sym none_left) none))

-- how many modules there are in those that are left
abbrev pub count_all : List (Bor Justfile) → ℕ
count_all left = sum_by count (referents left)

public_counted : (j : Justfile) (unsorted : Bool) (modules : List Justfile) → ArePublicModules unsorted j modules → sum_by count modules ≤ sum_by count (out-Justfile j).modules
public_counted j true modules public =
    let same : sum_by count modules ≡ sum_by count (filter is_public_module (out-Justfile j).modules) = sum_by-IsPermutation count (filter is_public_module (out-Justfile j).modules) modules public.same in
    let both = sum_by-filter_both is_public_module (λ k. not (is_public_module k)) (λ k. refl) count (out-Justfile j).modules in
    omega arith
public_counted j false modules public =
    let same : sum_by count modules ≡ sum_by count (filter is_public_module (out-Justfile j).modules) = ap (sum_by count) public in
    let both = sum_by-filter_both is_public_module (λ k. not (is_public_module k)) (λ k. refl) count (out-Justfile j).modules in
    omega arith

chosen_counted : (which : Choice) (j : Justfile) (modules : List Justfile) → AreChosen which j modules → sum_by count modules ≤ sum_by count (out-Justfile j).modules
chosen_counted choice.All j modules chosen = let same : sum_by count modules ≡ sum_by count (out-Justfile j).modules = ap (sum_by count) chosen in omega arith
chosen_counted choice.Public j modules chosen = public_counted j false modules chosen
chosen_counted choice.PublicUnsorted j modules chosen = public_counted j true modules chosen

count_append : (xs ys : List (Bor Justfile)) → count_all (xs ++ ys) ≡ count_all xs + count_all ys
count_append xs ys = ap (sum_by count) (map-append (λ (it : Bor Justfile). it.now) xs ys) ∙ sum_by-append count (referents xs) (referents ys)

count_reversed : (xs : List (Bor Justfile)) → count_all (reverse xs) ≡ count_all xs
count_reversed [] = refl
count_reversed (x ∷ xs) =
    let parted = ap count_all (reverse-append (x ∷ []) xs) in
    omega (arith, parted, count_append (reverse xs) (x ∷ []), count_reversed xs, sum_by-cons count x.now (referents xs))

-- fewer are left where a module's own take its place
pub fewer : (which : Choice) (left front inner turn more : List (Bor Justfile)) (j : Bor Justfile) → left ≡ front ++ j ∷ [] → AreChosen which j.now (referents inner) → turn ≡ reverse inner → more ≡ front ++ turn → count_all more < count_all left
fewer which left front inner turn more j taken chosen back added =
    omega (
      arith,
      ap count_all taken,
      ap count_all added,
      ap count_all back,
      count_append front (j ∷ []),
      count_append front turn,
      count_reversed inner,
      chosen_counted which j.now (referents inner) chosen,
      count_is j.now,
    )

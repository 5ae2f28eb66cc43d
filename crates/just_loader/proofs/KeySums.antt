-- Sums over keys, and the rules of files that are kept.
use Rattle.std.proofs.Common.{◌≡◌, ℕ, suc, length, ◌+◌, ◌<◌, ◌≤◌, ◌^◌, List, [], ◌∷◌, map, take, Option, None, Some, IsSome, ◌⊎◌, refl, sym, ap, subst, ◌∙◌, arith, inl, inr}
use Rattle.std.specs.List.{Contains, slice_get, sum_by}
use Rattle.std.proofs.lemmas.List.Sums.{sum_by-cons}
use Rattle.just_graph.specs.Unfolding.{IsReachedKey, steps}
use Rattle.just_graph.specs.Unfolded.{unfolded_key, AreDistinct, AreReached}
use Rattle.just_graph.specs.declared.unfolding.Unfolded.{Unfolded}
use Rattle.just_graph.proofs.Members.{In, contained, is_in, in_cases, in_map, without}
use Rattle.just_errors.specs.Causes.{Cause, NoNumber, Keeps}
use Rattle.just_loader.specs.FileCircles.{ChainTo, at_root, and_next, BreaksCircle, leads_back}
use Rattle.just_loader.specs.loops.FileCircles.{FileLeadsOn, by_edge, by_edges}
use Rattle.just_loader.specs.Keys.{IsKey, FileKey, spends_at, BreaksFiles, no_root, at_fault, in_circle, too_many}
use Rattle.just_loader.specs.loops.Placed.{scanned_path}
use Rattle.just_loader.specs.Reached.{World, IsReachedFile, FileLeadsTo, BreaksInScan}
use Rattle.just_loader.specs.loops.Scanned.{IsScan}
use Rattle.just_loader.specs.Sources.{text_at}
use Rattle.just_loader.specs.declared.scan_result.Scan.{Scan}
use Rattle.just_loader.proofs.ComingIn.{get_take}
use Rattle.just_loader.proofs.FileKeys.{file_key, from_key, same_keys, stands, to_key}
use Rattle.just_loader.proofs.Numberings.{got, placed, get_map, map_get}

-- what has each element of another list, where that has none twice, has no smaller sum
sums : {A : Type 0} (g : A → ℕ) (these those : List A) → AreDistinct these → ((x : A) → In x these → In x those) → sum_by g these ≤ sum_by g those
sums g [] those once all = omega arith
sums {A} g (x ∷ these) those once all =
    let r = without x those (all x (inl refl)) in
    let fresh : In x these → ⊥ = λ h. let k = placed these x (contained x these h) in let same : 0 ≡ suc k.0 = once 0 (suc k.0) x refl k.1 in absurd (omega (arith, same)) in
    let less : sum_by g these ≤ sum_by g r.0 =
    sums g these r.0 (λ i j y e f. let same : suc i ≡ suc j = once (suc i) (suc j) y e f in omega (arith, same)) (λ z h. r.3 z (all z (inr h)) (λ e. fresh (subst (λ (y : A). In y these) e h))) in
    omega (arith, less, r.2 g, sum_by-cons g x these)

sum_map : {A B : Type 0} (g : B → ℕ) (f : A → B) (xs : List A) → sum_by g (map f xs) ≡ sum_by (λ x. g (f x)) xs
sum_map g f [] = refl
sum_map g f (x ∷ xs) = sum_by-cons g (f x) (map f xs) ∙ ap (λ n. g (f x) + n) (sum_map g f xs) ∙ sym (sum_by-cons (λ y. g (f y)) x xs)

-- a file of a chain is reached, and the last is it or what it leads on to
reached_in : (w : World) {files : List (List ℕ)} {f : List ℕ} → ChainTo w files f → (g : List ℕ) → In g files → (g ≡ f) ⊎ FileLeadsOn w g f
reached_in w at_root g (inl e) = inl e
reached_in w at_root g (inr h) = absurd h
reached_in w (and_next {files = files} {g = h} c l new) g i = elim (in_cases g files (h ∷ []) i) [
  | inl a ↦ inr (elim (reached_in w c g a) [ inl e ↦ by_edge (subst (λ x. FileLeadsTo w x h) (sym e) l) | inr more ↦ leads_after w more l ])
  | inr (inl e) ↦ inl e
  | inr (inr none) ↦ absurd none
]
  where
    leads_after : (w : World) {f g h : List ℕ} → FileLeadsOn w f g → FileLeadsTo w g h → FileLeadsOn w f h
    leads_after w (by_edge m) l = by_edges m (by_edge l)
    leads_after w (by_edges m more) l = by_edges m (leads_after w more l)

-- where no file leads back to itself, there is no circle
pub no_circle : (w : World) → ((f : List ℕ) → IsReachedFile w f → FileLeadsOn w f f → ⊥) → (c : Cause) → BreaksCircle w c → ⊥
no_circle w none _ (leads_back {current} {next} files r l chain back) = elim (reached_in w chain next (is_in next files back)) [
  | inl e ↦ none current r (by_edge (subst (FileLeadsTo w current) e l))
  | inr more ↦ none current r (by_edges l more)
]

not_there : (o : Option (List ℕ)) → o ≡ None → IsSome o → ⊥
not_there None e h = cc
not_there (Some x) e h = cc

-- the nodes of an unfolding, by the texts of their keys
module _ (w : World) (scan : Scan) (is : IsScan w scan) (us : List Unfolded) (keys : AreReached (steps scan.rows.items) 0 (map unfolded_key us)) (apart : AreDistinct (map unfolded_key us)) where
  abbrev key_of : Unfolded → FileKey
  key_of u = file_key scan (unfolded_key u)

  abbrev takes : Unfolded → ℕ
  takes u = spends_at w (scanned_path scan u.node)

  reached : (k : ℕ) (u : Unfolded) → slice_get us k ≡ Some u → IsReachedKey (steps scan.rows.items) 0 (unfolded_key u)
  reached k u e = (keys (unfolded_key u)).0 (got (map unfolded_key us) k (unfolded_key u) (map_get unfolded_key us k u e))

  pub node_inside : (k : ℕ) (u : Unfolded) → slice_get us k ≡ Some u → u.node < length scan.files.items
  node_inside k u e = (stands w scan is (reached k u e).1).inside

  -- two places of one key are one
  pub one_place : (i j : ℕ) (u v : Unfolded) → slice_get us i ≡ Some u → slice_get us j ≡ Some v → key_of u ≡ key_of v → i ≡ j
  one_place i j u v e f same =
      let one = same_keys w scan is (unfolded_key u) (unfolded_key v) (reached i u e) (reached j v f) same in
      apart i j (unfolded_key u) (map_get unfolded_key us i u e) (map_get unfolded_key us j v f ∙ ap Some (sym one))

  each_once : (n : ℕ) → AreDistinct (map key_of (take n us))
  each_once n i j k e f =
      let u = get_map key_of (take n us) i k e in
      let v = get_map key_of (take n us) j k f in
      one_place i j u.0 v.0 (get_take us n i u.0 u.1).1 (get_take us n j v.0 v.1).1 (u.2 ∙ sym v.2)

  each_key : (n : ℕ) (k : FileKey) → Contains (map key_of (take n us)) k → IsKey w k
  each_key n k c =
      let at = placed (map key_of (take n us)) k c in
      let u = get_map key_of (take n us) at.0 k at.1 in
      subst (IsKey w) u.2 (to_key w scan is (unfolded_key u.0) (reached at.0 u.0 (get_take us n at.0 u.0 u.1).1))

  -- the first texts take too many numbers
  pub many : Keeps (BreaksInScan w) → Keeps (BreaksCircle w) → (n : ℕ) → 2 ^ 64 < sum_by takes (take n us) → BreaksFiles w NoNumber
  many kept straight n h =
      too_many kept straight (map key_of (take n us)) (each_once n) (each_key n)
      (subst (λ m. 2 ^ 64 < m) (sym (sum_map (λ (k : FileKey). spends_at w k.node) key_of (take n us))) h)

  has_key : (k : FileKey) → IsKey w k → In k (map key_of us)
  has_key k key =
      let s = from_key w scan is k key in
      let at = placed (map unfolded_key us) s.0 ((keys s.0).1 s.1) in
      let u = get_map unfolded_key us at.0 s.0 at.1 in
      subst (λ x. In x (map key_of us)) (ap (file_key scan) u.2 ∙ s.2) (in_map key_of u.0 us (is_in u.0 us (got us at.0 u.0 u.1)))

  -- no texts of keys take too many
  few : sum_by takes us ≤ 2 ^ 64 → (these : List FileKey) → AreDistinct these → ((k : FileKey) → Contains these k → IsKey w k) → 2 ^ 64 < sum_by (λ (k : FileKey). spends_at w k.node) these → ⊥
  few total these once are h =
      let less = sums (λ (k : FileKey). spends_at w k.node) these (map key_of us) once (λ k i. has_key k (are k (contained k these i))) in
      omega (arith, total, h, less, sum_map (λ (k : FileKey). spends_at w k.node) key_of us)

  -- the rules of files are kept
  pub files_kept : IsSome (text_at w.files w.root) → Keeps (BreaksInScan w) → ((f : List ℕ) → IsReachedFile w f → FileLeadsOn w f f → ⊥) → sum_by takes us ≤ 2 ^ 64 → Keeps (BreaksFiles w)
  files_kept there kept none total _ (no_root e same) = not_there (text_at w.files w.root) e there
  files_kept there kept none total c (at_fault n) = kept c n
  files_kept there kept none total c (in_circle n) = no_circle w none c n
  files_kept there kept none total _ (too_many clean straight these once are h) = few total these once are h

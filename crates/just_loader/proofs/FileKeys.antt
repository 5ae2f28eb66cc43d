-- Keys of the unfolding of a scan, and the keys of files.
use Rattle.std.proofs.Common.{◌≡◌, ℕ, ◌<◌, List, [], ◌∷◌, map, length, Option, None, Some, IfSome, inl, inr, refl, sym, ap, subst, ◌∙◌, arith}
use Rattle.std.specs.List.{slice_get}
use Rattle.std.proofs.lemmas.List.{length-map}
use Rattle.std.proofs.lemmas.Option.{slice_get_within, get_or_from_slice_get}
use Rattle.just_graph.specs.Unfolding.{Key, Node, KeySteps, IsLeastDepth, IsReachedKey, IsUnfolding, key, path_after, root_key, steps}
use Rattle.just_graph.specs.declared.unfolding.Step.{Step}
use Rattle.just_graph.specs.declared.unfolding.Unfolded.{Unfolded}
use Rattle.just_graph.proofs.KeySteps.{steps_back, steps_keep, steps_mapped}
use Rattle.just_graph.proofs.Preorder.{firsts_in}
use Rattle.just_graph.proofs.Trails.{steps_to}
use Rattle.just_graph.proofs.Members.{In, contained, is_in, in_cases, in_map}
use Rattle.just_names.specs.declared.name.Name.{Name}
use Rattle.just_loader.specs.Keys.{FileKey, FileKeySteps, FileStep, IsKey, IsLeastFileDepth, root_file_key, steps_of_file}
use Rattle.just_loader.specs.loops.Loading.{AreUnfolded}
use Rattle.just_loader.specs.loops.Numbering.{IsNamed}
use Rattle.just_loader.specs.loops.Placed.{scanned_path, scanned_name, text_step}
use Rattle.just_loader.specs.Reached.{World}
use Rattle.just_loader.specs.loops.Scanned.{IsScan, paths_in}
use Rattle.just_loader.specs.declared.scan_result.Scan.{Scan}
use Rattle.just_loader.specs.declared.scan_result.ScannedFile.{ScannedFile}
use Rattle.just_loader.proofs.FileRows.{IsKnown, at, known_entered, named_here, steps_here}
use Rattle.just_loader.proofs.Numberings.{got, read_at}

-- the key of a file, by texts
abbrev pub file_key : Scan → Key → FileKey
file_key scan k = record { path = map (scanned_name scan) k.path; node = scanned_path scan k.node }

-- the node and the numbers of a key have texts
pub record Stands (scan : Scan) (k : Key) : Type 0 where
  pub inside : k.node < length scan.files.items
  pub known : (n : ℕ) → In n k.path → IsKnown scan n

-- the key of a node is one of the root's
pub node_reached : (S : ℕ → List Step) (pre : List Node) → IsUnfolding S 0 pre → (n : Node) → In n pre → IsReachedKey S 0 (key n)
node_reached S pre u n i =
    let r = steps_to S u n i in
    elim r.1 [ inl e ↦ (r.2, subst (λ (x : Node). KeySteps S (key x) (key n) r.2) e r.3) | inr z ↦ absurd z ]

entered : (scan : Scan) (e : Option ℕ) (tag : ℕ) → IfSome e (λ number. (name : Name) × IsNamed scan.names.items number tag name) → IfSome e (IsKnown scan)
entered scan None tag h = tt
entered scan (Some number) tag h = known_entered scan number tag h

after_known : (scan : Scan) (path : List ℕ) (e : Option ℕ) → ((n : ℕ) → In n path → IsKnown scan n) → IfSome e (IsKnown scan) → (n : ℕ) → In n (path_after path e) → IsKnown scan n
after_known scan path None all new n h = all n h
after_known scan path (Some number) all new n h = elim (in_cases n path (number ∷ []) h) [
  | inl a ↦ all n a
  | inr (inl e) ↦ subst (IsKnown scan) (sym e) new
  | inr (inr none) ↦ absurd none
]

module _ (w : World) (scan : Scan) (is : IsScan w scan) where
  abbrev S : ℕ → List Step
  S = steps scan.rows.items

  abbrev target : Step → ℕ
  target s = s.target

  abbrev enters : Step → Option ℕ
  enters s = s.enters

  abbrev inside : ℕ → Type 0
  inside a = a < length scan.files.items

  pub step_inside : (a : ℕ) (s : Step) → inside a → In s (S a) → inside s.target
  step_inside a s h i = omega (arith, is.count, is.within a s.target (contained s.target (map target (S a)) (in_map target s (S a) i)))

  pub root_inside : inside 0
  root_inside = omega (arith, length-map scan.files.items (λ (f : ScannedFile). f.path), slice_get_within (paths_in scan.files.items) 0 w.root is.root)

  pub root_at : scanned_path scan 0 ≡ w.root
  root_at = get_or_from_slice_get (paths_in scan.files.items) 0 w.root [] is.root

  root_is : root_file_key w ≡ file_key scan (root_key 0)
  root_is = ap (λ p. let k : FileKey = record { path = []; node = p } in k) (sym root_at)

  -- what is inside leads inside
  pub stands_on : {k l : Key} {n : ℕ} → KeySteps S k l n → Stands scan k → Stands scan l
  stands_on way = steps_keep way (Stands scan) (λ k s at h. record { inside = step_inside k.node s at.inside h; known = after_known scan k.path s.enters at.known (entered scan s.enters s.tag (named_here w scan is k.node s h)) })

  pub stands : {k : Key} {n : ℕ} → KeySteps S (root_key 0) k n → Stands scan k
  stands way = stands_on way (record { inside = root_inside; known = λ n h. absurd h })

  -- the file of each node is scanned
  pub node_inside : (us : List Unfolded) → AreUnfolded scan us → (k : ℕ) (u : Unfolded) → slice_get us k ≡ Some u → u.node < length scan.files.items
  node_inside us are k u e =
      let ns = are.unfolded.0 in
      let n = read_at ns k (omega (arith, are.unfolded.2.count, slice_get_within us k u e)) in
      let pre = are.unfolded.1.0 in
      let unfolds = are.unfolded.1.1 in
      elim (firsts_in are.unfolded.1.2 n.0 (is_in n.0 ns (got ns k n.0 n.1))) [
        | inl h ↦ absurd h
        | inr p ↦ omega (arith, (are.unfolded.2.tells k u n.0 e n.1).node, (stands (node_reached S pre unfolds n.0 p).1).inside)
      ]

  -- the steps from the root's key are those of the files' keys
  pub to_steps : (k : Key) (d : ℕ) → KeySteps S (root_key 0) k d → FileKeySteps w (root_file_key w) (file_key scan k) d
  to_steps k d way =
      subst (λ root. FileKeySteps w root (file_key scan k) d) (sym root_is)
      (steps_mapped target enters (λ (s : FileStep). s.to) (λ (s : FileStep). s.enters) S (steps_of_file w) (scanned_path scan) (scanned_name scan) (text_step scan) (λ s. refl) (λ s. refl) inside (steps_here w scan is) step_inside way root_inside)

  pub from_steps : (k : FileKey) (d : ℕ) → FileKeySteps w (root_file_key w) k d → (l : Key) × KeySteps S (root_key 0) l d × (file_key scan l ≡ k)
  from_steps k d way =
      steps_back target enters (λ (s : FileStep). s.to) (λ (s : FileStep). s.enters) S (steps_of_file w) (scanned_path scan) (scanned_name scan) (text_step scan) (λ s. refl) (λ s. refl) inside (steps_here w scan is) step_inside way (root_key 0) root_is root_inside

  -- what the root's key leads to are keys of files, and there are no others
  pub to_key : (k : Key) → IsReachedKey S 0 k → IsKey w (file_key scan k)
  to_key k r = (r.0, to_steps k r.0 r.1)

  pub from_key : (k : FileKey) → IsKey w k → (l : Key) × IsReachedKey S 0 l × (file_key scan l ≡ k)
  from_key k r = let b = from_steps k r.0 r.1 in (b.0, (r.0, b.1), b.2)

  same_paths : (p q : List ℕ) → ((n : ℕ) → In n p → IsKnown scan n) → ((n : ℕ) → In n q → IsKnown scan n) → map (scanned_name scan) p ≡ map (scanned_name scan) q → p ≡ q
  same_paths [] [] a b e = refl
  same_paths [] (y ∷ q) a b e = cc
  same_paths (x ∷ p) [] a b e = cc
  same_paths (x ∷ p) (y ∷ q) a b e =
      let first : scanned_name scan x ≡ scanned_name scan y = cc in
      let rest : map (scanned_name scan) p ≡ map (scanned_name scan) q = cc in
      let p_first = a x (inl refl) in
      let q_first = b y (inl refl) in
      let same : x ≡ y = omega (arith, p_first.1 y (q_first.0 ∙ ap Some (sym first)), q_first.1 x (p_first.0 ∙ ap Some first)) in
      λ i. same i ∷ same_paths p q (λ n h. a n (inr h)) (λ n h. b n (inr h)) rest i

  -- the texts of a key tell it
  pub same_keys : (k l : Key) → IsReachedKey S 0 k → IsReachedKey S 0 l → file_key scan k ≡ file_key scan l → k ≡ l
  same_keys k l r q e =
      let a = stands r.1 in let b = stands q.1 in
      let file : scanned_path scan k.node ≡ scanned_path scan l.node = ap (λ (x : FileKey). x.node) e in
      let node : k.node ≡ l.node = is.once k.node l.node (scanned_path scan k.node) (at w scan is k.node a.inside).path_is ((at w scan is l.node b.inside).path_is ∙ ap Some (sym file)) in
      let path : k.path ≡ l.path = same_paths k.path l.path a.known b.known (ap (λ (x : FileKey). x.path) e) in
      λ j. record { path = path j; node = node j }

  -- the least depth of a key
  pub least_mapped : (k : Key) (d : ℕ) → IsLeastDepth S 0 k d → IsLeastFileDepth w (file_key scan k) d
  least_mapped k d h = (
    to_steps k d h.0,
    λ m way.
        let b = from_steps (file_key scan k) m way in
        h.1 m (subst (λ l. KeySteps S (root_key 0) l m) (same_keys b.0 k (m, b.1) (d, h.0) b.2) b.1),
  )

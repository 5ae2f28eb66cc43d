-- What is loaded, by paths and names.
use Rattle.std.proofs.Common.{◌≡◌, ◌==◌, ℕ, ◌<◌, Bool, true, false, cond, not, List, [], ◌∷◌, map, length, Option, Some, inl, inr, refl, sym, ap, subst, ◌∙◌, arith}
use Rattle.std.specs.List.{All, Contains, filter, slice_get}
use Rattle.std.specs.Str.{bytes_eq}
use Rattle.std.proofs.lemmas.Bool.Decides.{eqb_tells}
use Rattle.std.proofs.lemmas.Bool.{false_from_ne_true}
use Rattle.std.proofs.lemmas.Option.{slice_get_within}
use Rattle.std.proofs.lemmas.Simd.{map-map}
use Rattle.std.proofs.lemmas.Slice.Eq.{bytes_eq-Decides}
use Rattle.just_graph.specs.Unfolding.{Key, Node, AreFirst, IsReachedKey, UnfoldsOf, key, key_of, root_node, root_node_of, steps}
use Rattle.just_graph.specs.Unfolded.{unfolded_key}
use Rattle.just_graph.specs.declared.unfolding.Step.{Step}
use Rattle.just_graph.specs.declared.unfolding.Unfolded.{Unfolded}
use Rattle.just_graph.proofs.Index.{told_same}
use Rattle.just_graph.proofs.MappedUnfolding.{firsts_mapped, unfolds_mapped}
use Rattle.just_graph.proofs.Members.{In, contained, is_in, in_map, from_map}
use Rattle.just_parts.specs.Asts.{AstKey}
use Rattle.just_names.specs.Texts.{Text}
use Rattle.just_parts.specs.Items.{Ast}
use Rattle.just_loader.specs.Keys.{AreFirstFiles, FileNode, FileStep, ast_key, steps_of_file}
use Rattle.just_loader.specs.Loaded.{IsAstOf, IsLoaded, at_first}
use Rattle.just_loader.specs.loops.Placed.{at_first_places, scanned_path, file_node, key_at, scanned_name, text_step}
use Rattle.just_loader.specs.loops.Loading.{AreParsed, KeepsLaws}
use Rattle.just_loader.specs.loops.Parsed.{AreHeld, relative_at}
use Rattle.just_loader.specs.Reached.{World, relative_to_root}
use Rattle.just_loader.specs.loops.Reading.{ShareNoNumbers}
use Rattle.just_loader.specs.loops.Scanned.{IsScan}
use Rattle.just_loader.specs.declared.scan_result.Scan.{Scan}
use Rattle.just_loader.proofs.FileKeys.{file_key, from_key, node_reached, root_at, root_inside, same_keys, step_inside}
use Rattle.just_loader.proofs.FileRows.{at, steps_here}
use Rattle.just_loader.proofs.HeldAsts.{are_told_apart, held_each}
use Rattle.just_loader.proofs.LoadedPaths.{first_in, places_of, relative_paths}
use Rattle.just_loader.proofs.Numberings.{get_map, got, map_get, placed, read_at}
use Rattle.just_loader.proofs.WholeLoads.{IsWhole, nodes_inside}

map_cond : (f : ℕ → Text) (a b : Bool) (x : ℕ) (xs : List ℕ) (ys : List Text) → a ≡ b → map f xs ≡ ys → map f (cond a (x ∷ xs) xs) ≡ cond b (f x ∷ ys) ys
map_cond f true b x xs ys e p = ap (λ zs. f x ∷ zs) p ∙ ap (λ c. cond c (f x ∷ ys) ys) e
map_cond f false b x xs ys e p = p ∙ ap (λ c. cond c (f x ∷ ys) ys) e

-- each once, along a map that tells them apart
module _ (f : ℕ → Text) (P : ℕ → Type 0) (apart : (a b : ℕ) → P a → P b → f a ≡ f b → a ≡ b) where
  same_place : (a b : ℕ) → P a → P b → a == b ≡ bytes_eq (f a) (f b)
  same_place a b p q = elim (eqb_tells a b) [
    | inl e ↦ e.0 ∙ sym ((bytes_eq-Decides (f a) (f b)).1 (ap f e.1))
    | inr n ↦ n.0 ∙ sym (false_from_ne_true (bytes_eq (f a) (f b)) (λ t. n.1 (apart a b p q ((bytes_eq-Decides (f a) (f b)).0 t))))
  ]

  kept_mapped : (x : ℕ) (xs : List ℕ) → P x → ((y : ℕ) → In y xs → P y) → map f (filter (λ y. not (y == x)) xs) ≡ filter (λ y. not (bytes_eq y (f x))) (map f xs)
  kept_mapped x [] p all = refl
  kept_mapped x (y ∷ xs) p all =
      map_cond f (not (y == x)) (not (bytes_eq (f y) (f x))) y (filter (λ y. not (y == x)) xs) (filter (λ y. not (bytes_eq y (f x))) (map f xs))
      (ap not (same_place y x (all y (inl refl)) p)) (kept_mapped x xs p (λ z i. all z (inr i)))

  first_mapped : (xs : List ℕ) → ((y : ℕ) → In y xs → P y) → map f (at_first_places xs) ≡ at_first (map f xs)
  first_mapped [] all = refl
  first_mapped (x ∷ xs) all =
      ap (λ ys. f x ∷ ys) (kept_mapped x (at_first_places xs) (all x (inl refl)) (λ y i. all y (inr (first_in y xs i)))
      ∙ ap (filter (λ y. not (bytes_eq y (f x)))) (first_mapped xs (λ y i. all y (inr i))))

module _ (w : World) (scan : Scan) (is : IsScan w scan) where
  -- the node's key is one of the root's
  abbrev Is : Node → Type 0
  Is n = IsReachedKey (steps scan.rows.items) 0 (key n)

  files_apart : (a b : ℕ) → a < length scan.files.items → b < length scan.files.items → scanned_path scan a ≡ scanned_path scan b → a ≡ b
  files_apart a b h g e = is.once a b (scanned_path scan a) (at w scan is a h).path_is ((at w scan is b g).path_is ∙ ap Some (sym e))

  nodes_apart : (a b : Node) → Is a → Is b → key_of (file_node scan a) ≡ key_of (file_node scan b) → key a ≡ key b
  nodes_apart a b p q e = same_keys w scan is (key a) (key b) p q e

  root_mapped : file_node scan (root_node 0) ≡ root_node_of w.root
  root_mapped = λ i. record { path = []; node = root_at w scan is i; offsets = []; trail = [] }

  are_first : (ns : List Node) → AreFirst (steps scan.rows.items) 0 ns → AreFirstFiles w (map (file_node scan) ns)
  are_first ns f =
      let unfolds = unfolds_mapped (λ (s : Step). s.target) (λ (s : Step). s.offset) (λ (s : Step). s.enters) (λ (s : FileStep). s.to) (λ (s : FileStep). s.offset) (λ (s : FileStep). s.enters)
      (steps scan.rows.items) (steps_of_file w) (scanned_path scan) (scanned_name scan) (text_step scan) (λ s. refl) (λ s. refl) (λ s. refl) (λ a. a < length scan.files.items) (steps_here w scan is) (step_inside w scan is) f.1
      (λ n i. elim i [ inl e ↦ subst (λ (x : Node). x.node < length scan.files.items) (sym e) (root_inside w scan is) | inr z ↦ absurd z ]) in (
        map (file_node scan) f.0,
        subst (λ n. UnfoldsOf (λ (s : FileStep). s.to) (λ (s : FileStep). s.offset) (λ (s : FileStep). s.enters) (steps_of_file w) (n ∷ []) (map (file_node scan) f.0)) root_mapped unfolds,
        firsts_mapped (file_node scan) Is (λ a b e. ap (file_key scan) e) nodes_apart f.2 (λ x i. absurd i) (λ n i. node_reached (steps scan.rows.items) f.0 f.1 n i),
      )

-- what is loaded, from what is scanned, unfolded, parsed and held
pub is_loaded : (w : World) (scan : Scan) → IsScan w scan → (us : List Unfolded) (whole : IsWhole scan.rows.items us) (asts : List Ast) → AreParsed w scan whole.first.0 asts
    → ShareNoNumbers asts → All (KeepsLaws w.answers) asts
    → (table : AstKey → Option Ast) → AreHeld scan us asts table → (loaded : List Text) → loaded ≡ map (relative_at scan) (at_first_places (places_of us)) → IsLoaded w table loaded
is_loaded w scan is us whole asts parsed apart laws table held loaded paths =
    let ns = whole.first.0 in
    let told : map unfolded_key us ≡ map key ns = told_same (steps scan.rows.items) us ns whole.first.2 in
    let listed : (n : Node) → In n ns → Contains (map (file_node scan) ns) (file_node scan n) = λ n i. contained (file_node scan n) (map (file_node scan) ns) (in_map (file_node scan) n ns i) in
    let inside : (x : ℕ) → In x (places_of us) → x < length scan.files.items = λ x i.
    let u = from_map (λ (u : Unfolded). u.node) x us i in
    let at = placed us u.0 (contained u.0 us u.1) in
    subst (λ y. y < length scan.files.items) (sym u.2) (nodes_inside w scan is us whole at.0 u.0 at.1) in
    let of_key : Key → Text = λ k. scanned_path scan k.node in
    let files : map (scanned_path scan) (places_of us) ≡ map (λ (n : FileNode). n.node) (map (file_node scan) ns) =
    map-map (scanned_path scan) (λ (u : Unfolded). u.node) us ∙ sym (map-map of_key unfolded_key us) ∙ ap (map of_key) told ∙ map-map of_key key ns ∙ sym (map-map (λ (n : FileNode). n.node) (file_node scan) ns) in
    record {
      nodes = map (file_node scan) ns;
      first = are_first w scan is ns whole.first.1;
      keys = λ k r.
          let l = from_key w scan is k r in
          let at = placed (map key ns) l.0 (subst (λ ks. Contains ks l.0) told ((whole.keys l.0).1 l.1)) in
          let n = get_map key ns at.0 l.0 at.1 in
          (file_node scan n.0, listed n.0 (is_in n.0 ns (got ns at.0 n.0 n.1)), ap (file_key scan) n.2 ∙ l.2);
      held = λ n c.
          let m = from_map (file_node scan) n ns (is_in n (map (file_node scan) ns) c) in
          let at = placed ns m.0 (contained m.0 ns m.1) in
          let u = get_map unfolded_key us at.0 (key m.0) (ap (λ ks. slice_get ks at.0) told ∙ map_get key ns at.0 m.0 at.1) in
          let ast = read_at asts at.0 (omega (arith, parsed.count, slice_get_within ns at.0 m.0 at.1)) in (
            ast.0,
            ap (λ (x : FileNode). table (ast_key (key_of x))) m.2 ∙ ap (λ (k : Key). table (key_at scan k.path k.node)) (sym u.2) ∙ held.found at.0 u.0 ast.0 u.1 ast.1,
            subst (λ x. IsAstOf w x ast.0) (sym m.2) (parsed.each at.0 m.0 ast.0 at.1 ast.1),
          );
      only = λ k ast e.
          let r = held.only k ast e in
          let n = get_map key ns r.0 (unfolded_key r.1) (ap (λ ks. slice_get ks r.0) (sym told) ∙ map_get unfolded_key us r.0 r.1 r.2) in
          (file_node scan n.0, listed n.0 (is_in n.0 ns (got ns r.0 n.0 n.1)), ap (λ (x : Key). key_at scan x.path x.node) n.2 ∙ r.4);
      numbers = are_told_apart scan us asts table held apart;
      priors = λ k ast e. (held_each scan us asts table held (KeepsLaws w.answers) laws k ast e).priors;
      attributes = λ k ast e. (held_each scan us asts table held (KeepsLaws w.answers) laws k ast e).attributes;
      constants = λ k ast e. (held_each scan us asts table held (KeepsLaws w.answers) laws k ast e).constants;
      loaded_is = paths ∙ relative_paths w scan is (places_of us) inside ∙ sym (map-map (relative_to_root w) (scanned_path scan) (at_first_places (places_of us)))
          ∙ ap (map (relative_to_root w)) (first_mapped (scanned_path scan) (λ a. a < length scan.files.items) (files_apart w scan is) (places_of us) inside ∙ ap at_first files);
    }

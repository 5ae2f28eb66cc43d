-- Paths of files, each once.
use Rattle.std.proofs.Common.{◌≡◌, ◌==◌, ℕ, ◌+◌, ◌<◌, not, Some, Bool, true, false, cond, List, [], ◌∷◌, ◌++◌, map, take, set, length, get_or, ◌⊎◌, refl, sym, ap, subst, ◌∙◌, arith, inl, inr}
use Rattle.std.specs.Bool.{Decides}
use Rattle.std.specs.List.{filter, slice_get}
use Rattle.std.proofs.lemmas.Bool.Decides.{eqb_tells}
use Rattle.std.proofs.lemmas.List.{append-nil, get_or_read, map-append, take_more, length-set, get_or-set_same, get_or-set_other}
use Rattle.std.proofs.lemmas.List.Elements.{filter-append}
use Rattle.std.proofs.lemmas.Option.{get_or_from_slice_get, slice_get_read}
use Rattle.just_graph.specs.declared.unfolding.Unfolded.{Unfolded}
use Rattle.just_graph.proofs.Members.{In, from_filter, in_left, in_right, in_cases}
use Rattle.just_loader.specs.loops.Placed.{at_first_places, scanned_path}
use Rattle.just_loader.specs.loops.Parsed.{relative_at}
use Rattle.just_loader.specs.Reached.{World, relative_to_root}
use Rattle.just_loader.specs.loops.Scanned.{IsScan, paths_in}
use Rattle.just_loader.specs.declared.scan_result.Scan.{Scan}
use Rattle.just_loader.specs.declared.scan_result.ScannedFile.{ScannedFile}
use Rattle.just_loader.proofs.Numberings.{map_get, read_at}

in_or_not : (x : ℕ) (xs : List ℕ) → In x xs ⊎ (In x xs → ⊥)
in_or_not x [] = inr (λ h. h)
in_or_not x (y ∷ xs) = elim (eqb_tells x y) [
  | inl e ↦ inl (inl e.1)
  | inr n ↦ elim (in_or_not x xs) [
    | inl i ↦ inl (inr i)
    | inr o ↦ inr (λ h. elim h [ inl e ↦ n.1 e | inr i ↦ o i ])
  ]
]

abbrev but : ℕ → ℕ → Bool
but y z = not (z == y)

filter_out : (x y : ℕ) → x ≡ y → filter (but y) (x ∷ []) ≡ []
filter_out x y e = elim (eqb_tells x y) [
  | inl t ↦ ap (λ b. cond (not b) (x ∷ []) []) t.0
  | inr n ↦ absurd (n.1 e)
]

filter_in : (x y : ℕ) → (x ≡ y → ⊥) → filter (but y) (x ∷ []) ≡ x ∷ []
filter_in x y ne = elim (eqb_tells x y) [
  | inl t ↦ absurd (ne t.1)
  | inr n ↦ ap (λ b. cond (not b) (x ∷ []) []) n.0
]

-- one more number at the end
first_more : (x : ℕ) (xs : List ℕ) → (In x xs → ⊥) → at_first_places (xs ++ x ∷ []) ≡ at_first_places xs ++ x ∷ []
first_more x [] n = refl
first_more x (y ∷ xs) n =
    ap (λ zs. y ∷ filter (but y) zs) (first_more x xs (λ i. n (inr i))) ∙ ap (λ zs. y ∷ zs) (filter-append (but y) (at_first_places xs) (x ∷ []) ∙ ap (λ zs. filter (but y) (at_first_places xs) ++ zs) (filter_in x y (λ e. n (inl e))))

first_again : (x : ℕ) (xs : List ℕ) → In x xs → at_first_places (xs ++ x ∷ []) ≡ at_first_places xs
first_again x [] h = absurd h
first_again x (y ∷ xs) (inr i) = ap (λ zs. y ∷ filter (but y) zs) (first_again x xs i)
first_again x (y ∷ xs) (inl e) = elim (in_or_not x xs) [
  | inl i ↦ ap (λ zs. y ∷ filter (but y) zs) (first_again x xs i)
  | inr n ↦
      ap (λ zs. y ∷ filter (but y) zs) (first_more x xs n) ∙ ap (λ zs. y ∷ zs) (filter-append (but y) (at_first_places xs) (x ∷ []) ∙ ap (λ zs. filter (but y) (at_first_places xs) ++ zs) (filter_out x y e) ∙ append-nil (filter (but y) (at_first_places xs)))
]

pub first_in : (x : ℕ) (xs : List ℕ) → In x (at_first_places xs) → In x xs
first_in x [] h = absurd h
first_in x (y ∷ xs) (inl e) = inl e
first_in x (y ∷ xs) (inr i) = inr (first_in x xs (from_filter (but y) x (at_first_places xs) i))

map_same : {B : Type 0} (f g : ℕ → B) (xs : List ℕ) → ((x : ℕ) → In x xs → f x ≡ g x) → map f xs ≡ map g xs
map_same f g [] h = refl
map_same f g (x ∷ xs) h = ap (λ y. y ∷ map f xs) (h x (inl refl)) ∙ ap (λ ys. g x ∷ ys) (map_same f g xs (λ y i. h y (inr i)))

-- the relative paths of a scan are those of its files
pub relative_paths : (w : World) (scan : Scan) → IsScan w scan → (places : List ℕ) → ((x : ℕ) → In x places → x < length scan.files.items)
    → map (relative_at scan) (at_first_places places) ≡ map (λ place. relative_to_root w (scanned_path scan place)) (at_first_places places)
relative_paths w scan is places inside = map_same (relative_at scan) (λ place. relative_to_root w (scanned_path scan place)) (at_first_places places) (λ x i.
    let file = read_at scan.files.items x (inside x (first_in x places i)) in
    let row = read_at scan.rows.items x (omega (arith, is.count, inside x (first_in x places i))) in
    get_or_from_slice_get (map (λ (f : ScannedFile). f.relative) scan.files.items) x file.0.relative [] (map_get (λ (f : ScannedFile). f.relative) scan.files.items x file.0 file.1)
    ∙ (is.scanned x file.0 row.0 file.1 row.1).relative
    ∙ ap (relative_to_root w) (sym (get_or_from_slice_get (paths_in scan.files.items) x file.0.path [] (map_get (λ (f : ScannedFile). f.path) scan.files.items x file.0 file.1))))

abbrev pub places_of : List Unfolded → List ℕ
places_of nodes = map (λ (u : Unfolded). u.node) nodes

-- the files that were seen are marked, and their relative paths listed
pub record AreListed (scan : Scan) (places : List ℕ) (seen : List Bool) (loaded : List (List ℕ)) : Type 0 where
  pub size : length seen ≡ length scan.files.items
  pub marks : (k : ℕ) → k < length seen → Decides (get_or seen k false) (In k places)
  pub is : loaded ≡ map (relative_at scan) (at_first_places places)

-- a file that was seen
listed_again : (scan : Scan) (places : List ℕ) (seen : List Bool) (loaded : List (List ℕ)) (x : ℕ) → AreListed scan places seen loaded → x < length seen → get_or seen x false ≡ true → AreListed scan (places ++ x ∷ []) seen loaded
listed_again scan places seen loaded x l inside on =
    let here : In x places = (l.marks x inside).0 on in
    record {
      size = l.size;
      marks = λ k h. (
        (λ t. in_left k places (x ∷ []) ((l.marks k h).0 t)),
        (λ i. elim (in_cases k places (x ∷ []) i) [
          | inl a ↦ (l.marks k h).1 a
          | inr (inl e) ↦ ap (λ n. get_or seen n false) e ∙ on
          | inr (inr none) ↦ absurd none
        ]),
      );
      is = l.is ∙ ap (map (relative_at scan)) (sym (first_again x places here));
    }

-- one that was not
listed_more : (scan : Scan) (places : List ℕ) (seen more : List Bool) (loaded next : List (List ℕ)) (x : ℕ) → AreListed scan places seen loaded → x < length seen → get_or seen x false ≡ false → more ≡ set seen x true → next ≡ loaded ++ relative_at scan x ∷ []
    → AreListed scan (places ++ x ∷ []) more next
listed_more scan places seen more loaded next x l inside off e put =
    let fresh : In x places → ⊥ = λ i. let wrong : false ≡ true = sym off ∙ (l.marks x inside).1 i in cc in
    let long : length more ≡ length seen = ap length e ∙ length-set seen x true in
    record {
      size = long ∙ l.size;
      marks = λ k h. elim (eqb_tells k x) [
        | inl s ↦
            (let on : get_or more k false ≡ true = ap (λ n. get_or more n false) s.1 ∙ ap (λ m. get_or m x false) e ∙ get_or-set_same seen x true false inside in
            ((λ t. in_right k places (x ∷ []) (inl s.1)), (λ i. on)))
        | inr n ↦
            (let old : get_or more k false ≡ get_or seen k false = ap (λ m. get_or m k false) e ∙ get_or-set_other seen x k true false n.1 in (
              (λ t. in_left k places (x ∷ []) ((l.marks k (omega (arith, h, long))).0 (sym old ∙ t))),
              (λ i. elim (in_cases k places (x ∷ []) i) [
                | inl a ↦ old ∙ (l.marks k (omega (arith, h, long))).1 a
                | inr (inl s) ↦ absurd (n.1 s)
                | inr (inr none) ↦ absurd none
              ]),
            ))
      ];
      is = put ∙ ap (λ xs. xs ++ relative_at scan x ∷ []) l.is ∙ sym (map-append (relative_at scan) (at_first_places places) (x ∷ [])) ∙ ap (map (relative_at scan)) (sym (first_more x places fresh));
    }

next_place : (nodes : List Unfolded) (i : ℕ) (u : Unfolded) → i < length nodes → u ≡ get_or nodes i u → places_of (take (i + 1) nodes) ≡ places_of (take i nodes) ++ u.node ∷ []
next_place nodes i u h e =
    ap places_of (take_more nodes i u h) ∙ map-append (λ (x : Unfolded). x.node) (take i nodes) (get_or nodes i u ∷ []) ∙ ap (λ (x : Unfolded). places_of (take i nodes) ++ x.node ∷ []) (sym e)

-- the same by what is read
module _ (scan : Scan) (nodes : List Unfolded) (i : ℕ) (u : Unfolded) (within : (k : ℕ) (v : Unfolded) → slice_get nodes k ≡ Some v → v.node < length scan.files.items) (h : i < length nodes) (is : u ≡ get_or nodes i u) where
  pub place_inside : u.node < length scan.files.items
  place_inside = within i u (slice_get_read nodes (length nodes) i u refl h is)

  module _ (seen : List Bool) (loaded : List (List ℕ)) (l : AreListed scan (places_of (take i nodes)) seen loaded) (b : Bool) (read : b ≡ get_or seen u.node b) where
    pub mark_inside : u.node < length seen
    mark_inside = omega (arith, place_inside, l.size)

    pub seen_again : b ≡ true → AreListed scan (places_of (take (i + 1) nodes)) seen loaded
    seen_again e =
        subst (λ ps. AreListed scan ps seen loaded) (sym (next_place nodes i u h is))
        (listed_again scan (places_of (take i nodes)) seen loaded u.node l mark_inside (sym (get_or_read seen u.node b mark_inside read false) ∙ e))

    pub seen_first : b ≡ false → (next : List (List ℕ)) (file : ScannedFile) → file ≡ get_or scan.files.items u.node file → next ≡ loaded ++ file.relative ∷ [] → AreListed scan (places_of (take (i + 1) nodes)) (set seen u.node true) next
    seen_first e next file at put =
        let files = scan.files.items in
        let there : slice_get files u.node ≡ Some file = slice_get_read files (length files) u.node file refl place_inside at in
        let text : relative_at scan u.node ≡ file.relative = get_or_from_slice_get (map (λ (f : ScannedFile). f.relative) files) u.node file.relative [] (map_get (λ (f : ScannedFile). f.relative) files u.node file there) in
        subst (λ ps. AreListed scan ps (set seen u.node true) next) (sym (next_place nodes i u h is))
        (listed_more scan (places_of (take i nodes)) seen (set seen u.node true) loaded next u.node l mark_inside (sym (get_or_read seen u.node b mark_inside read false) ∙ e) refl (put ∙ ap (λ x. loaded ++ x ∷ []) (sym text)))

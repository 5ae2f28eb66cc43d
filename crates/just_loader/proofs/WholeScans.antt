-- A scan as more files are scanned, and what it has at its end.
use Rattle.std.proofs.Common.{◌≡◌, ℕ, zero, suc, ◌<◌, ◌≤◌, List, [], ◌∷◌, ◌++◌, map, length, Option, None, Some, IsSome, ◌⊎◌, refl, sym, ap, subst, ◌∙◌, arith, inl, inr, length-append}
use Rattle.std.specs.List.{All, Contains, slice_get}
use Rattle.std.specs.Map.{keys_of}
use Rattle.std.specs.Option.{option_map}
use Rattle.std.specs.declared.vec.Vec.{Vec}
use Rattle.std.specs.declared.alloc.Global.{Global}
use Rattle.std.proofs.lemmas.List.{length-map, length_push}
use Rattle.std.proofs.lemmas.List.Elements.{Contains-append_cases}
use Rattle.std.proofs.lemmas.Map.Views.{Contains-keys_from_lookup}
use Rattle.std.proofs.lemmas.Option.{get_or_from_slice_get, slice_get_within}
use Rattle.std.proofs.lemmas.Slice.Eq.{bytes_eq-Decides}
use Rattle.just_graph.specs.Unfolding.{HasStep, steps}
use Rattle.just_graph.specs.declared.unfolding.Step.{Step}
use Rattle.just_graph.proofs.Members.{In, contained, is_in, in_cases, from_map, without}
use Rattle.just_graph.proofs.Index.{same_lists}
use Rattle.just_graph.specs.Unfolded.{AreDistinct}
use Rattle.just_paths.specs.Clean.{IsClean, folder_of}
use Rattle.just_names.specs.declared.name.Name.{Name}
use Rattle.just_table.specs.Entries.{find}
use Rattle.just_parts.specs.Items.{Item}
use Rattle.just_ast_items.specs.Edge.{Edge, Imports, Declares, edge_of}
use Rattle.just_loader.specs.Links.{Link, Unlinked, To, AtFault}
use Rattle.just_loader.specs.loops.Numbering.{AreFound, paths_of}
use Rattle.just_loader.specs.Reached.{World, IsReachedFile, from_root, from_file, items_of_file, link, FileLeadsTo, BreaksAt, BreaksInScan}
use Rattle.just_errors.specs.Causes.{Cause}
use Rattle.just_loader.specs.loops.Scanned.{IsLinkPlace, ArePlacesOf, IsStepTo, IsStepOf, AreSteps, IsScanned, AreScanned, IsScan, paths_in, Grows, Extends}
use Rattle.just_loader.specs.Sources.{Files}
use Rattle.just_loader.specs.declared.index.Found.{Found}
use Rattle.just_loader.specs.declared.scan_result.Scan.{Scan}
use Rattle.just_loader.specs.declared.scan_result.ScannedFile.{ScannedFile}
use Rattle.just_loader.specs.declared.sources.SourceFile.{SourceFile}
use Rattle.just_loader.proofs.Numberings.{get_cases, get_map, get_more, got, map_get, none_some, placed, read_at, some_same}
use Rattle.just_loader.proofs.Scanning.{places_more, steps_more}

-- The files so far: those that are found are reached, and the first of them are scanned.
pub record ScannedSoFar (w : World) (paths : List (List ℕ)) (names : List Name) (files : List ScannedFile) (rows : List (Vec Step Global)) : Type 0 where
  pub first : slice_get paths 0 ≡ Some w.root
  pub reached : (path : List ℕ) → Contains paths path → IsReachedFile w path
  pub count : length rows ≡ length files
  pub within : length files ≤ length paths
  pub at : (k : ℕ) (file : ScannedFile) → slice_get files k ≡ Some file → slice_get paths k ≡ Some file.path
  pub scanned : AreScanned w paths names files rows
  pub kept : (k : ℕ) (file : ScannedFile) → slice_get files k ≡ Some file → (c : Cause) → BreaksAt w file.path c → ⊥

only_one : (path : List ℕ) (paths : List (List ℕ)) (place : ℕ) → (paths ≡ []) ⊎ (paths ≡ path ∷ []) → slice_get paths place ≡ Some path → paths ≡ path ∷ []
only_one path paths place (inl e) at = absurd (none_some (ap (λ ps. slice_get ps place) (sym e) ∙ at))
only_one path paths place (inr e) at = e

alone : (w : World) (path : List ℕ) → Contains (w.root ∷ []) path → IsReachedFile w path
alone w path c = elim (is_in path (w.root ∷ []) c) [ inl e ↦ subst (IsReachedFile w) (sym e) from_root | inr h ↦ absurd h ]

-- what has a text is there
pub text_file : (o : Option SourceFile) → IsSome (option_map (λ (f : SourceFile). f.text) o) → IsSome o
text_file None h = h
text_file (Some f) h = refl

-- the root is found
pub start : (w : World) (old paths : List (List ℕ)) (names : List Name) (place : ℕ) (files : List ScannedFile) (rows : List (Vec Step Global)) → old ≡ [] → (paths ≡ old) ⊎ (paths ≡ old ++ w.root ∷ []) → slice_get paths place ≡ Some w.root
    → files ≡ [] → rows ≡ [] → ScannedSoFar w paths names files rows
start w old paths names place files rows none added at no_files no_rows =
    let is : paths ≡ w.root ∷ [] = only_one w.root paths place (elim added [ inl e ↦ inl (e ∙ none) | inr e ↦ inr (e ∙ ap (λ xs. xs ++ w.root ∷ []) none) ]) at in
    record {
      first = ap (λ ps. slice_get ps 0) is;
      reached = λ path c. alone w path (subst (λ ps. Contains ps path) is c);
      count = ap length no_rows ∙ sym (ap length no_files);
      within = omega (arith, ap length no_files);
      at = λ k file e. absurd (none_some (ap (λ fs. slice_get fs k) (sym no_files) ∙ e));
      scanned = λ k file row e f. absurd (none_some (ap (λ fs. slice_get fs k) (sym no_files) ∙ e));
      kept = λ k file e. absurd (none_some (ap (λ fs. slice_get fs k) (sym no_files) ∙ e));
    }

-- more is found
scanned_more : (w : World) (paths more_paths : List (List ℕ)) (names more_names : List Name) (file : ScannedFile) (row : List Step) → IsScanned w paths names file row → IsScanned w (paths ++ more_paths) (names ++ more_names) file row
scanned_more w paths more_paths names more_names file row s = record {
  text = s.text;
  relative = s.relative;
  items = s.items;
  parsed = s.parsed;
  targets = places_more paths more_paths (map (link w (folder_of file.path)) s.items) file.targets.items s.targets;
  steps = steps_more names more_names s.items file.targets.items row s.steps;
}

scanned_on : (w : World) (paths paths' : List (List ℕ)) (names names' : List Name) (file : ScannedFile) (row : List Step) → Extends paths paths' → Extends names names' → IsScanned w paths names file row → IsScanned w paths' names' file row
scanned_on w paths paths' names names' file row g h s =
    subst (λ ps. IsScanned w ps names' file row) (sym g.1) (subst (λ ns. IsScanned w (paths ++ g.0) ns file row) (sym h.1) (scanned_more w paths g.0 names h.0 file row s))

-- one more file is scanned
pub scan_one : (w : World) (paths paths' : List (List ℕ)) (names names' : List Name) (files files' : List ScannedFile) (rows rows' : List (Vec Step Global)) (f : SourceFile) (s : ScannedFile) (row : Vec Step Global)
    → ScannedSoFar w paths names files rows → slice_get paths (length files) ≡ Some f.path → s.path ≡ f.path → IsScanned w paths' names' s row.items → ((c : Cause) → BreaksAt w f.path c → ⊥)
    → Grows (FileLeadsTo w f.path) paths paths' → Extends names names' → files' ≡ files ++ s ∷ [] → rows' ≡ rows ++ row ∷ [] → ScannedSoFar w paths' names' files' rows'
scan_one w paths paths' names names' files files' rows rows' f s row so at path scanned kept grows extends is_files is_rows =
    let here : IsReachedFile w f.path = so.reached f.path (got paths (length files) f.path at) in
    let inside : length files < length paths = slice_get_within paths (length files) f.path at in
    let stays : (k : ℕ) (p : List ℕ) → slice_get paths k ≡ Some p → slice_get paths' k ≡ Some p = λ k p e. ap (λ ps. slice_get ps k) grows.1 ∙ get_more paths grows.0 k p e in
    record {
      first = stays 0 w.root so.first;
      reached = λ p c. elim (Contains-append_cases paths grows.0 p (subst (λ ps. Contains ps p) grows.1 c)) [
        | inl old ↦ so.reached p old
        | inr new ↦ from_file here (grows.2 p new)
      ];
      count = omega (arith, so.count, ap length is_files, ap length is_rows, length_push files s, length_push rows row);
      within =
          let long : length paths ≤ length paths' = omega (arith, slice_get_within paths' (length files) f.path (stays (length files) f.path at), ap length grows.1, length-append paths grows.0) in
          omega (arith, inside, long, ap length is_files, length_push files s);
      at = λ k file e. elim (get_cases files s file k (ap (λ fs. slice_get fs k) (sym is_files) ∙ e)) [
        | inl old ↦ stays k file.path (so.at k file old)
        | inr new ↦ stays k file.path (ap (slice_get paths) new.0 ∙ at ∙ ap Some (sym path ∙ ap (λ (x : ScannedFile). x.path) new.1))
      ];
      scanned = λ k file r e h. elim (get_cases files s file k (ap (λ fs. slice_get fs k) (sym is_files) ∙ e)) [
        | inl old ↦ elim (get_cases rows row r k (ap (λ rs. slice_get rs k) (sym is_rows) ∙ h)) [
          | inl before ↦ scanned_on w paths paths' names names' file r.items (grows.0, grows.1) extends (so.scanned k file r old before)
          | inr last ↦ absurd (omega (arith, last.0, so.count, slice_get_within files k file old))
        ]
        | inr new ↦ elim (get_cases rows row r k (ap (λ rs. slice_get rs k) (sym is_rows) ∙ h)) [
          | inl before ↦ absurd (omega (arith, new.0, so.count, slice_get_within rows k r before))
          | inr last ↦ subst (λ x. IsScanned w paths' names' x r.items) new.1 (subst (λ (x : Vec Step Global). IsScanned w paths' names' s x.items) last.1 scanned)
        ]
      ];
      kept = λ k file e. elim (get_cases files s file k (ap (λ fs. slice_get fs k) (sym is_files) ∙ e)) [
        | inl old ↦ so.kept k file old
        | inr new ↦ subst (λ p. (c : Cause) → BreaksAt w p c → ⊥) (sym path ∙ ap (λ (x : ScannedFile). x.path) new.1) kept
      ];
    }

-- what a link leads to is found
place_of_link : (paths : List (List ℕ)) (ls : List Link) (ts : List (Option ℕ)) (k : ℕ) (path : List ℕ) → ArePlacesOf paths ls ts → slice_get ls k ≡ Some (To path) → Contains paths path
place_of_link paths [] ts k path ps e = absurd (none_some e)
place_of_link paths (l ∷ ls) [] k path ps e = absurd ps
place_of_link paths (Unlinked ∷ ls) (t ∷ ts) zero path ps e = cc
place_of_link paths (AtFault c ∷ ls) (t ∷ ts) zero path ps e = cc
place_of_link paths (To p ∷ ls) (None ∷ ts) zero path ps e = absurd ps.0
place_of_link paths (To p ∷ ls) (Some i ∷ ts) zero path ps e = got paths i path (ps.0 ∙ (let same : p ≡ path = cc in ap Some same))
place_of_link paths (l ∷ ls) (t ∷ ts) (suc k) path ps e = place_of_link paths ls ts k path ps.1 e

place_inside : (paths : List (List ℕ)) (l : Link) (place : ℕ) → IsLinkPlace paths l (Some place) → place < length paths
place_inside paths Unlinked place p = absurd p
place_inside paths (To path) place p = slice_get_within paths place path p
place_inside paths (AtFault c) place p = absurd p

places_inside : (paths : List (List ℕ)) (ls : List Link) (ts : List (Option ℕ)) (place : ℕ) → ArePlacesOf paths ls ts → In (Some place) ts → place < length paths
places_inside paths ls [] place ps h = absurd h
places_inside paths [] (t ∷ ts) place ps h = absurd ps
places_inside paths (l ∷ ls) (t ∷ ts) place ps (inl e) = place_inside paths l place (subst (IsLinkPlace paths l) (sym e) ps.0)
places_inside paths (l ∷ ls) (t ∷ ts) place ps (inr h) = places_inside paths ls ts place ps.1 h

-- a step leads to a target
pub one_target : (steps : List Step) (x s : Step) → steps ≡ x ∷ [] → In s steps → s ≡ x
one_target steps x s e h = elim (subst (In s) e h) [ inl same ↦ same | inr none ↦ absurd none ]

step_to_target : (names : List Name) (place : ℕ) (e : Option Edge) (steps : List Step) (s : Step) → IsStepTo names place e steps → In s steps → s.target ≡ place
step_to_target names place (Some (Imports literal optional)) steps s is h = ap (λ (x : Step). x.target) (one_target steps _ s is h)
step_to_target names place (Some (Declares name literal optional)) steps s is h = ap (λ (x : Step). x.target) (one_target steps _ s is.3 h)
step_to_target names place None steps s is h = absurd (subst (In s) is h)

step_target : (names : List Name) (i : Item) (t : Option ℕ) (steps : List Step) (s : Step) → IsStepOf names i t steps → In s steps → Some s.target ≡ t
step_target names i None steps s is h = absurd (subst (In s) is h)
step_target names i (Some place) steps s is h = ap Some (step_to_target names place (edge_of i) steps s is h)

pub steps_target : (names : List Name) (is : List Item) (ts : List (Option ℕ)) (row : List Step) (s : Step) → AreSteps names is ts row → In s row → In (Some s.target) ts
steps_target names [] [] row s are h = subst (In s) are h
steps_target names [] (t ∷ ts) row s are h = absurd are
steps_target names (i ∷ is) [] row s are h = absurd are
steps_target names (i ∷ is) (t ∷ ts) row s are h = elim (in_cases s are.0 are.1 (subst (In s) are.4 h)) [
  | inl a ↦ inl (step_target names i t are.0 s are.2 a)
  | inr b ↦ inr (steps_target names is ts are.1 s are.3 b)
]

pub row_at : (rows : List (Vec Step Global)) (a : ℕ) (s : Step) → In s (steps rows a) → (row : Vec Step Global) × (slice_get rows a ≡ Some row) × In s row.items
row_at [] a s h = absurd h
row_at (row ∷ rows) zero s h = (row, refl, h)
row_at (row ∷ rows) (suc a) s h = row_at rows a s h

module _ (w : World) (paths : List (List ℕ)) (names : List Name) (files : List ScannedFile) (rows : List (Vec Step Global)) (so : ScannedSoFar w paths names files rows) (all : length paths ≤ length files) where
  all_paths : paths_in files ≡ paths
  all_paths = same_lists (paths_in files) paths (omega (arith, length-map files (λ (f : ScannedFile). f.path), so.within)) (λ k x y e f.
      let file = get_map (λ (f : ScannedFile). f.path) files k x e in
      sym file.2 ∙ some_same (sym (so.at k file.0 file.1) ∙ f))

  -- what is scanned at a path that is found
  scanned_at : (p : List ℕ) → Contains paths p → (k : ℕ) × (file : ScannedFile) × (row : Vec Step Global) × (file.path ≡ p) × (slice_get files k ≡ Some file) × IsScanned w paths names file row.items
  scanned_at p c =
      let k = placed paths p c in
      let inside : k.0 < length files = omega (arith, slice_get_within paths k.0 p k.1) in
      let file = read_at files k.0 inside in
      let row = read_at rows k.0 (omega (arith, so.count)) in
      (k.0, file.0, row.0, some_same (sym (so.at k.0 file.0 file.1) ∙ k.1), file.1, so.scanned k.0 file.0 row.0 file.1 row.1)

  closed : (p q : List ℕ) → Contains paths p → FileLeadsTo w p q → Contains paths q
  closed p q c l =
      let s = scanned_at p c in let file = s.1 in let is = s.5 in
      let same : l.has.0 ≡ is.items = (let e = sym l.has.1 ∙ ap (items_of_file w) (sym s.3) ∙ is.parsed in cc) in
      let at = placed is.items l.item (subst (λ xs. Contains xs l.item) same l.has.2) in
      let to : slice_get (map (link w (folder_of file.path)) is.items) at.0 ≡ Some (To q) =
      map_get (link w (folder_of file.path)) is.items at.0 l.item at.1 ∙ ap Some (ap (λ x. link w (folder_of x) l.item) s.3 ∙ l.leads) in
      place_of_link paths (map (link w (folder_of file.path)) is.items) file.targets.items at.0 q is.targets to

  all_reached : (p : List ℕ) → IsReachedFile w p → Contains paths p
  all_reached _ from_root = got paths 0 w.root so.first
  all_reached _ (from_file {f} {g} r l) = closed f g (all_reached f r) l

  pub none_in_scan : (c : Cause) → BreaksInScan w c → ⊥
  none_in_scan c n =
      let s = scanned_at n.path (all_reached n.path n.reached) in
      so.kept s.0 s.1 s.4 c (subst (λ p. BreaksAt w p c) (sym s.3) n.at_fault)

  step_inside : (a b : ℕ) → HasStep rows a b → b < length rows
  step_inside a b h =
      let s = from_map (λ (s : Step). s.target) b (steps rows a) (is_in b (map (λ (s : Step). s.target) (steps rows a)) h) in
      let row = row_at rows a s.0 s.1 in
      let file = read_at files a (omega (arith, so.count, slice_get_within rows a row.0 row.1)) in
      let is = so.scanned a file.0 row.0 file.1 row.1 in
      let inside : s.0.target < length paths = places_inside paths (map (link w (folder_of file.0.path)) is.items) file.0.targets.items s.0.target is.targets (steps_target names is.items file.0.targets.items row.0.items s.0 is.steps row.2) in
      omega (arith, so.count, inside, s.2)

-- a scan whose files are all that are found
pub is_scan : (w : World) (paths : List (List ℕ)) (scan : Scan) → ScannedSoFar w paths scan.names.items scan.files.items scan.rows.items → length paths ≤ length scan.files.items
    → AreDistinct paths → All IsClean paths → IsScan w scan
is_scan w paths scan so all once clean =
    let files = scan.files.items in
    let rows = scan.rows.items in
    let names = scan.names.items in
    let is_paths : paths_in files ≡ paths = all_paths w paths names files rows so all in
    record {
      reached = λ p. (λ c. so.reached p (subst (λ ps. Contains ps p) is_paths c), λ r. subst (λ ps. Contains ps p) (sym is_paths) (all_reached w paths names files rows so all p r));
      once = subst AreDistinct (sym is_paths) once;
      clean = subst (All IsClean) (sym is_paths) clean;
      root = ap (λ ps. slice_get ps 0) is_paths ∙ so.first;
      count = so.count;
      scanned = subst (λ ps. AreScanned w ps names files rows) (sym is_paths) so.scanned;
      within = step_inside w paths names files rows so all;
    }

-- texts of a list that are there once are no more than the list has
few : (xs ys : List (List ℕ)) → AreDistinct xs → ((x : List ℕ) → In x xs → In x ys) → length xs ≤ length ys
few [] ys once h = omega arith
few (x ∷ xs) ys once h =
    let r = without x ys (h x (inl refl)) in
    let fresh : In x xs → ⊥ = λ i. let k = placed xs x (contained x xs i) in let same : 0 ≡ suc k.0 = once 0 (suc k.0) x refl k.1 in absurd (omega (arith, same)) in
    let shorter : length xs ≤ length r.0 = few xs r.0 (λ i j t e f. let same : suc i ≡ suc j = once (suc i) (suc j) t e f in omega (arith, same)) (λ z i. r.3 z (h z (inr i)) (λ e. fresh (subst (λ y. In y xs) e i))) in
    omega (arith, r.1, shorter)

some_is : {A : Type 0} (o : Option A) (x : A) → o ≡ Some x → IsSome o
some_is o x e = subst IsSome (sym e) refl

found_key : (files : Files) (found : Found) → AreFound files found → (p : List ℕ) → In p (paths_of found.files.items) → In p (keys_of files)
found_key files found f p h =
    let c = placed (paths_of found.files.items) p (contained p (paths_of found.files.items) h) in
    let x = get_map (λ (x : SourceFile). x.path) found.files.items c.0 p c.1 in
    is_in p (keys_of files) (Contains-keys_from_lookup (λ a b. (bytes_eq-Decides a b).0) p files (subst (λ q. IsSome (find q files)) x.2 (some_is (find x.0.path files) x.0 (f.there c.0 x.0 x.1).0)))

-- what holds at each place holds of each element
pub all_at : {A : Type 0} (P : A → Type 0) (xs : List A) → ((k : ℕ) (x : A) → slice_get xs k ≡ Some x → P x) → All P xs
all_at P xs h k d inside = let r = read_at xs k inside in subst P (sym (get_or_from_slice_get xs k r.0 d r.1)) (h k r.0 r.1)

pub found_clean : (files : Files) (found : Found) → AreFound files found → All IsClean (paths_of found.files.items)
found_clean files found f = all_at IsClean (paths_of found.files.items) (λ k p e. let x = get_map (λ (x : SourceFile). x.path) found.files.items k p e in subst IsClean x.2 (f.there k x.0 x.1).1)

-- no more files are found than there are
pub found_few : (files : Files) (found : Found) → AreFound files found → AreDistinct (paths_of found.files.items) → length found.files.items ≤ length (keys_of files)
found_few files found f once = omega (arith, few (paths_of found.files.items) (keys_of files) once (found_key files found f), length-map found.files.items (λ (x : SourceFile). x.path))

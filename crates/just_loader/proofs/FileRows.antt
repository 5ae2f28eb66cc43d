-- The rows of a scan are the steps of its files, by texts.
use Rattle.std.proofs.Common.{◌≡◌, ℕ, ◌<◌, List, [], ◌∷◌, ◌++◌, map, length, get_or, Option, None, Some, inl, inr, refl, sym, ap, subst, ◌∙◌, arith}
use Rattle.std.specs.Prelude.{unwrap_or}
use Rattle.std.specs.List.{flat_map, slice_get}
use Rattle.std.specs.declared.vec.Vec.{Vec}
use Rattle.std.specs.declared.alloc.Global.{Global}
use Rattle.std.proofs.lemmas.List.{map-append}
use Rattle.std.proofs.lemmas.Option.{get_or_from_slice_get, slice_get_within}
use Rattle.just_graph.specs.Unfolding.{steps}
use Rattle.just_graph.specs.declared.unfolding.Step.{Step}
use Rattle.just_graph.proofs.StepRows.{steps_at as row_read}
use Rattle.just_graph.proofs.Members.{In, in_cases}
use Rattle.just_paths.specs.Clean.{folder_of}
use Rattle.just_ast_items.specs.Edge.{Edge, Imports, Declares, edge_of}
use Rattle.just_names.specs.Name.{text_of_name}
use Rattle.just_names.specs.Texts.{Text}
use Rattle.just_names.specs.declared.name.Name.{Name}
use Rattle.just_parts.specs.Items.{Item}
use Rattle.just_loader.specs.Keys.{FileStep, end_of_link, items_at, steps_by, steps_of_file}
use Rattle.just_loader.specs.Links.{Link, Unlinked, To, AtFault}
use Rattle.just_loader.specs.loops.Placed.{scanned_path, scanned_name, text_step}
use Rattle.just_loader.specs.loops.Numbering.{IsFirstAt, IsNamed, texts_of}
use Rattle.just_loader.specs.Reached.{World, link}
use Rattle.just_loader.specs.loops.Scanned.{IsLinkPlace, ArePlacesOf, IsStepTo, IsStepOf, AreSteps, EntersName, IsScan, IsScanned, paths_in}
use Rattle.just_loader.specs.declared.scan_result.Scan.{Scan}
use Rattle.just_loader.specs.declared.scan_result.ScannedFile.{ScannedFile}
use Rattle.just_loader.proofs.Numberings.{map_get, read_at}
use Rattle.just_loader.proofs.WholeScans.{one_target, row_at}

-- where links lead
pub no_end : (paths : List Text) (l : Link) → IsLinkPlace paths l None → end_of_link l ≡ []
no_end paths Unlinked h = refl
no_end paths (To p) h = absurd h
no_end paths (AtFault c) h = refl

pub one_end : (paths : List Text) (l : Link) (place : ℕ) → IsLinkPlace paths l (Some place) → end_of_link l ≡ get_or paths place [] ∷ []
one_end paths Unlinked place h = absurd h
one_end paths (To p) place h = ap (λ x. x ∷ []) (sym (get_or_from_slice_get paths place p [] h))
one_end paths (AtFault c) place h = absurd h

module _ (scan : Scan) where
  abbrev paths : List Text
  paths = paths_in scan.files.items

  abbrev names : List Name
  names = scan.names.items

  abbrev texts : List Text
  texts = texts_of names

  -- a number is that of a text
  abbrev pub IsKnown : ℕ → Type 0
  IsKnown number = IsFirstAt texts (scanned_name scan number) number

  pub known : (number : ℕ) (text : Text) → slice_get texts number ≡ Some text → text ≡ scanned_name scan number
  known number text e = sym (get_or_from_slice_get texts number text [] e)

  -- what a step enters has one
  pub known_entered : (number tag : ℕ) → (name : Name) × IsNamed names number tag name → IsKnown number
  known_entered number tag named = subst (λ t. IsFirstAt texts t number) (known number (text_of_name named.0) named.1.0.0) named.1.0

  no_steps : (e : Option Edge) (l : Link) → end_of_link l ≡ [] → [] ≡ steps_by e l
  no_steps (Some (Imports literal optional)) l at = sym (ap (map (λ path. let s : FileStep = record { to = path; offset = literal.token.offset; enters = None; name = None } in s)) at)
  no_steps (Some (Declares name literal optional)) l at = sym (ap (map (λ path. let s : FileStep = record { to = path; offset = 0; enters = Some (text_of_name name); name = Some name } in s)) at)
  no_steps None l at = refl

  edge_steps : (e : Option Edge) (l : Link) (place : ℕ) (row : List Step) → end_of_link l ≡ scanned_path scan place ∷ [] → IsStepTo names place e row → map (text_step scan) row ≡ steps_by e l
  edge_steps (Some (Imports literal optional)) l place row at is = ap (map (text_step scan)) is ∙ sym (ap (map (λ path. let s : FileStep = record { to = path; offset = literal.token.offset; enters = None; name = None } in s)) at)
  edge_steps (Some (Declares name literal optional)) l place row at is =
      ap (map (text_step scan)) is.3 ∙ (λ j. let s : FileStep = record { to = scanned_path scan place; offset = 0; enters = Some (sym (known is.0 (text_of_name name) is.2.0.0) j); name = is.2.1 j } in s ∷ [])
      ∙ sym (ap (map (λ path. let s : FileStep = record { to = path; offset = 0; enters = Some (text_of_name name); name = Some name } in s)) at)
  edge_steps None l place row at is = ap (map (text_step scan)) is

  item_steps : (i : Item) (l : Link) (t : Option ℕ) (row : List Step) → IsLinkPlace paths l t → IsStepOf names i t row → map (text_step scan) row ≡ steps_by (edge_of i) l
  item_steps i l None row p is = ap (map (text_step scan)) is ∙ no_steps (edge_of i) l (no_end paths l p)
  item_steps i l (Some place) row p is = edge_steps (edge_of i) l place row (one_end paths l place p) is

  row_steps : (L : Item → Link) (is : List Item) (ts : List (Option ℕ)) (row : List Step) → ArePlacesOf paths (map L is) ts → AreSteps names is ts row → map (text_step scan) row ≡ flat_map (λ i. steps_by (edge_of i) (L i)) is
  row_steps L [] [] row ps are = ap (map (text_step scan)) are
  row_steps L [] (t ∷ ts) row ps are = absurd ps
  row_steps L (i ∷ is) [] row ps are = absurd ps
  row_steps L (i ∷ is) (t ∷ ts) row ps are =
      ap (map (text_step scan)) are.4 ∙ map-append (text_step scan) are.0 are.1
      ∙ (λ j. item_steps i (L i) t are.0 ps.0 are.2 j ++ row_steps L is ts are.1 ps.1 are.3 j)

  edge_named : (e : Option Edge) (place : ℕ) (row : List Step) (s : Step) → IsStepTo names place e row → In s row → EntersName names s
  edge_named (Some (Imports literal optional)) place row s is h = subst (EntersName names) (sym (one_target row _ s is h)) tt
  edge_named (Some (Declares name literal optional)) place row s is h = subst (EntersName names) (sym (one_target row _ s is.3 h)) (name, is.2)
  edge_named None place row s is h = absurd (subst (In s) is h)

  item_named : (i : Item) (t : Option ℕ) (row : List Step) (s : Step) → IsStepOf names i t row → In s row → EntersName names s
  item_named i None row s is h = absurd (subst (In s) is h)
  item_named i (Some place) row s is h = edge_named (edge_of i) place row s is h

  row_named : (is : List Item) (ts : List (Option ℕ)) (row : List Step) (s : Step) → AreSteps names is ts row → In s row → EntersName names s
  row_named [] [] row s are h = absurd (subst (In s) are h)
  row_named [] (t ∷ ts) row s are h = absurd are
  row_named (i ∷ is) [] row s are h = absurd are
  row_named (i ∷ is) (t ∷ ts) row s are h = elim (in_cases s are.0 are.1 (subst (In s) are.4 h)) [ inl a ↦ item_named i t are.0 s are.2 a | inr b ↦ row_named is ts are.1 s are.3 b ]

pub steps_at : (rows : List (Vec Step Global)) (a : ℕ) (row : Vec Step Global) → slice_get rows a ≡ Some row → steps rows a ≡ row.items
steps_at rows a row e = row_read rows a row (slice_get_within rows a row e) ∙ ap (λ (x : Vec Step Global). x.items) (get_or_from_slice_get rows a row row e)

module _ (w : World) (scan : Scan) (is : IsScan w scan) where
  -- the file at a place
  pub record At (a : ℕ) : Type 0 where
    pub file : ScannedFile
    pub row : Vec Step Global
    pub file_is : slice_get scan.files.items a ≡ Some file
    pub row_is : slice_get scan.rows.items a ≡ Some row
    pub path_is : slice_get (paths_in scan.files.items) a ≡ Some (scanned_path scan a)
    pub path_at : file.path ≡ scanned_path scan a
    pub scanned : IsScanned w (paths_in scan.files.items) scan.names.items file row.items

  pub at : (a : ℕ) → a < length scan.files.items → At a
  at a h =
      let file = read_at scan.files.items a h in
      let row = read_at scan.rows.items a (omega (arith, is.count)) in
      let path = map_get (λ (f : ScannedFile). f.path) scan.files.items a file.0 file.1 in
      let same : scanned_path scan a ≡ file.0.path = get_or_from_slice_get (paths_in scan.files.items) a file.0.path [] path in
      record {
        file = file.0;
        row = row.0;
        file_is = file.1;
        row_is = row.1;
        path_is = path ∙ ap Some (sym same);
        path_at = sym same;
        scanned = is.scanned a file.0 row.0 file.1 row.1;
      }

  pub said : (a : ℕ) (x : At a) → items_at w (scanned_path scan a) ≡ x.scanned.items
  said a x = ap (λ p. items_at w p) (sym x.path_at) ∙ ap (λ o. unwrap_or o []) x.scanned.parsed

  -- the steps from a file
  pub steps_here : (a : ℕ) → a < length scan.files.items → map (text_step scan) (steps scan.rows.items a) ≡ steps_of_file w (scanned_path scan a)
  steps_here a h =
      let x = at a h in
      ap (map (text_step scan)) (steps_at scan.rows.items a x.row x.row_is)
      ∙ row_steps scan (link w (folder_of x.file.path)) x.scanned.items x.file.targets.items x.row.items x.scanned.targets x.scanned.steps
      ∙ (λ i. flat_map (λ item. steps_by (edge_of item) (link w (folder_of (x.path_at i)) item)) (sym (said a x) i))

  pub named_here : (a : ℕ) (s : Step) → In s (steps scan.rows.items a) → EntersName scan.names.items s
  named_here a s h =
      let row = row_at scan.rows.items a s h in
      let x = at a (omega (arith, is.count, slice_get_within scan.rows.items a row.0 row.1)) in
      row_named scan x.scanned.items x.file.targets.items x.row.items s x.scanned.steps (subst (In s) (steps_at scan.rows.items a x.row x.row_is) h)

-- What is read of a file.
use Rattle.std.proofs.Common.{◌≡◌, ℕ, zero, suc, ◌^◌, ◌≤◌, Bool, List, [], ◌∷◌, map, Option, None, Some, Result, Ok, Err, IfErr, refl, sym, ap, subst, ◌∙◌, arith}
use Rattle.std.specs.Prelude.{if◌then◌else◌}
use Rattle.std.specs.List.{Contains, slice_get}
use Rattle.std.specs.Option.{option_map, option_and_then}
use Rattle.just_graph.specs.declared.unfolding.Step.{Step}
use Rattle.just_parts.specs.Bare.{bare_item}
use Rattle.just_paths.specs.Clean.{folder_of}
use Rattle.just_names.specs.declared.name.Name.{Name}
use Rattle.just_table.specs.Entries.{find}
use Rattle.just_parts.specs.Syntax.{Refuses}
use Rattle.just_parts.specs.Items.{Item}
use Rattle.just_errors.specs.declared.error.Error.{Error}
use Rattle.just_errors.specs.declared.error.Error.TheVariants as error
use Rattle.just_loader.specs.Links.{Link, Unlinked, To, AtFault, edge_link, link_in}
use Rattle.just_loader.specs.Reached.{World, relative_to_root, items_of_file, items_said, link, HasItem, FileLeadsTo, BreaksAt, no_grammar, out_of_numbers, in_item}
use Rattle.just_errors.specs.Causes.{Cause, Broken, Reports}
use Rattle.just_loader.specs.loops.Scanned.{ArePlacesOf, IsStepTo, IsStepOf, AreSteps, IsScanned}
use Rattle.just_loader.specs.Sources.{Files, text_at}
use Rattle.just_loader.specs.declared.scan_result.ScannedFile.{ScannedFile}
use Rattle.just_loader.specs.declared.sources.SourceFile.{SourceFile}
use Rattle.just_parts.proofs.Edges.{bare_twice, edge_bare}
use Rattle.just_loader.proofs.Numberings.{got, placed, get_map, map_get}

-- a bare item leads where the item does
link_bare : (files : Files) (home : Option (List ℕ)) (enabled : Item → Bool) (folder : List ℕ) (i : Item) → link_in files home enabled folder (bare_item i) ≡ link_in files home enabled folder i
link_bare files home enabled folder i = λ j. if enabled (bare_twice i j) then edge_link files home folder (edge_bare i j) else Unlinked

pub links_bare : (files : Files) (home : Option (List ℕ)) (enabled : Item → Bool) (folder : List ℕ) (items : List Item) → map (link_in files home enabled folder) (map bare_item items) ≡ map (link_in files home enabled folder) items
links_bare files home enabled folder [] = refl
links_bare files home enabled folder (i ∷ is) = λ j. link_bare files home enabled folder i j ∷ links_bare files home enabled folder is j

step_bare : (names : List Name) (i : Item) (t : Option ℕ) (steps : List Step) → IsStepOf names i t steps → IsStepOf names (bare_item i) t steps
step_bare names i None steps s = s
step_bare names i (Some place) steps s = subst (λ e. IsStepTo names place e steps) (sym (edge_bare i)) s

-- so are its steps
steps_bare : (names : List Name) (is : List Item) (ts : List (Option ℕ)) (row : List Step) → AreSteps names is ts row → AreSteps names (map bare_item is) ts row
steps_bare names [] [] row s = s
steps_bare names [] (t ∷ ts) row s = absurd s
steps_bare names (i ∷ is) [] row s = absurd s
steps_bare names (i ∷ is) (t ∷ ts) row s = (s.0, s.1, step_bare names i t s.0 s.2, steps_bare names is ts s.1 s.3, s.4)

-- what has places has no fault
no_fault : (paths : List (List ℕ)) (ls : List Link) (ts : List (Option ℕ)) (k : ℕ) (c : Cause) → ArePlacesOf paths ls ts → slice_get ls k ≡ Some (AtFault c) → ⊥
no_fault paths [] ts k c ps e = none_here e
  where
    none_here : None ≡ Some (AtFault c) → ⊥
    none_here e = cc
no_fault paths (l ∷ ls) [] k c ps e = ps
no_fault paths (Unlinked ∷ ls) (t ∷ ts) zero c ps e = cc
no_fault paths (To p ∷ ls) (t ∷ ts) zero c ps e = cc
no_fault paths (AtFault d ∷ ls) (t ∷ ts) zero c ps e = ps.0
no_fault paths (l ∷ ls) (t ∷ ts) (suc k) c ps e = no_fault paths ls ts k c ps.1 e

module _ (w : World) (f : SourceFile) (file : find f.path w.files ≡ Some f) where
  text_there : text_at w.files f.path ≡ Some f.text
  text_there = ap (option_map (λ (x : SourceFile). x.text)) file

  -- a text that is refused is named
  pub refused_at : (relative text : List ℕ) (e : Error) → relative ≡ relative_to_root w f.path → text ≡ f.text → Refuses w.answers relative text 0 e → Reports (BreaksAt w f.path) e
  refused_at relative text (error.Load e) r t h = absurd h
  refused_at relative text (error.Compile e) r t h =
      let none : w.answers.parsed (relative_to_root w f.path) f.text ≡ None = ap (λ x. w.answers.parsed x f.text) (sym r) ∙ ap (w.answers.parsed relative) (sym t) ∙ h.says_nothing in
      subst (λ k. BreaksAt w f.path (Broken e.token k)) (sym h.kind) (no_grammar f.text text_there none (record { path_is = h.path ∙ r; src_is = h.src ∙ t }))
  refused_at relative text (error.Invocation e) r t h = absurd h
  refused_at relative text (error.Run e) r t h = absurd h
  refused_at relative text error.Exhausted r t h = out_of_numbers f.text text_there (let same : w.answers.spends relative text ≡ w.answers.spends (relative_to_root w f.path) f.text = ap (w.answers.spends relative) t ∙ ap (λ x. w.answers.spends x f.text) r in omega (arith, same, h))
  refused_at relative text error.Memory r t h = tt

  pub refused_err : {A : Type 0} (relative text : List ℕ) (r : Result A Error) → relative ≡ relative_to_root w f.path → text ≡ f.text → IfErr r (Refuses w.answers relative text 0) → IfErr r (Reports (BreaksAt w f.path))
  refused_err relative text (Ok a) p t h = tt
  refused_err relative text (Err e) p t h = refused_at relative text e p t h

  module _ (items : List Item) (parsed : items_said (w.answers.parsed (relative_to_root w f.path) f.text) ≡ Some (map bare_item items)) where
    said : items_of_file w f.path ≡ Some (map bare_item items)
    said = ap (λ t. items_said (option_and_then (w.answers.parsed (relative_to_root w f.path)) t)) text_there ∙ parsed

    abbrev links : List Link
    links = map (link w (folder_of f.path)) items

    bare : map (link w (folder_of f.path)) (map bare_item items) ≡ links
    bare = links_bare w.files w.home w.answers.enabled (folder_of f.path) items

    -- each link is that of an item
    from_links : (l : Link) → Contains links l → (i : Item) × HasItem w f.path i × (link w (folder_of f.path) i ≡ l)
    from_links l c =
        let at = placed (map (link w (folder_of f.path)) (map bare_item items)) l (subst (λ ls. Contains ls l) (sym bare) c) in
        let i = get_map (link w (folder_of f.path)) (map bare_item items) at.0 l at.1 in
        (i.0, (map bare_item items, said, got (map bare_item items) at.0 i.0 i.1), i.2)

    pub fault_at : (c : Cause) → Contains links (AtFault c) → BreaksAt w f.path c
    fault_at c h = let i = from_links (AtFault c) h in in_item i.0 i.1 i.2

    pub leads_to : (path : List ℕ) → Contains links (To path) → FileLeadsTo w f.path path
    leads_to path h = let i = from_links (To path) h in record { item = i.0; has = i.1; leads = i.2 }

    -- what is scanned has no fault
    pub none_at : (paths : List (List ℕ)) (ts : List (Option ℕ)) → ArePlacesOf paths links ts → w.answers.spends (relative_to_root w f.path) f.text ≤ 2 ^ 64 → (c : Cause) → BreaksAt w f.path c → ⊥
    none_at paths ts places fits _ (no_grammar text there none told) =
        let same : text ≡ f.text = (let e = sym there ∙ text_there in cc) in
        let no : Some (map bare_item items) ≡ None = sym parsed ∙ ap (λ t. items_said (w.answers.parsed (relative_to_root w f.path) t)) (sym same) ∙ ap items_said none in cc
    none_at paths ts places fits _ (out_of_numbers text there many) =
        let same : text ≡ f.text = (let e = sym there ∙ text_there in cc) in
        let few : w.answers.spends (relative_to_root w f.path) text ≤ 2 ^ 64 = subst (λ t. w.answers.spends (relative_to_root w f.path) t ≤ 2 ^ 64) (sym same) fits in omega (arith, many, few)
    none_at paths ts places fits c (in_item i has fault) =
        let same : has.0 ≡ map bare_item items = (let e = sym has.1 ∙ said in cc) in
        let at = placed (map bare_item items) i (subst (λ is. Contains is i) same has.2) in
        let here = map_get (link w (folder_of f.path)) (map bare_item items) at.0 i at.1 ∙ ap Some fault in
        no_fault paths links ts at.0 c places (ap (λ ls. slice_get ls at.0) (sym bare) ∙ here)

    pub is_scanned : (paths : List (List ℕ)) (names : List Name) (s : ScannedFile) (row : List Step) → s.path ≡ f.path → s.text ≡ f.text → s.relative ≡ relative_to_root w f.path → ArePlacesOf paths links s.targets.items → AreSteps names items s.targets.items row
        → IsScanned w paths names s row
    is_scanned paths names s row path text relative targets steps = record {
      text = ap (text_at w.files) path ∙ text_there ∙ ap Some (sym text);
      relative = relative ∙ ap (relative_to_root w) (sym path);
      items = map bare_item items;
      parsed = ap (items_of_file w) path ∙ said;
      targets = subst (λ p. ArePlacesOf paths (map (link w (folder_of p)) (map bare_item items)) s.targets.items) (sym path) (subst (λ ls. ArePlacesOf paths ls s.targets.items) (sym bare) targets);
      steps = steps_bare names items s.targets.items row steps;
    }

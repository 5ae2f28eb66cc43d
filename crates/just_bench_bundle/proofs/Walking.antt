-- A walk, step by step, and what it has at its end.
use Rattle.std.proofs.Common.{◌≡◌, ℕ, ◌+◌, ◌<◌, ◌≤◌, List, [], map, length, Option, Some, None, Result, IfOk, OnOk, inl, inr, refl, sym, ap, subst, ◌∙◌, arith}
use Rattle.std.specs.Prelude.{IsSome, IfNone}
use Rattle.std.specs.Option.{option_and_then, option_map}
use Rattle.std.specs.List.{All, Contains, slice_get}
use Rattle.std.specs.Map.{keys_of}
use Rattle.std.proofs.lemmas.Bool.{cases_lt}
use Rattle.std.proofs.lemmas.List.Elements.{All-contains, Contains-append_left, Contains-append_cases}
use Rattle.std.proofs.lemmas.Map.Views.{Contains-keys_from_lookup}
use Rattle.std.proofs.lemmas.Option.{slice_get_within}
use Rattle.std.proofs.lemmas.Result.{IfOk-weaker, on_ok_weaker}
use Rattle.std.proofs.lemmas.Slice.Eq.{bytes_eq-Decides}
use Rattle.just_bench_bundle.specs.Places.{IsLineOf, LinkStandsIn, TellsLine}
use Rattle.just_bench_bundle.specs.loops.Places.{FindsIn, HasItems}
use Rattle.just_bench_bundle.specs.loops.Walk.{HasAll, IsLeft, LeadAmong, LeavesNone, Walks, found_in}
use Rattle.just_bench_bundle.specs.declared.places.FileLine.{FileLine}
use Rattle.just_bench_bundle.specs.declared.walk.Walk.{Walk}
use Rattle.just_bench_bundle.proofs.Standing.{file_leads, lead_among}
use Rattle.just_bench_syntax.specs.Answers.{answers}
use Rattle.just_errors.specs.Causes.{NoHome}
use Rattle.just_errors.specs.declared.error.Error.TheVariants as error
use Rattle.just_errors.specs.declared.load_error.LoadError.TheVariants as load
use Rattle.just_loader.specs.Links.{AtFault, link_by}
use Rattle.just_loader.specs.Reached.{World, world_of, IsReachedFile, from_root, from_file, items_of_file, relative_to_root, FileLeadsTo}
use Rattle.just_loader.specs.Sources.{Files}
use Rattle.just_loader.specs.declared.sources.SourceFile.{SourceFile}
use Rattle.just_loader.proofs.Numberings.{get_more, got, placed, read_at, some_same}
use Rattle.just_loader.proofs.Scanning.{grows_by, grows_on}
use Rattle.just_names.specs.Texts.{texts}
use Rattle.just_parts.specs.Items.{Ast, Item}
use Rattle.just_parts.specs.Bare.{bare_item}
use Rattle.just_parts.specs.declared.layers.config.Config.{Config}
use Rattle.just_paths.specs.Clean.{IsClean, folder_of}
use Rattle.just_table.specs.Entries.{find}

-- what is found stays so
pub found_on : (P : List ℕ → Type 0) (old new : Walk) → Walks P old new → (path : List ℕ) → Contains (found_in old) path → Contains (found_in new) path
found_on P old new w path c = subst (λ ps. Contains ps path) (sym w.grows.1) (Contains-append_left (found_in old) w.grows.0 path c)

pub walks_by : (P Q : List ℕ → Type 0) (old new : Walk) → Walks P old new → ((t : List ℕ) → P t → Q t) → Walks Q old new
walks_by P Q old new w f = record { grows = grows_by P Q (found_in old) (found_in new) w.grows f; taken = w.taken; fewer = w.fewer; count = w.count }

pub walks_on : (P Q : List ℕ → Type 0) (old mid new : Walk) → Walks Q old mid → Walks P mid new → ((t : List ℕ) → P t → Q t) → Walks Q old new
walks_on P Q old mid new w v f = record {
  grows = grows_on P Q (found_in old) (found_in mid) (found_in new) w.grows v.grows f;
  taken = λ path l. elim (w.taken path l) [ inl c ↦ inl (found_on P mid new v path c) | inr r ↦ v.taken path r ];
  fewer = λ path l. w.fewer path (v.fewer path l);
  count = v.count ∙ w.count;
}

pub all_on : (P : List ℕ → Type 0) (files : Files) (old new : Walk) → HasAll files old → Walks P old new → HasAll files new
all_on P files old new all w path key = elim (all path key) [ inl c ↦ inl (found_on P old new w path c) | inr l ↦ w.taken path l ]

-- a walk through the items of a file is one through the file
module _ (files : Files) (config : Config) (root path : List ℕ) (items : List Item) (said : HasItems files root path (Some (map bare_item items))) where
  abbrev file_world : World
  file_world = world_of files config (answers []) root

  pub walks_file : {E : Type 0} (r : Result (Option ℕ) E) (xs : List Item) (folder : List ℕ) (old new : Walk) → xs ≡ items → folder ≡ folder_of path → OnOk r (Walks (LeadAmong xs (link_by files config (answers []) folder)) old new)
      → OnOk r (Walks (FileLeadsTo file_world path) old new)
  walks_file r xs folder old new same at h =
      let there = subst (λ (f : List ℕ). OnOk r (Walks (LeadAmong xs (link_by files config (answers []) f)) old new)) at h in
      on_ok_weaker r (λ w. walks_by (LeadAmong items (link_by files config (answers []) (folder_of path))) (FileLeadsTo file_world path) old new w (file_leads files config root path items said))
      (subst (λ (ys : List Item). OnOk r (Walks (LeadAmong ys (link_by files config (answers []) (folder_of path))) old new)) same there)

  none_leaves : (walk : Walk) (line : Option ℕ) → IfNone line (LeavesNone (LeadAmong items (link_by files config (answers []) (folder_of path))) walk) → IfNone line (IsClean path → LeavesNone (FileLeadsTo file_world path) walk)
  none_leaves walk (Some line) h = tt
  none_leaves walk None h = λ clean next l. h next (lead_among files config root path items said next l)

  pub leaves_file : {E : Type 0} (r : Result (Option ℕ) E) (xs : List Item) (folder : List ℕ) (walk : Walk) → xs ≡ items → folder ≡ folder_of path → IfOk r (λ line. IfNone line (LeavesNone (LeadAmong xs (link_by files config (answers []) folder)) walk))
      → IfOk r (λ line. IfNone line (IsClean path → LeavesNone (FileLeadsTo file_world path) walk))
  leaves_file r xs folder walk same at h =
      let there = subst (λ (f : List ℕ). IfOk r (λ (line : Option ℕ). IfNone line (LeavesNone (LeadAmong xs (link_by files config (answers []) f)) walk))) at h in
      IfOk-weaker r (λ (line : Option ℕ). IfNone line (LeavesNone (LeadAmong items (link_by files config (answers []) (folder_of path))) walk)) (λ (line : Option ℕ). IfNone line (IsClean path → LeavesNone (FileLeadsTo file_world path) walk)) (none_leaves walk)
      (subst (λ (ys : List Item). IfOk r (λ (line : Option ℕ). IfNone line (LeavesNone (LeadAmong ys (link_by files config (answers []) (folder_of path))) walk))) same there)

-- what has something said of it is there
there_is : {A B C D : Type 0} (f : A → B) (g : B → Option C) (h : C → D) (o : Option A) (d : D) → option_map h (option_and_then g (option_map f o)) ≡ Some d → IsSome o
there_is f g h (Some a) d is = refl
there_is f g h None d is = cc

-- The walk so far: what is found is reached, and the first of these were visited.
pub record WalkedSoFar (w : World) (walk : Walk) (place : ℕ) : Type 0 where
  pub reached : (path : List ℕ) → Contains (found_in walk) path → IsReachedFile w path
  pub all : HasAll w.files walk
  pub root : IsLeft walk w.root → ⊥
  pub none : (k : ℕ) (path : List ℕ) → k < place → slice_get (found_in walk) k ≡ Some path → IsClean path → (line : ℕ) → LinkStandsIn w path (AtFault NoHome) line → ⊥
  pub led : (k : ℕ) (path : List ℕ) → k < place → slice_get (found_in walk) k ≡ Some path → IsClean path → LeavesNone (FileLeadsTo w path) walk

module _ (w : World) where
  -- a file that has items is among the files
  pub is_key : (path : List ℕ) (items : List Item) → items_of_file w path ≡ Some items → Contains (keys_of w.files) path
  is_key path items is =
      Contains-keys_from_lookup (λ a b. (bytes_eq-Decides a b).0) path w.files
      (there_is (λ (f : SourceFile). f.text) (w.answers.parsed (relative_to_root w path)) (λ (ast : Ast). ast.items) (find path w.files) items is)

  -- the root is found
  pub started : (old new : Walk) → old.found.items ≡ [] → HasAll w.files old → Walks (λ found. w.root ≡ found) old new → LeavesNone (λ found. w.root ≡ found) new → WalkedSoFar w new 0
  started old new none all walks leaves = record {
    reached = λ path c. elim (Contains-append_cases (found_in old) walks.grows.0 path (subst (λ ps. Contains ps path) walks.grows.1 c)) [
      | inl before ↦ absurd (omega (arith, before.1, ap length (ap texts none)))
      | inr more ↦ subst (IsReachedFile w) (walks.grows.2 path more) from_root
    ];
    all = all_on (λ found. w.root ≡ found) w.files old new all walks;
    root = leaves w.root refl;
    none = λ k path h. absurd (omega (arith, h));
    led = λ k path h. absurd (omega (arith, h));
  }

  module _ (walk : Walk) (place : ℕ) (so : WalkedSoFar w walk place) where
    -- the next is visited
    pub visited : (path : List ℕ) (new : Walk) → slice_get (found_in walk) place ≡ Some path → Walks (FileLeadsTo w path) walk new → FindsIn w path (AtFault NoHome) None → (IsClean path → LeavesNone (FileLeadsTo w path) new)
        → WalkedSoFar w new (place + 1)
    visited path new at walks finds leaves =
        let long : place < length (found_in walk) = slice_get_within (found_in walk) place path at in
        let before : (k : ℕ) (p : List ℕ) → k < place + 1 → slice_get (found_in new) k ≡ Some p → slice_get (found_in walk) k ≡ Some p =
        (λ k p h e. let x = read_at (found_in walk) k (omega (arith, h, long)) in
        x.1 ∙ ap Some (some_same (sym (get_more (found_in walk) walks.grows.0 k x.0 x.1) ∙ ap (λ ps. slice_get ps k) (sym walks.grows.1) ∙ e))) in
        let last : (k : ℕ) (p : List ℕ) → k ≡ place → slice_get (found_in new) k ≡ Some p → path ≡ p =
        (λ k p is e. some_same (sym at ∙ ap (slice_get (found_in walk)) (sym is) ∙ before k p (omega (arith, is)) e)) in
        record {
          reached = λ p c. elim (Contains-append_cases (found_in walk) walks.grows.0 p (subst (λ ps. Contains ps p) walks.grows.1 c)) [
            | inl old ↦ so.reached p old
            | inr more ↦ from_file (so.reached path (got (found_in walk) place path at)) (walks.grows.2 p more)
          ];
          all = all_on (FileLeadsTo w path) w.files walk new so.all walks;
          root = λ l. so.root (walks.fewer w.root l);
          none = λ k p h e clean. elim (cases_lt k place) [
            | inl earlier ↦ so.none k p earlier (before k p h e) clean
            | inr later ↦ let same : path ≡ p = last k p (omega (arith, h, later)) e in
                λ line s. finds (subst IsClean (sym same) clean) line (subst (λ x. LinkStandsIn w x (AtFault NoHome) line) (sym same) s)
          ];
          led = λ k p h e clean. elim (cases_lt k place) [
            | inl earlier ↦ λ next l left. so.led k p earlier (before k p h e) clean next l (walks.fewer next left)
            | inr later ↦ let same : path ≡ p = last k p (omega (arith, h, later)) e in
                λ next l. leaves (subst IsClean (sym same) clean) next (subst (λ x. FileLeadsTo w x next) (sym same) l)
          ];
        }

    -- an item of one that is found wants a home folder
    pub told : (path : List ℕ) (it : FileLine) → slice_get (found_in walk) place ≡ Some path → it.path ≡ path → LinkStandsIn w path (AtFault NoHome) it.line → IsLineOf w (error.Load load.Homedir) it
    told path it at is s = (
      so.reached it.path (subst (Contains (found_in walk)) (sym is) (got (found_in walk) place path at)),
      subst (λ x. LinkStandsIn w x (AtFault NoHome) it.line) (sym is) s,
    )

    module _ (past : length (found_in walk) ≤ place) (clean : All IsClean (keys_of w.files)) where
      -- where all that is found was visited, all that is reached is found
      at_place : (path : List ℕ) → Contains (keys_of w.files) path → (IsLeft walk path → ⊥) → (k : ℕ) × (k < place) × (slice_get (found_in walk) k ≡ Some path)
      at_place path key unless =
          let found : Contains (found_in walk) path = elim (so.all path key) [ inl c ↦ c | inr l ↦ absurd (unless l) ] in
          let at = placed (found_in walk) path found in
          (at.0, omega (arith, past, slice_get_within (found_in walk) at.0 path at.1), at.1)

      none_left : (path : List ℕ) → IsReachedFile w path → IsLeft walk path → ⊥
      none_left _ from_root = so.root
      none_left _ (from_file {f} {g} r l) =
          let key = is_key f l.has.0 l.has.1 in
          let at = at_place f key (none_left f r) in
          so.led at.0 f at.1 at.2 (All-contains IsClean (keys_of w.files) f clean key) g l

      none_told : (it : FileLine) → IsLineOf w (error.Load load.Homedir) it → ⊥
      none_told it is =
          let key = is_key it.path is.1.one.0 is.1.one.1 in
          let at = at_place it.path key (none_left it.path is.0) in
          so.none at.0 it.path at.1 at.2 (All-contains IsClean (keys_of w.files) it.path clean key) it.line is.1

    pub none_home : length (found_in walk) ≤ place → TellsLine w (error.Load load.Homedir) None
    none_home past = λ clean it is. none_told past clean it is

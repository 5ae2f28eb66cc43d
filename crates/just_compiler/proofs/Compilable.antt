-- An order of the modules that are reached can be compiled.
use Rattle.std.proofs.Common.{◌≡◌, ◌<◌, ℕ, nat_eq, Bool, List, [], ◌∷◌, map, length, get_or, slice_index, refl, sym, ap, subst, ◌∙◌, arith, inl, inr}
use Rattle.std.specs.List.{All, Contains}
use Rattle.std.specs.Map.{keys_of, lookup}
use Rattle.std.proofs.lemmas.Bool.{cases_lt, eq-eqb}
use Rattle.std.proofs.lemmas.List.Elements.{Contains-get_or}
use Rattle.std.proofs.lemmas.List.{get_or_default, length-map}
use Rattle.just_graph.specs.Graph.{HasEdge, targets}
use Rattle.just_graph.specs.Steps.{IsOrder, Reached, from_member, from_start, in_take}
use Rattle.just_graph.proofs.Members.{In, is_in}
use Rattle.just_parts.specs.Asts.{AstKey, same_ast_key}
use Rattle.just_parts.specs.Items.{Ast, Item}
use Rattle.just_module_headers.specs.Analyzable.{AreAnalyzable}
use Rattle.just_names.specs.Index.{texts_of_names, AreDifferent}
use Rattle.just_module_headers.specs.Files.{ArePlaced, AreRows, asts_in}
use Rattle.just_module_headers.specs.Joined.{AreJoined, IsJoined}
use Rattle.just_module_headers.specs.Reading.{Submodule}
use Rattle.just_module_contents.specs.Contents.{texts_of_named}
use Rattle.just_module_headers.specs.OfPlaces.{namings_of_place}
use Rattle.just_module_headers.specs.loops.OfPlaces.{labels_of_place, names_of_place}
use Rattle.just_module_headers.proofs.ModuleNames.{modules_different}
use Rattle.just_compiled.proofs.Closing.{own_joined}
use Rattle.just_compiler.specs.loops.Steps.{CanCompile, CanCompileAll}
use Rattle.just_module_headers.specs.declared.files.Files.{Files}
use Rattle.just_module_headers.specs.declared.files.Rows.{Rows}
use Rattle.just_module_headers.specs.declared.join.Joined.{Joined}
use Rattle.just_module_headers.proofs.FilePlaces.{count, key_count}
use Rattle.just_module_tree.proofs.ModulePaths.{file_path, one_outer, one_path, row_once, subs_at}
use Rattle.just_module_tree.proofs.ModulePlaces.{file_inside, inner_keys}
use Rattle.just_module_headers.proofs.Numbers.{have_priors, levels_once, numbers_apart, numbers_once}
use Rattle.just_module_tree.proofs.VariableNumbers.{variables_once}
use Rattle.just_module_tree.proofs.Ready.{edge_joined, labels_are, names_are, reached_joined}

module _ (enabled : Item → Bool) (entries : List (AstKey × Ast)) (d : AstKey) (files : Files) (placed : ArePlaced entries files) (rows : Rows) (are : AreRows enabled files rows)
    (can : AreAnalyzable enabled (λ k. lookup (same_ast_key k) entries)) (joined : Joined) (aj : AreJoined rows (length (keys_of entries)) joined) (root : ℕ) (inside : root < length (keys_of entries))
    (root_joined : IsJoined rows joined root) (inner_joined : (a b : ℕ) → HasEdge rows.modules.items a b → IsJoined rows joined b) where
  abbrev n : ℕ
  n = length (keys_of entries)

  abbrev IsReached : ℕ → Type 0
  IsReached = Reached (HasEdge joined.modules.items) (root ∷ []) []

  pub stands : {p : ℕ} → IsReached p → (p < n) × IsJoined rows joined p
  stands r = reached_joined enabled entries d files placed rows are can.paths joined aj root inside root_joined inner_joined r

  abbrev names_there : ℕ → Type 0
  names_there p = AreDifferent (texts_of_named (namings_of_place enabled files joined p))

  -- the names of the modules in a module, by its files and by its declarations
  names_same : {p : ℕ} → (r : IsReached p) → names_of_place enabled files joined p ≡ map (λ (s : Submodule). s.name) (subs_at enabled entries d files placed rows are can.paths joined p)
  names_same {p} r = names_are enabled entries d files placed rows are can.paths joined (targets joined.files.items p) (file_inside enabled entries d files placed rows are can.paths joined p (stands r).0 (stands r).1)

  labels_same : {p : ℕ} → (r : IsReached p) → labels_of_place enabled files joined p ≡ map (λ (s : Submodule). s.label) (subs_at enabled entries d files placed rows are can.paths joined p)
  labels_same {p} r = labels_are enabled entries d files placed rows are can.paths joined (targets joined.files.items p) (file_inside enabled entries d files placed rows are can.paths joined p (stands r).0 (stands r).1)

  different_subs : {p : ℕ} → (r : IsReached p) → names_there p → AreDifferent (texts_of_names (map (λ (s : Submodule). s.name) (subs_at enabled entries d files placed rows are can.paths joined p)))
  different_subs {p} r different = subst (λ ns. AreDifferent (texts_of_names ns)) (names_same r) (modules_different enabled (asts_in files) (targets joined.files.items p) different)

  -- a module that is reached can be compiled
  pub can_compile : (p : ℕ) → (r : IsReached p) → names_there p → CanCompile enabled files joined p
  can_compile p r different =
      let s = stands r in
      let in_files = file_inside enabled entries d files placed rows are can.paths joined p s.0 s.1 in
      let many = count enabled entries d files placed rows are can.paths in
      record {
        there = omega (arith, s.0, many);
        files_there = λ k x l. omega (arith, in_files (get_or (targets joined.files.items p) k x) (is_in (get_or (targets joined.files.items p) k x) (targets joined.files.items p) (Contains-get_or (targets joined.files.items p) k x l)), many);
        modules_there = λ k x l. omega (arith, many, (stands (from_member r refl (Contains-get_or (targets joined.modules.items p) k x l))).0);
        numbers = numbers_once enabled entries d files placed rows are can (targets joined.files.items p) (levels_once (targets rows.imports.items) p (targets joined.files.items p) s.1.files) in_files;
        variables = variables_once enabled entries d files placed rows are can (targets joined.files.items p) (levels_once (targets rows.imports.items) p (targets joined.files.items p) s.1.files) in_files;
        priors = have_priors enabled entries d files placed rows are can (targets joined.files.items p) in_files;
        apart = row_once enabled entries d files placed rows are can.paths joined p s.0 s.1 (different_subs r different);
        labels = ap length (labels_same r) ∙ length-map (subs_at enabled entries d files placed rows are can.paths joined p) (λ (s : Submodule). s.label)
            ∙ sym (length-map (subs_at enabled entries d files placed rows are can.paths joined p) (λ (s : Submodule). s.key))
            ∙ ap length (inner_keys enabled entries d files placed rows are can.paths joined p s.0 s.1) ∙ length-map (targets joined.modules.items p) _;
        different = different;
        own = own_joined nat_eq (λ q. eq-eqb q q refl) (targets rows.imports.items) p (targets joined.files.items p) s.1.files;
      }

  module _ (order : List ℕ) (ordered : IsOrder (HasEdge joined.modules.items) (length joined.modules.items) (root ∷ []) order) (reached : All IsReached order)
      (different : (k : ℕ) → k < length order → names_there (slice_index order k)) where
    pub is_reached : (k : ℕ) → k < length order → IsReached (slice_index order k)
    is_reached k l = reached k 0 l

    goes_in : (a b : ℕ) → Contains order a → HasEdge joined.modules.items a b → Contains order b
    goes_in a b c e =
        let k : slice_index order c.0 ≡ a = sym (get_or_default order c.0 a 0 c.1) ∙ c.2 in
        let x = in_take order c.0 b (omega (arith, c.1)) (ordered.steps_first c.0 b c.1 (subst (λ y. HasEdge joined.modules.items y b) (sym k) e)) in
        (x.0, omega (arith, x.1, c.1), sym (get_or_default order x.0 0 b (omega (arith, x.1, c.1))) ∙ x.2)

    pub listed : {a : ℕ} → IsReached a → Contains order a
    listed (from_start {a} c) = elim (is_in a (root ∷ []) c) [ inl e ↦ subst (Contains order) (sym e) (ordered.roots_listed 0 root (omega arith)) | inr wrong ↦ absurd wrong ]
    listed (from_member {a} {b} r on e) = goes_in a b (listed r) e

    -- the order has all that is reached
    pub all_different : (a : ℕ) → IsReached a → names_there a
    all_different a r =
        let c = listed r in
        let k : slice_index order c.0 ≡ a = sym (get_or_default order c.0 a 0 c.1) ∙ c.2 in
        subst names_there k (different c.0 c.1)

    pub subs_differ : (a : ℕ) → IsReached a → AreDifferent (texts_of_names (map (λ (s : Submodule). s.name) (subs_at enabled entries d files placed rows are can.paths joined a)))
    subs_differ a r = different_subs r (all_different a r)

    -- one place of the order
    pub one_at : (i k : ℕ) → i < length order → k < length order → slice_index order i ≡ slice_index order k → i ≡ k
    one_at i k h l same = elim (cases_lt i k) [
      | inl b ↦ absurd (ordered.once i k b l same)
      | inr b ↦ elim (cases_lt k i) [ inl c ↦ absurd (ordered.once k i c h (sym same)) | inr c ↦ omega (arith, b, c) ]
    ]

    -- files of two modules are different
    files_apart : (i k : ℕ) → i < k → k < length order → (q : ℕ) → In q (targets joined.files.items (slice_index order i)) → In q (targets joined.files.items (slice_index order k)) → ⊥
    files_apart i k h l q a b =
        let r = is_reached i (omega (arith, h, l)) in
        let s = is_reached k l in
        let x = file_path enabled entries d files placed rows are can.paths joined (slice_index order i) (stands r).0 (stands r).1 q a in
        let y = file_path enabled entries d files placed rows are can.paths joined (slice_index order k) (stands s).0 (stands s).1 q b in
        ordered.once i k h l (one_path enabled entries d files placed rows are can.paths joined (edge_joined enabled entries d files placed rows are can.paths joined aj) root subs_differ r s (sym x.1 ∙ y.1))

    pub can_compile_all : CanCompileAll enabled files joined order
    can_compile_all = record {
      keys = key_count enabled entries d files placed rows are can.paths;
      files_room = aj.files ∙ sym (count enabled entries d files placed rows are can.paths);
      modules_room = aj.modules ∙ sym (count enabled entries d files placed rows are can.paths);
      some = let c = ordered.roots_listed 0 root (omega arith) in omega (arith, c.1);
      each = λ k l. can_compile (slice_index order k) (is_reached k l) (different k l);
      once = ordered.once;
      inner_first = ordered.steps_first;
      one_outer = λ i k q h l e f.
          one_at i k h l (one_outer enabled entries d files placed rows are can.paths joined (edge_joined enabled entries d files placed rows are can.paths joined aj) root subs_differ (slice_index order i) (slice_index order k) q (is_reached i h) (is_reached k l) e f);
      apart = λ i k m h l a b.
          let r = stands (is_reached i (omega (arith, h, l))) in
          let s = stands (is_reached k l) in
          numbers_apart enabled entries d files placed rows are can (targets joined.files.items (slice_index order i)) (targets joined.files.items (slice_index order k))
          (file_inside enabled entries d files placed rows are can.paths joined (slice_index order i) r.0 r.1) (file_inside enabled entries d files placed rows are can.paths joined (slice_index order k) s.0 s.1) (files_apart i k h l) m a b;
    }

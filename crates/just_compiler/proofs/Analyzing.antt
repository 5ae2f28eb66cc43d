-- What an analysis answers, from what is compiled in an order.
use Rattle.std.proofs.Common.{◌≡◌, ◌<◌, ℕ, List, [], ◌∷◌, ◌++◌, map, take, length, get_or, slice_index, Option, None, Some, refl, sym, ap, subst, ◌∙◌, inl, inr, arith}
use Rattle.std.specs.Prelude.{flat_map, slice_get}
use Rattle.std.specs.List.{All, Contains}
use Rattle.std.specs.Map.{keys_of, lookup}
use Rattle.std.proofs.lemmas.List.{get_or_default, length-append, take_all}
use Rattle.std.proofs.lemmas.List.Elements.{All-contains, Contains-get_or}
use Rattle.std.proofs.lemmas.Option.{get_or_from_slice_get, slice_get_within}
use Rattle.just_graph.specs.Graph.{HasEdge, targets}
use Rattle.just_graph.specs.Steps.{Reached, from_member, from_start, in_take}
use Rattle.just_graph.specs.Unfolded.{AreDistinct}
use Rattle.just_graph.proofs.Index.{get_map}
use Rattle.just_graph.proofs.Members.{In, contained, from_flat, from_map, is_in}
use Rattle.just_parts.specs.Asts.{AstKey, same_ast_key}
use Rattle.just_errors.specs.Causes.{Cause}
use Rattle.just_names.specs.Texts.{Text}
use Rattle.just_names.specs.Name.{text_if_named, text_of_name}
use Rattle.just_parts.specs.Items.{Ast}
use Rattle.just_paths.specs.declared.modulepath.Modulepath.{Modulepath}
use Rattle.just_recipe.specs.Recipes.{DependenciesStandFirst, IsResolved}
use Rattle.just_justfile.specs.Closed.{IsPlaced, StandsIn}
use Rattle.just_justfile.specs.declared.justfile.Justfile.{Justfile, out-Justfile, out-roll-Justfile}
use Rattle.just_module_headers.specs.Analyzable.{AreAnalyzable}
use Rattle.just_compiler.specs.Analyzed.{ComeAfter, IsAnalyzed}
use Rattle.just_names.specs.Index.{AreDifferent}
use Rattle.just_module_contents.specs.Contents.{texts_of_named}
use Rattle.just_module_headers.specs.Files.{ArePlaced, AreRows}
use Rattle.just_module_tree.specs.Groups.{BreaksModules}
use Rattle.just_module_tree.specs.Standing.{told_in}
use Rattle.just_module_headers.specs.Joined.{AreArranged, AreJoined, GoDeeper, IsJoined}
use Rattle.just_compiled.specs.Labelled.{label_in, labelled_as, slot, by_name, with_labels}
use Rattle.just_compiled.specs.Justfiles.{AreCompiled, Built, Made, recipes_of_all, none}
use Rattle.just_module_contents.specs.declared.labels.Label.{Label}
use Rattle.just_module_tree.specs.Modules.{AreModules, Empty, Forest, Heading, IsHeading, Module, Tree, no_module}
use Rattle.just_module_headers.specs.Reading.{Reading, Submodule, reading_of}
use Rattle.just_module_headers.specs.OfPlaces.{RepeatsNames, namings_of_place}
use Rattle.just_module_headers.specs.loops.OfPlaces.{labels_of_place}
use Rattle.just_compiler.specs.loops.Steps.{BreaksInOrder, CanCompileAll, HaveCompiled, BreaksOver, HaveCompiledSoFar, not_yet, so_far}
use Rattle.just_module_headers.specs.declared.files.Files.{Files}
use Rattle.just_module_headers.specs.declared.files.Rows.{Rows}
use Rattle.just_module_headers.specs.declared.join.Joined.{Joined}
use Rattle.just_module_tree.proofs.Agreeing.{find_reached}
use Rattle.just_compiled.proofs.Closing.{forest_closed, forest_tables}
use Rattle.just_compiled.proofs.Saying.{forest_says}
use Rattle.just_compiled.proofs.OwnNumbers.{own_numbers}
use Rattle.just_compiler.proofs.Compilable.{can_compile_all, listed, one_at, stands, subs_differ}
use Rattle.just_module_headers.proofs.FilePlaces.{count, one_place}
use Rattle.just_compiler.proofs.Forests.{forest_at, Held, names_next, path_same, tree_held, pair_flat}
use Rattle.just_module_tree.proofs.Headed.{heading_at}
use Rattle.just_compiler.proofs.Keeping.{names_repeated}
use Rattle.just_module_tree.proofs.ModulePaths.{below_root, deeper, ends_same, entered, not_root, one_path, subs_at}
use Rattle.just_module_tree.proofs.ModulePlaces.{file_inside, module_of, nobody}
use Rattle.just_compiled.proofs.Placing.{declared_names, made_path, standing, submodule_names}
use Rattle.just_module_tree.proofs.Ready.{edge_joined}
use Rattle.just_parts.specs.Layers.{Given}
use Rattle.just_recipe.specs.declared.dependency.Dependency.{Dependency}
use Rattle.just_recipe.specs.declared.recipe.Recipe.{Recipe}
use Rattle.just_compiler.proofs.Ordered.{inner_there}
use Rattle.just_compiler.proofs.Meeting.{names_over, none_inside}

-- nothing is compiled under any labels
no_compiled_as : (given : Given) (asts : AstKey → Option Ast) (loaded : List Text) (built : List Built) (labels : List Label) → AreCompiled given asts loaded built Empty (with_labels [] labels)
no_compiled_as given asts loaded built labels = none

-- a row of nothing is empty
no_row : (row : List ℕ) → ((q : ℕ) → In q row → ⊥) → row ≡ []
no_row [] nothing = refl
no_row (q ∷ row) nothing = absurd (nothing q (inl refl))

module _ (given : Given) (entries : List (AstKey × Ast)) (d : AstKey) (files : Files) (placed : ArePlaced entries files) (rows : Rows) (are : AreRows given.syntax.enabled files rows)
    (can : AreAnalyzable given.syntax.enabled (λ k. lookup (same_ast_key k) entries)) where
  abbrev n : ℕ
  n = length (keys_of entries)

  pub rows_many : length rows.imports.items ≡ n
  rows_many = are.imports.count ∙ count given.syntax.enabled entries d files placed rows are can.paths

  -- modules in a module lie deeper
  pub go_deeper : (joined : Joined) → AreJoined rows (length rows.imports.items) joined → GoDeeper joined
  go_deeper joined all =
      let aj = subst (λ m. AreJoined rows m joined) rows_many all in
      (λ p. length (get_or (keys_of entries) p d).0.components, deeper given.syntax.enabled entries d files placed rows are can.paths joined (edge_joined given.syntax.enabled entries d files placed rows are can.paths joined aj))

  module _ (root : ℕ) (inside : root < n) (joined : Joined) (order : List ℕ) (arr : AreArranged rows root joined order) (top : Heading) (is_top : top.key ≡ get_or (keys_of entries) root d) where
    abbrev R : Reading
    R = reading_of given.syntax.enabled (λ k. lookup (same_ast_key k) entries)

    abbrev key_at : ℕ → AstKey
    key_at p = get_or (keys_of entries) p d

    aj : AreJoined rows n joined
    aj = subst (λ m. AreJoined rows m joined) rows_many arr.all

    abbrev IsReached : ℕ → Type 0
    IsReached = Reached (HasEdge joined.modules.items) (root ∷ []) []

    stand : (p : ℕ) → IsReached p → (p < n) × IsJoined rows joined p
    stand p r = stands given.syntax.enabled entries d files placed rows are can joined aj root inside arr.root_joined arr.inner_joined r

    reached : (k : ℕ) → k < length order → IsReached (slice_index order k)
    reached k l = arr.reached k 0 l

    below : (k : ℕ) → k < length order → slice_index order k < n
    below k l = (stand (slice_index order k) (reached k l)).0

    joins : (k : ℕ) → k < length order → IsJoined rows joined (slice_index order k)
    joins k l = (stand (slice_index order k) (reached k l)).1

    heading : (k : ℕ) → k < length order → (h : Heading) × IsHeading R top h × (h.key ≡ key_at (slice_index order k))
    heading k l = heading_at given.syntax.enabled entries d files placed rows are can.paths joined root stand top is_top (reached k l)

    -- the files of a listed module have places
    pub files_there : (k : ℕ) → k < length order → All (λ q. q < length files.asts.items) (targets joined.files.items (slice_index order k))
    files_there k l = λ i x h.
        let in_files = file_inside given.syntax.enabled entries d files placed rows are can.paths joined (slice_index order k) (below k l) (joins k l) in
        let row = targets joined.files.items (slice_index order k) in
        omega (arith, in_files (get_or row i x) (is_in (get_or row i x) row (Contains-get_or row i x h)), count given.syntax.enabled entries d files placed rows are can.paths)

    -- two modules of one name are named
    pub repeats_named : (c : Cause) → RepeatsNames given.syntax.enabled files joined order c → BreaksModules told_in given R top c
    repeats_named c r =
        let h = heading r.at r.there in
        names_repeated given entries d files placed rows are can.paths joined order below joins arr.ordered.steps_first top r.at r.there h.0 h.2 h.1 c r.broken

    module _ (different : (k : ℕ) → k < length order → AreDifferent (texts_of_named (namings_of_place given.syntax.enabled files joined (slice_index order k)))) where
      pub all_can : CanCompileAll given.syntax.enabled files joined order
      all_can = can_compile_all given.syntax.enabled entries d files placed rows are can joined aj root inside arr.root_joined arr.inner_joined order arr.ordered arr.reached different

      -- the modules that a module declares have different names
      names_at : (k : ℕ) → k < length order → AreDifferent (map (λ (s : Submodule). text_if_named s.label.name) (subs_at given.syntax.enabled entries d files placed rows are can.paths joined (slice_index order k)))
      names_at k l =
          let p = slice_index order k in
          subst AreDifferent (sym (submodule_names _ (declared_names R (map key_at (targets joined.files.items p)))))
          (subs_differ given.syntax.enabled entries d files placed rows are can joined aj root inside arr.root_joined arr.inner_joined order arr.ordered arr.reached different p (reached k l))

      many : (k : ℕ) → k < length order → length (labels_of_place given.syntax.enabled files joined (slice_index order k)) ≡ length (targets joined.modules.items (slice_index order k))
      many k l = (all_can.each k l).labels

      -- a broken rule is named: of the first module, or over those that are compiled
      first_named : (loaded : List Text) (k : ℕ) (l : k < length order) → k ≡ 0 → (slots : List (Option Justfile)) (held : List (Recipe Dependency)) → held ≡ [] → (c : Cause) → BreaksOver given files joined (slice_index order k) slots held c → BreaksModules told_in given R top c
      first_named loaded k l start slots held empty c broken =
          let h = heading k l in
          let row = targets joined.modules.items (slice_index order k) in
          let none : row ≡ [] = no_row row (λ q i. let x = in_take order k q (omega (arith, l)) (arr.ordered.steps_first k q l (contained q row i)) in omega (arith, x.1, start)) in
          let heads = none_inside given entries d files placed rows are can.paths joined order below joins arr.ordered.steps_first loaded many names_at k l h.0 h.2 none in
          names_over given entries d files placed rows are can.paths joined order below joins arr.ordered.steps_first loaded many names_at k l h.0 h.2 Empty (subst (λ hs. AreModules R hs Empty) (sym heads) no_module) [] [] (ap length (sym none)) (λ labels e. no_compiled_as given (λ q. lookup (same_ast_key q) entries) loaded [] labels)
          top h.1 (λ x below' i. absurd (nobody i refl)) held (sym empty) (λ labels x c. absurd (is_in x (by_name (with_labels [] labels)) c)) slots (ap (map (slot slots)) (sym none)) c broken

      pub broken_named : (loaded : List Text) (c : Cause) → BreaksInOrder given files joined loaded order c → BreaksModules told_in given R top c
      broken_named loaded c r = go r.before
        where
          go : HaveCompiledSoFar given files joined loaded order r.at r.slots r.all → BreaksModules told_in given R top c
          go (not_yet start room recipes overridden) = first_named loaded r.at r.there start r.slots r.all.recipes recipes c r.broken
          go (so_far so) =
              let h = heading r.at r.there in
              names_next given entries d files placed rows are can.paths joined order below joins arr.ordered.steps_first loaded so.made so.justfile r.at (omega (arith, r.there)) arr.ordered.once so.each many names_at top r.there h.0 h.2 h.1 r.slots
              (inner_there given files joined loaded order all_can r.at r.there r.slots r.all so) c (subst (λ rs. BreaksOver given files joined (slice_index order r.at) r.slots rs c) so.recipes r.broken)

      -- the root's place in the order
      root_listed : (k : ℕ) × (k < length order) × (slice_index order k ≡ root)
      root_listed =
          let c = listed given.syntax.enabled entries d files placed rows are can joined aj root inside arr.root_joined arr.inner_joined order arr.ordered arr.reached different (from_start (0, omega arith, refl)) in
          (c.0, c.1, sym (get_or_default order c.0 root 0 c.1) ∙ c.2)

      module _ (loaded : List Text) (slots : List (Option Justfile)) (added : Made) (so : HaveCompiled given files joined loaded order (length order) slots added) where
        -- the root's module is held
        pub root_held : slot slots root ≡ Some (so.justfile root)
        root_held =
            let k = root_listed in
            subst (λ q. slot slots q ≡ Some (so.justfile q)) k.2 (so.held k.0 k.1 (λ i l e.
            not_root given.syntax.enabled entries d files placed rows are can.paths joined (edge_joined given.syntax.enabled entries d files placed rows are can.paths joined aj) root (reached i l) (subst (HasEdge joined.modules.items (slice_index order i)) k.2 e) refl))

        abbrev k0 : ℕ
        k0 = root_listed.0

        abbrev l0 : k0 < length order
        l0 = root_listed.1

        e0 : top.key ≡ key_at (slice_index order k0)
        e0 = is_top ∙ ap key_at (sym root_listed.2)

        abbrev m0 : Module
        m0 = module_of given.syntax.enabled entries d files placed rows are can.paths joined order below joins arr.ordered.steps_first k0 l0 top

        abbrev built : List Built
        built = map (λ q. (key_at q, so.made q)) (take (length order) order)

        inside0 : Forest
        inside0 = (forest_at given entries d files placed rows are can.paths joined order below joins arr.ordered.steps_first loaded so.made so.justfile (length order) (omega arith) arr.ordered.once so.each many names_at k0 l0 top e0).inside

        tree : Held given entries d files placed rows are can.paths joined order below joins arr.ordered.steps_first loaded so.made so.justfile (length order) (omega arith) arr.ordered.once so.each many names_at (Tree m0 inside0 Empty) (top ∷ []) (slice_index order k0 ∷ [])
        unfolding inside0
        tree = tree_held given entries d files placed rows are can.paths joined order below joins arr.ordered.steps_first loaded so.made so.justfile (length order) (omega arith) arr.ordered.once so.each many names_at k0 l0 l0 top e0

        compiled : AreCompiled given (λ k. lookup (same_ast_key k) entries) loaded built (Tree m0 inside0 Empty) (labelled_as top.label (so.justfile root) ∷ [])
        compiled = subst (λ q. AreCompiled given (λ k. lookup (same_ast_key k) entries) loaded built (Tree m0 inside0 Empty) (labelled_as top.label (so.justfile q) ∷ [])) root_listed.2 (tree.compiled_as (top.label ∷ []) refl)

        -- all that is added of each kind
        module _ {B : Type 0} (of : Made → List B) where
          all : of added ≡ flat_map (λ q. of (so.made q)) (take (length order) order) → of added ≡ flat_map (λ (b : Built). of b.1) built
          all before = before ∙ pair_flat of key_at so.made (take (length order) order)

        all_recipes : added.recipes ≡ recipes_of_all built
        all_recipes = all (λ (x : Made). x.recipes) so.recipes

        resolved : All IsResolved added.recipes
        resolved = λ i x l.
            let r = get_or added.recipes i x in
            let q = from_flat (λ q. (so.made q).recipes) r (take (length order) order) (subst (In r) so.recipes (is_in r added.recipes (Contains-get_or added.recipes i x l))) in
            let k = in_take order (length order) q.0 (omega arith) (contained q.0 (take (length order) order) q.1) in
            All-contains IsResolved (so.made (slice_index order k.0)).recipes r (so.each k.0 k.1).links.linked.resolved (subst (λ p. Contains (so.made p).recipes r) (sym k.2) (contained r (so.made q.0).recipes q.2))

        -- each recipe is that of a module that stands in the root's
        placed_in : All (IsPlaced (labelled_as top.label (so.justfile root))) added.recipes
        placed_in = λ i x l.
            let r = get_or added.recipes i x in
            let q = from_flat (λ q. (so.made q).recipes) r (take (length order) order) (subst (In r) so.recipes (is_in r added.recipes (Contains-get_or added.recipes i x l))) in
            let k = in_take order (length order) q.0 (omega arith) (contained q.0 (take (length order) order) q.1) in
            let h = heading k.0 k.1 in
            let found = find_reached R tree.are_modules h.1 in
            let s = standing given (λ k. lookup (same_ast_key k) entries) can.paths loaded built compiled found.has in
            let same : s.top ≡ labelled_as top.label (so.justfile root) = elim s.among [ inl e ↦ e | inr wrong ↦ absurd wrong ] in (
              s.it,
              subst (λ (t : Justfile). StandsIn t s.it) same s.stands,
              made_path (so.each k.0 k.1).links.linked r (subst (λ p. In r (so.made p).recipes) (sym k.2) q.2) ∙ ap Some (path_same given entries d files placed rows are can.paths joined order below joins arr.ordered.steps_first loaded so.made so.justfile (length order) (omega arith) arr.ordered.once so.each many names_at k.0 k.1 k.1 h.0 h.2 ∙ sym (s.path ∙ ap (λ (g : Heading). g.key.0) found.is.heading)),
            )

        -- what stands at a place of the list
        built_at : (i : ℕ) (b : Built) → slice_get built i ≡ Some b → (i < length order) × (b ≡ (key_at (slice_index order i), so.made (slice_index order i)))
        built_at i b e =
            let x = get_map (λ q. (key_at q, so.made q)) order i b (ap (λ xs. slice_get (map (λ q. (key_at q, so.made q)) xs) i) (sym (take_all (length order) order (omega arith))) ∙ e) in
            (slice_get_within order i x.0 x.1, x.2 ∙ ap (λ q. (key_at q, so.made q)) (sym (get_or_from_slice_get order i x.0 0 x.1)))

        once : AreDistinct (map (λ (b : Built). b.0) built)
        once i j k a b =
            let x = get_map (λ (b : Built). b.0) built i k a in
            let y = get_map (λ (b : Built). b.0) built j k b in
            let p = built_at i x.0 x.1 in
            let q = built_at j y.0 y.1 in
            one_at given.syntax.enabled entries d files placed rows are can joined aj root inside arr.root_joined arr.inner_joined order arr.ordered arr.reached different i j p.0 q.0
            (one_place given.syntax.enabled entries d files placed rows are can.paths (slice_index order i) (slice_index order j) (below i p.0) (below j q.0) (sym (ap (λ (b : Built). b.0) p.1) ∙ sym x.2 ∙ y.2 ∙ ap (λ (b : Built). b.0) q.1))

        each : (b : Built) → Contains built b → (h : Heading) × IsHeading R top h × (h.key ≡ b.0)
        each b c =
            let q = from_map (λ q. (key_at q, so.made q)) b order (subst (λ xs. In b (map (λ q. (key_at q, so.made q)) xs)) (take_all (length order) order (omega arith)) (is_in b built c)) in
            let o = contained q.0 order q.1 in
            let at : slice_index order o.0 ≡ q.0 = sym (get_or_default order o.0 q.0 0 o.1) ∙ o.2 in
            let h = heading o.0 o.1 in
            (h.0, h.1, h.2 ∙ ap key_at at ∙ sym (ap (λ (x : Built). x.0) q.2))

        -- all paths are spaced alike
        one_spacing : {q : ℕ} → IsReached q → (key_at q).0.spaced ≡ (key_at root).0.spaced
        one_spacing (from_start {a} c) = elim (is_in a (root ∷ []) c) [ inl e ↦ ap (λ p. (key_at p).0.spaced) e | inr wrong ↦ absurd wrong ]
        one_spacing (from_member {a} {b} r on e) =
            let s = stand a r in
            let x = entered given.syntax.enabled entries d files placed rows are can.paths joined a s.0 s.1 b e in
            ap (λ (m : Modulepath). m.spaced) x.path ∙ one_spacing r

        -- a module whose path is one name longer is in it
        inner_before : (i : ℕ) (l : i < length order) {q : ℕ} → IsReached q → (name : Text) → (key_at q).0.components ≡ (key_at (slice_index order i)).0.components ++ name ∷ [] → (j : ℕ) × (j < i) × (slice_index order j ≡ q)
        inner_before i l (from_start {a} c) name e =
            let same : a ≡ root = elim (is_in a (root ∷ []) c) [ inl s ↦ s | inr wrong ↦ absurd wrong ] in
            let low = below_root given.syntax.enabled entries d files placed rows are can.paths joined (edge_joined given.syntax.enabled entries d files placed rows are can.paths joined aj) root (reached i l) in
            absurd (omega (arith, low, ap length (ap (λ p. (key_at p).0.components) (sym same) ∙ e), length-append (key_at (slice_index order i)).0.components (name ∷ [])))
        inner_before i l (from_member {a} {b} r on e) name is =
            let p = slice_index order i in
            let s = stand a r in
            let x = entered given.syntax.enabled entries d files placed rows are can.paths joined a s.0 s.1 b e in
            let parts = ends_same (key_at a).0.components (key_at p).0.components (text_of_name x.sub.name) name (ap (λ (m : Modulepath). m.components) (sym x.path) ∙ is) in
            let path : (key_at a).0 ≡ (key_at p).0 = λ y. record { components = parts.0 y; spaced = (one_spacing r ∙ sym (one_spacing (reached i l))) y } in
            let outer : a ≡ p = one_path given.syntax.enabled entries d files placed rows are can.paths joined (edge_joined given.syntax.enabled entries d files placed rows are can.paths joined aj) root
            (subs_differ given.syntax.enabled entries d files placed rows are can joined aj root inside arr.root_joined arr.inner_joined order arr.ordered arr.reached different) r (reached i l) path in
            in_take order i b (omega (arith, l)) (arr.ordered.steps_first i b l (subst (λ y. HasEdge joined.modules.items y b) outer e))

        after : ComeAfter built
        after i j b inner name at_i at_j is =
            let x = built_at i b at_i in
            let y = built_at j inner at_j in
            let k = inner_before i x.0 (reached j y.0) name (ap (λ (z : Built). z.0.0.components) (sym y.1) ∙ is ∙ ap (λ (z : Built). z.0.0.components ++ name ∷ []) x.1) in
            let same = one_at given.syntax.enabled entries d files placed rows are can joined aj root inside arr.root_joined arr.inner_joined order arr.ordered arr.reached different k.0 j (omega (arith, k.1, x.0)) y.0 k.2 in
            omega (arith, same, k.1)

        labelled : top.label.doc_expression ≡ None → label_in (labelled_as top.label (so.justfile root)) ≡ top.label
        labelled undocumented =
            let out = out-roll-Justfile (record (out-Justfile (so.justfile root)) { name = top.label.name; doc = top.label.doc; groups = top.label.groups; private = top.label.private }) in
            ap (λ x. let label : Label = record { name = x.name; doc = x.doc; doc_expression = None; groups = x.groups; private = x.private } in label) out ∙ (λ i. record top.label { doc_expression = sym undocumented i })

        pub is_analyzed : top.label.doc_expression ≡ None → DependenciesStandFirst added.recipes → IsAnalyzed given (λ k. lookup (same_ast_key k) entries) loaded top (labelled_as top.label (so.justfile root)) added.recipes added.overridden
        is_analyzed undocumented ordered = record {
          m = m0;
          inside = inside0;
          are_modules = tree.are_modules;
          kept = tree.kept;
          built = built;
          once = once;
          after = after;
          each = each;
          all = all_recipes;
          overrides = all (λ (x : Made). x.overridden) so.overridden;
          label = labelled undocumented;
          compiled = compiled;
          closed = forest_closed R given (λ k. lookup (same_ast_key k) entries) can.paths loaded built added.recipes all_recipes resolved tree.are_modules compiled (forest_says given (λ k. lookup (same_ast_key k) entries) tree.are_modules) (labelled_as top.label (so.justfile root)) (inl refl);
          placed = placed_in;
          tables = forest_tables R given (λ k. lookup (same_ast_key k) entries) can.paths loaded built added.recipes all_recipes resolved compiled (labelled_as top.label (so.justfile root)) (inl refl);
          numbers = own_numbers given (λ k. lookup (same_ast_key k) entries) can R loaded built tree.are_modules compiled (labelled_as top.label (so.justfile root)) (inl refl);
        }

-- The modules of headings are compiled to the justfiles at their places.
use Rattle.just_module_headers.proofs.Alike.{kept_alike}
use Rattle.std.proofs.Common.{◌≡◌, ◌≢◌, ◌<◌, ℕ, suc, List, [], ◌∷◌, ◌++◌, map, length, get_or, slice_index, Option, None, Some, refl, sym, ap, subst, subst₂, ◌∙◌, inl, inr, arith, append_assoc, take, zero, ◌≤◌, ◌+◌, ◌-◌}
use Rattle.std.specs.Prelude.{flat_map, slice_get}
use Rattle.std.specs.HashMap.{get}
use Rattle.just_parts.specs.Syntax.{SyntaxAnswers}
use Rattle.just_parts.specs.Needs.{has_number, same_number}
use Rattle.std.specs.List.{Contains}
use Rattle.std.specs.Map.{keys_of, lookup}
use Rattle.std.proofs.lemmas.List.{length-map}
use Rattle.std.proofs.lemmas.Option.{slice_get-get_or}
use Rattle.just_graph.specs.Graph.{HasEdge, targets}
use Rattle.just_graph.specs.Steps.{ListsStepsFirst, IsOnce, in_take}
use Rattle.just_graph.proofs.Index.{some_same}
use Rattle.just_graph.proofs.Members.{In, contained, in_map}
use Rattle.just_parts.specs.Asts.{AstKey, same_ast_key}
use Rattle.just_names.specs.Texts.{Text}
use Rattle.just_parts.specs.Items.{Ast}
use Rattle.just_justfile.specs.declared.justfile.Justfile.{Justfile, out-Justfile, out-roll-Justfile}
use Rattle.just_module_contents.specs.Defaults.{IsDefaultAmong}
use Rattle.just_compiled.specs.Analysis.{IsOf, completion_in}
use Rattle.just_compiled.specs.loops.Analysis.{HasLinks}
use Rattle.just_module_headers.specs.Files.{ArePlaced, AreRows}
use Rattle.just_module_headers.specs.Joined.{IsJoined}
use Rattle.just_module_variables.specs.Documented.{AreDocumented, HasDoc}
use Rattle.just_compiled.specs.Evaluated.{AreLabels, IsEvaluatedTo, overridden_in}
use Rattle.just_compiled.specs.Labelled.{label_in, labelled_as, with_labels, by_name, notes_in, slot}
use Rattle.just_compiled.specs.Justfiles.{AreAliased, AreCompiled, Built, IsCompiled, MeansIn, Made, contents_read, none, notes_said, one, recipes_in_files, kept_by, recipes_of_all, value_by}
use Rattle.just_module_tree.specs.Modules.{Empty, Forest, Heading, Module, Tree, headings_in, AreModules, IsHeading, a_module, after_it, contents_of, first, in_it, no_module, path_of}
use Rattle.just_module_contents.specs.Constants.{Evaluated, IsEvaluated, value_among}
use Rattle.just_module_contents.specs.Contents.{Contents}
use Rattle.just_module_contents.specs.Kept.{kept_recipes}
use Rattle.just_module_contents.specs.Recipes.{recipes_of}
use Rattle.just_module_headers.specs.Reading.{Submodule, reading_of}
use Rattle.just_module_headers.specs.loops.OfPlaces.{contents_of_place, labels_of_place, recipes_of_place}
use Rattle.just_compiler.specs.loops.Steps.{IsCompiledAt, path_at, path_in, BreaksOver, kept_of_place, made_before, names_of_labels, value_at}
use Rattle.just_module_headers.specs.declared.files.Files.{Files}
use Rattle.just_module_contents.specs.declared.labels.Label.{Label}
use Rattle.just_module_contents.specs.declared.notes.Notes.{Notes}
use Rattle.just_module_headers.specs.declared.files.Rows.{Rows}
use Rattle.just_module_headers.specs.declared.join.Joined.{Joined}
use Rattle.just_parts.proofs.AstKeys.{keys_equivalent}
use Rattle.just_compiled.proofs.Closing.{own_joined}
use Rattle.just_module_headers.proofs.FilePlaces.{says}
use Rattle.just_compiler.proofs.Placed.{many_labels, named_alike}
use Rattle.just_module_tree.proofs.ModulePlaces.{TreeAt, file_inside, join_at, module_of, tree_at, is_module, nobody}
use Rattle.just_module_tree.proofs.Ready.{labels_are}
use Rattle.just_parts.specs.Layers.{Given, Layers, layers_at}
use Rattle.just_module_variables.specs.Variables.{AreTables, AreVariables}
use Rattle.just_compiled.specs.Variables.{HasVariables}
use Rattle.just_ast_expressions.specs.declared.expression.Expression.{Expression}
use Rattle.just_names.specs.Index.{AreDifferent}
use Rattle.just_module_recipes.specs.Linked.{AreLinked, AreSettled, HasDisabled, HasNumber}
use Rattle.just_module_contents.specs.Standing.{AreStanding}
use Rattle.just_module_recipes.specs.Links.{Around, Disables, Stands, around_recipes}
use Rattle.just_module_recipes.specs.loops.Links.{around_of, links_by}
use Rattle.just_errors.specs.Causes.{Cause, Keeps}
use Rattle.just_recipe.specs.declared.dependency.Dependency.{Dependency}
use Rattle.just_module_contents.specs.Groups.{KeepsContents}
use Rattle.just_module_tree.specs.Groups.{KeepsModules, BreaksModules, KeepsGroups}
use Rattle.just_compiled.proofs.Agreeing.{Meets}
use Rattle.just_paths.specs.declared.modulepath.Modulepath.{Modulepath}
use Rattle.just_recipe.specs.declared.recipe.Recipe.{Recipe}
use Rattle.just_recipe.specs.declared.dependency.UnresolvedDependency.{UnresolvedDependency}
use Rattle.just_compiler.proofs.Keeping.{alike_at}
use Rattle.just_compiled.proofs.Settling.{around_settled}
use Rattle.just_compiler.proofs.Ordered.{before_more, before_next, inner_settled_at}
use Rattle.std.proofs.lemmas.Bool.{cases_lt}
use Rattle.just_compiler.proofs.Meeting.{contents_same, heads_named, inner_differ, meets_at, names_over, notes_same, recipes_same}
use Rattle.just_compiled.proofs.Linking.{has_links}
use Rattle.just_compiled.proofs.Agreeing.{Shows}
use Rattle.just_compiled.proofs.Aliasing.{all_aliased, means_in, means_nothing}
use Rattle.just_compiled.proofs.Bridges.{aliases_back, links_back}
use Rattle.just_module_contents.specs.Groups.{OfAliases}
use Rattle.just_module_contents.specs.Rules.{BreaksAliasTargets, under, unknown_target}
use Rattle.just_module_aliases.specs.Aliased.{aliases_of, alias_meant, no_aliases, alias_targets, targets_of}
use Rattle.just_ast_definitions.specs.declared.alias.Alias.{Alias}
use Rattle.just_names.specs.declared.name.Namepath.{Namepath}
use Rattle.just_module_tree.specs.Standing.{HasTargetInTree, links_in, name_in, of_targets, told_in}
use Rattle.just_justfile.specs.Module.{module_name}
use Rattle.just_module_tree.proofs.ModulePaths.{subs_at}
use Rattle.just_names.specs.Name.{text_if_named}

-- justfiles have the labels that they are given, whose docs are evaluated
labelled_documented : (value : Expression → Option (List Text)) (said labels : List Label) (js : List Justfile) → length labels ≡ length js → AreDocumented value said labels → AreDocumented value said (map label_in (with_labels js labels))
labelled_documented value [] labels [] many are = refl
labelled_documented value [] labels (j ∷ js) many are = let none : length labels ≡ 0 = ap length are in absurd (omega (arith, many, none))
labelled_documented value (l ∷ said) labels [] many (head, rest, e, is, are) = let some : length labels ≡ suc (length rest) = ap length e in absurd (omega (arith, many, some))
labelled_documented value (l ∷ said) labels (j ∷ js) many (head, rest, e, is, are) =
    let out = out-roll-Justfile (record (out-Justfile j) { name = head.name; doc = head.doc; groups = head.groups; private = head.private }) in
    let count : length rest ≡ length js = omega (arith, many, ap length e) in
    subst (λ ls. AreDocumented value (l ∷ said) (map label_in (with_labels (j ∷ js) ls))) (sym e) (
      label_in (labelled_as head j),
      map label_in (with_labels js rest),
      refl,
      record {
        name = ap (λ x. x.name) out ∙ is.name;
        groups = ap (λ x. x.groups) out ∙ is.groups;
        private = ap (λ x. x.private) out ∙ is.private;
        doc = subst (HasDoc value l.doc l.doc_expression) (sym (ap (λ x. x.doc) out)) is.doc;
      },
      labelled_documented value said rest js count are,
    )

pub pair_flat : {A B : Type 0} (of : Made → List B) (f : ℕ → A) (made : ℕ → Made) (xs : List ℕ) → flat_map (λ q. of (made q)) xs ≡ flat_map (λ (b : A × Made). of b.1) (map (λ q. (f q, made q)) xs)
pair_flat of f made [] = refl
pair_flat of f made (x ∷ xs) = ap (λ rs. of (made x) ++ rs) (pair_flat of f made xs)

-- a place of a front of a list
in_front : (xs : List ℕ) (k m : ℕ) → k < m → m ≤ length xs → In (slice_index xs k) (take m xs)
in_front [] k m h l = absurd (omega (arith, h, l))
in_front (x ∷ xs) k zero h l = absurd (omega (arith, h))
in_front (x ∷ xs) zero (suc m) h l = inl refl
in_front (x ∷ xs) (suc k) (suc m) h l = inr (in_front xs k m (omega (arith, h)) (omega (arith, l)))

-- a label changes nothing else
module _ (cs : Contents) (standing : List (Recipe UnresolvedDependency)) (ast : Ast) (loaded : List Text) (source : Text) (label : Label) (j : Justfile) (is : IsOf cs standing ast loaded source j) where
  pub labelled_is_of : IsOf cs standing ast loaded source (labelled_as label j)
  labelled_is_of =
      let out = out-roll-Justfile (record (out-Justfile j) { name = label.name; doc = label.doc; groups = label.groups; private = label.private }) in
      record {
        recipes_are = ap (λ x. x.recipes) out ∙ is.recipes_are;
        aliases_are = ap (λ x. x.aliases) out ∙ is.aliases_are ∙ (λ i. aliases_of (alias_targets (sym out i).absent_modules (sym out i).disabled_recipes (sym out i).modules (sym out i).recipes) cs.aliases);
        unexports_are = ap (λ x. x.unexports) out ∙ is.unexports_are;
        loaded_is = ap (λ x. x.loaded) out ∙ is.loaded_is;
        source_is = ap (λ x. x.source) out ∙ is.source_is;
        module_path = ap (λ x. x.module_path) out ∙ is.module_path;
        working_directory = ap (λ x. x.working_directory) out ∙ is.working_directory;
      }

  pub labelled_links : (value : Expression → Option (List Text)) (answers : SyntaxAnswers) (recipes : List (Recipe UnresolvedDependency)) (before added : List (Recipe Dependency)) (path : Modulepath) → HasLinks value answers recipes before path added standing j
      → HasLinks value answers recipes before path added standing (labelled_as label j)
  labelled_links value answers recipes before added path links =
      let out = sym (out-roll-Justfile (record (out-Justfile j) { name = label.name; doc = label.doc; groups = label.groups; private = label.private })) in
      record {
        linked = subst (λ x. AreLinked (Stands recipes (around_recipes x.absent_modules x.modules before)) (HasNumber recipes (around_recipes x.absent_modules x.modules before)) (completion_in value answers x.assignments x.functions (has_number x.overridden) x.settings) x.settings.lists (before ++ added) recipes path added) out links.linked;
        stand = subst (λ x. AreStanding (Stands recipes (around_recipes x.absent_modules x.modules before)) recipes standing) out links.stand;
        disabled = subst (λ x. HasDisabled (Disables recipes (around_recipes x.absent_modules x.modules before)) recipes x.disabled_recipes) out links.disabled;
      }

module _ (given : Given) (entries : List (AstKey × Ast)) (d : AstKey) (files : Files) (placed : ArePlaced entries files) (rows : Rows) (are : AreRows given.syntax.enabled files rows)
    (paths : (k : AstKey) (a : Ast) → lookup (same_ast_key k) entries ≡ Some a → a.module_path ≡ k.0) (joined : Joined)
    (order : List ℕ) (below : (k : ℕ) → k < length order → slice_index order k < length (keys_of entries)) (joins : (k : ℕ) → k < length order → IsJoined rows joined (slice_index order k))
    (lists_first : ListsStepsFirst (HasEdge joined.modules.items) order) (loaded : List Text) (made : ℕ → Made) (justfile : ℕ → Justfile) (bound : ℕ) (small : bound ≤ length order) (listed_once : IsOnce order)
    (compiled : (k : ℕ) → k < bound → IsCompiledAt given files joined loaded (slice_index order k) (map justfile (targets joined.modules.items (slice_index order k))) (made_before made order k) (made (slice_index order k)) (justfile (slice_index order k)))
    (many : (k : ℕ) → k < length order → length (labels_of_place given.syntax.enabled files joined (slice_index order k)) ≡ length (targets joined.modules.items (slice_index order k)))
    (differ : (k : ℕ) → k < length order → AreDifferent (map (λ (s : Submodule). text_if_named s.label.name) (subs_at given.syntax.enabled entries d files placed rows are paths joined (slice_index order k)))) where
  abbrev asts : AstKey → Option Ast
  asts k = lookup (same_ast_key k) entries

  abbrev n : ℕ
  n = length (keys_of entries)

  abbrev key_at : ℕ → AstKey
  key_at p = get_or (keys_of entries) p d

  abbrev the_module : (k : ℕ) → k < length order → Heading → Module
  the_module = module_of given.syntax.enabled entries d files placed rows are paths joined order below joins lists_first

  abbrev pub built : List Built
  built = map (λ q. (key_at q, made q)) (take bound order)

  -- what is built is what was held before a module, what that adds, and the rest
  all_built : recipes_of_all built ≡ made_before made order bound
  all_built = sym (pair_flat (λ (x : Made). x.recipes) key_at made (take bound order))

  pub whole : (k : ℕ) → k < bound → (rest : List (Recipe Dependency)) × (recipes_of_all built ≡ (made_before made order k ++ (made (slice_index order k)).recipes) ++ rest)
  whole k b =
      let r = before_more made order (k + 1) (bound - (k + 1)) (omega (arith, b, small)) in
      (r.0, all_built ∙ ap (made_before made order) (omega (arith, b)) ∙ r.1 ∙ ap (λ rs. rs ++ r.0) (before_next made order k (omega (arith, b, small))))

  -- The modules of a forest, by the places of a row: they are those of headings, all groups are kept in them, and they are compiled to the justfiles at these places, under labels with the names of the headings.
  pub record Held (f : Forest) (hs : List Heading) (row : List ℕ) : Type 0 where
    pub are_modules : AreModules (reading_of given.syntax.enabled asts) hs f
    pub kept : KeepsModules given f
    pub compiled_as : (labels : List Label) → names_of_labels labels ≡ map (λ (h : Heading). h.label.name) hs → AreCompiled given asts loaded built f (with_labels (map justfile row) labels)

  module _ (k : ℕ) (l : k < length order) (b : k < bound) (h : Heading) (e : h.key ≡ key_at (slice_index order k)) where
    abbrev p : ℕ
    p = slice_index order k

    abbrev m : Module
    m = the_module k l h

    abbrev at : IsCompiledAt given files joined loaded p (map justfile (targets joined.modules.items p)) (made_before made order k) (made p) (justfile p)
    at = compiled k b

    own_same : asts h.key ≡ Some at.own
    own_same =
        let s = says given.syntax.enabled entries d files placed rows are paths p (below k l) in
        ap asts e ∙ s.said ∙ sym s.listed ∙ at.own_said

    key_same : at.key ≡ h.key
    key_same =
        some_same (sym at.key_is ∙ ap (λ ks. slice_get ks p) placed.keys ∙ slice_get-get_or (keys_of entries) p d (below k l)) ∙ sym e

    pub path_same : at.own.module_path ≡ h.key.0
    path_same = paths h.key at.own own_same

    rs_same : recipes_of_place given.syntax.enabled files joined p ≡ recipes_in_files given.syntax.enabled asts m.files
    rs_same = recipes_same given entries d files placed rows are paths joined order below joins lists_first loaded many differ (targets joined.files.items p) (file_inside given.syntax.enabled entries d files placed rows are paths joined p (below k l) (joins k l))

    cs_same : contents_of_place given.syntax.enabled files joined p ≡ contents_read given.syntax.enabled asts m.files
    cs_same = contents_same given entries d files placed rows are paths joined order below joins lists_first loaded many differ (targets joined.files.items p) (file_inside given.syntax.enabled entries d files placed rows are paths joined p (below k l) (joins k l))

    in_files : (q : ℕ) → In q (targets joined.files.items p) → q < n
    in_files = file_inside given.syntax.enabled entries d files placed rows are paths joined p (below k l) (joins k l)

    labels_same : labels_of_place given.syntax.enabled files joined p ≡ map (λ (s : Submodule). s.label) m.modules
    labels_same = labels_are given.syntax.enabled entries d files placed rows are paths joined (targets joined.files.items p) in_files

    layers_same : layers_at given (path_at files p) ≡ layers_at given h.key.0
    layers_same = ap (layers_at given) (ap path_in at.own_said ∙ path_same)

    inner_many : length at.labels ≡ length (targets joined.modules.items p)
    inner_many = many_labels _ (labels_of_place given.syntax.enabled files joined p) at.labels at.evaluated.documented ∙ many k l

    abbrev inner : List Justfile
    inner = with_labels (map justfile (targets joined.modules.items p)) at.labels

    -- what is evaluated of it
    module _ (label : Label) where
      abbrev cs : Contents
      cs = contents_read given.syntax.enabled asts m.files

      abbrev it : Evaluated
      it = at.evaluated.it

      documented_here : AreLabels (layers_at given h.key.0) cs it.constants (map (λ (s : Submodule). s.label) m.modules) at.labels
      documented_here =
          subst (λ ls. AreLabels (layers_at given h.key.0) cs it.constants ls at.labels) labels_same
          (subst₂ (λ (x : Layers) (c : Contents). AreLabels x c it.constants (labels_of_place given.syntax.enabled files joined p) at.labels) layers_same cs_same at.evaluated.documented)

      evaluated : IsEvaluatedTo (layers_at given h.key.0) cs (map (λ (s : Submodule). s.label) m.modules) (map label_in inner) (made p).overridden (labelled_as label (justfile p))
      evaluated =
          let out = out-roll-Justfile (record (out-Justfile (justfile p)) { name = label.name; doc = label.doc; groups = label.groups; private = label.private }) in
          record {
            it = it;
            evaluated = subst₂ (λ (x : Layers) (c : Contents). IsEvaluated x c it) layers_same cs_same at.evaluated.evaluated;
            settings = at.evaluated.settings ∙ ap (λ x. x.settings) (sym out);
            documented = labelled_documented _ _ at.labels (map justfile (targets joined.modules.items p)) (inner_many ∙ sym (length-map (targets joined.modules.items p) justfile)) documented_here;
            overrides_are = subst₂ (λ (x : Layers) (c : Contents). (made p).overridden ≡ overridden_in x c) layers_same cs_same at.evaluated.overrides_are;
            overrides_held = λ n. ap (λ x. get same_number x.overridden n) out ∙ at.evaluated.overrides_held n;
          }

    -- what it is linked to, under a label
    module _ (label : Label) where
      abbrev j : Justfile
      j = labelled_as label (justfile p)

      out : out-Justfile j ≡ record (out-Justfile (justfile p)) { name = label.name; doc = label.doc; groups = label.groups; private = label.private }
      out = out-roll-Justfile (record (out-Justfile (justfile p)) { name = label.name; doc = label.doc; groups = label.groups; private = label.private })

      abbrev value : Expression → Option (List Text)
      value = value_by given asts m at.evaluated.it

      links : HasLinks value given.syntax (kept_by given asts m) (made_before made order k) (path_of m) (made p).recipes at.standing j
      links =
          subst (λ path. HasLinks value given.syntax (kept_by given asts m) (made_before made order k) path (made p).recipes at.standing j) (path_same ∙ refl)
          (subst (λ (c : Contents). HasLinks (value_among given.evaluator c at.evaluated.it.constants) given.syntax (kept_by given asts m) (made_before made order k) at.own.module_path (made p).recipes at.standing j) cs_same
          (subst (λ rs. HasLinks (value_at given files joined p at.evaluated.it) given.syntax (kept_recipes rs) (made_before made order k) at.own.module_path (made p).recipes at.standing j) rs_same
          (labelled_links (contents_of_place given.syntax.enabled files joined p) at.standing at.own loaded at.key.1 label (justfile p) at.fields (value_at given files joined p at.evaluated.it) given.syntax (kept_of_place given.syntax.enabled files joined p) (made_before made order k) (made p).recipes at.own.module_path at.links)))

      modules : (out-Justfile j).modules ≡ by_name inner
      modules = ap (λ x. x.modules) out ∙ at.modules

      notes : notes_in j ≡ notes_said given.syntax.enabled asts m.files
      notes = ap (λ x. let noted : Notes = record { absent_modules = x.absent_modules; unstable_features = x.unstable_features; warnings = x.warnings } in noted) out ∙ at.notes ∙ notes_same given entries d files placed rows are paths joined order below joins lists_first loaded many differ (targets joined.files.items p) in_files

    pub is_built : Contains built (h.key, made p)
    is_built =
        subst (λ x. Contains built (x, made p)) (sym e)
        (contained (key_at p, made p) built (in_map (λ q. (key_at q, made q)) p (take bound order) (in_front order k bound b small)))

    labels_named : names_of_labels at.labels ≡ names_of_labels (labels_of_place given.syntax.enabled files joined p)
    labels_named = named_alike _ (labels_of_place given.syntax.enabled files joined p) at.labels at.evaluated.documented

    -- over the modules in it, which are compiled
    module _ (inside : Forest) (held : Held inside (headings_in m) (targets joined.modules.items p)) where
      abbrev before : List (Recipe Dependency)
      before = made_before made order k

      meets : (label : Label) → Meets given asts loaded built m inside (around_of (j label) before)
      meets label =
          meets_at given entries d files placed rows are paths joined order below joins lists_first loaded many differ k l h e inside held.are_modules built (map justfile (targets joined.modules.items p)) (length-map (targets joined.modules.items p) justfile) held.compiled_as at.labels labels_named (around_of (j label) before) ((made p).recipes ++ (whole k b).0) ((whole k b).1 ∙ append_assoc before (made p).recipes (whole k b).0)
          (ap (λ x. x.absent_modules) (out label) ∙ ap (λ (x : Notes). x.absent_modules) at.notes) (modules label)

      pub is_compiled : (label : Label) → module_name (j label) ≡ name_in m → IsCompiled given asts loaded (recipes_of_all built) m inside inner (made p) (j label)
      unfolding evaluated
      is_compiled label named =
          let told = has_links given asts loaded built m inside before (j label) (meets label) (value label) (recipes_of_all built) (whole k b).0 (path_of m) (made p).recipes at.standing (whole k b).1 (links label) in
          record {
            own = at.own;
            own_said = own_same;
            own_there = subst (λ k. Contains m.files k) (sym e) (own_joined same_ast_key keys_equivalent.refl _ (key_at p) m.files (join_at given.syntax.enabled entries d files placed rows are paths joined p (below k l) (joins k l)));
            name = named;
            path = ap (λ x. x.module_path) (out label) ∙ at.fields.module_path ∙ path_same;
            linked = told.linked;
            standing = at.standing;
            stand = told.stand;
            disabled = told.disabled;
            evaluated = evaluated label;
            variables = subst (λ x. AreVariables given.syntax (contents_read given.syntax.enabled asts m.files) x.assignments x.functions x.evaluation_order) (sym (out label)) (subst (λ cs. HasVariables given.syntax cs (justfile p)) cs_same at.variables);
            tables = subst (λ x. AreTables x.assignments x.functions) (sym (out label)) at.tables;
            default = subst (λ x. IsDefaultAmong at.standing (recipes_of given.syntax.enabled at.own.items) x.default) (sym (out label)) at.default;
            fields = labelled_is_of (contents_read given.syntax.enabled asts m.files) at.standing at.own loaded h.key.1 label (justfile p)
                (subst (λ cs. IsOf cs at.standing at.own loaded h.key.1 (justfile p)) cs_same (subst (λ (x : AstKey). IsOf (contents_of_place given.syntax.enabled files joined p) at.standing at.own loaded x.1 (justfile p)) key_same at.fields));
            notes = notes label;
            modules = modules label;
            different = inner_differ given entries d files placed rows are paths joined order below joins lists_first loaded many differ k l h e inside held.are_modules built (map justfile (targets joined.modules.items p)) (length-map (targets joined.modules.items p) justfile) held.compiled_as at.labels labels_named;
          }

      abbrev over : Around
      over = around_of (justfile p) before

      over_is : around_of (j h.label) before ≡ over
      over_is = λ i. around_recipes (out h.label i).absent_modules (out h.label i).modules before

      meets_over : Meets given asts loaded built m inside over
      meets_over = subst (λ (x : Around). Meets given asts loaded built m inside x) over_is (meets h.label)

      settled_over : AreSettled over
      settled_over = around_settled before over.absent over.modules (λ x c.
          inner_settled_at given files joined loaded order lists_first made justfile bound (omega (arith, small)) compiled k (omega (arith, b)) l at.labels x (subst (λ ms. Contains ms x) at.modules c))

      -- it keeps all groups
      pub keeps_here : KeepsGroups given m inside
      keeps_here g =
          kept_alike (layers_at given h.key.0) (links_by (contents_of_place given.syntax.enabled files joined p) over) (links_in m inside) (contents_of_place given.syntax.enabled files joined p) (contents_of m)
          (alike_at given entries d files placed rows are paths joined order below joins lists_first k l h)
          (λ e f c broken. subst (λ n. links_by n over (layers_at given h.key.0) e f c) (sym cs_same) (links_back given asts loaded built m inside over meets_over settled_over (layers_at given h.key.0) e f c broken))
          g (subst (λ (x : Layers). KeepsContents x (links_by (contents_of_place given.syntax.enabled files joined p) over) (contents_of_place given.syntax.enabled files joined p)) layers_same at.kept g)

      -- no target of its aliases is unknown
      targets_there : Keeps (BreaksAliasTargets (HasTargetInTree m inside) (contents_of m).aliases)
      targets_there c broken = at.kept OfAliases c (under at.evaluated.evaluated (subst (λ n. links_by n over (layers_at given (path_at files p)) at.evaluated.it OfAliases c) (sym cs_same) (aliases_back given asts loaded built m inside over meets_over c (of_targets broken))))

      -- so it has its aliases
      pub is_aliased : (label : Label) → module_name (j label) ≡ name_in m → AreAliased (MeansIn given asts m inside) (contents_of m).aliases (out-Justfile (j label)).aliases
      is_aliased label named =
          let is = is_compiled label named in
          let met = meets label in
          let compiled_inside = held.compiled_as at.labels (heads_named given entries d files placed rows are paths joined order below joins lists_first loaded many differ k l h e inside held.are_modules built (map justfile (targets joined.modules.items p)) (length-map (targets joined.modules.items p) justfile) held.compiled_as at.labels labels_named) in
          let shows : Shows given asts loaded built m inside (j label) = record { made = made p; inner = inner; compiled = compiled_inside; is = is; says = met.says; inner_says = met.inner_says } in
          let known : (alias : Alias Namepath) → In alias (contents_of m).aliases → alias_meant (targets_of (j label)) alias.target ≢ None = λ alias i nothing.
          targets_there _ (unknown_target (contained alias (contents_of m).aliases i) (means_nothing given asts loaded built m inside (j label) shows alias.target nothing)) in
          subst (AreAliased (MeansIn given asts m inside) (contents_of m).aliases) (sym (is.fields.aliases_are ∙ ap (aliases_of (targets_of (j label))) met.says.aliases))
          (all_aliased (targets_of (j label)) (MeansIn given asts m inside) (means_in given asts loaded built m inside (j label) shows) (contents_of m).aliases no_aliases known)

  -- the modules of a forest, where the places of a row are listed among those that are compiled
  abbrev pub Holds : Forest → List Heading → List ℕ → Type 0
  Holds f hs row = ((q : ℕ) → In q row → (i : ℕ) × (i < bound) × (slice_index order i ≡ q)) → Held f hs row

  pub no_more : Holds Empty [] []
  no_more free = record { are_modules = no_module; kept = λ x below' i. absurd (nobody i refl); compiled_as = λ labels e. none }

  -- a listed place is one place of the order
  one_place_of : (i k : ℕ) → i < length order → k < length order → slice_index order i ≡ slice_index order k → i ≡ k
  one_place_of i k h l same = elim (cases_lt i k) [
    | inl b ↦ absurd (listed_once i k b l same)
    | inr b ↦ elim (cases_lt k i) [ inl c ↦ absurd (listed_once k i c h (sym same)) | inr c ↦ omega (arith, b, c) ]
  ]

  kept_more : {m : Module} {inside after : Forest} → KeepsGroups given m inside → KeepsModules given inside → KeepsModules given after → KeepsModules given (Tree m inside after)
  kept_more here within others x below' first = here
  kept_more here within others x below' (in_it i) = within x below' i
  kept_more here within others x below' (after_it i) = others x below' i

  module _ (k : ℕ) (l : k < length order) (h : Heading) (inside after : Forest) (hs : List Heading) (row : List ℕ) (e : h.key ≡ key_at (slice_index order k))
      (a : Holds inside (headings_in (the_module k l h)) (targets joined.modules.items (slice_index order k))) (b : Holds after hs row) (free : (q : ℕ) → In q (slice_index order k ∷ row) → (i : ℕ) × (i < bound) × (slice_index order i ≡ q)) where
    less : k < bound
    less = let x = free (slice_index order k) (inl refl) in let same = one_place_of x.0 k (omega (arith, x.1, small)) l x.2 in omega (arith, x.1, same)

    within : Held inside (headings_in (the_module k l h)) (targets joined.modules.items (slice_index order k))
    within = a (λ q i. let x = in_take order k q (omega (arith, l)) (lists_first k q l (contained q (targets joined.modules.items (slice_index order k)) i)) in (x.0, omega (arith, x.1, less), x.2))

    others : Held after hs row
    others = b (λ q i. free q (inr i))

    compiled_more : (labels : List Label) → names_of_labels labels ≡ map (λ (g : Heading). g.label.name) (h ∷ hs) → AreCompiled given asts loaded built (Tree (the_module k l h) inside after) (with_labels (map justfile (slice_index order k ∷ row)) labels)
    compiled_more [] named = cc
    compiled_more (label ∷ labels) named =
        let head : label.name ≡ h.label.name = cc in
        let rest : names_of_labels labels ≡ map (λ (g : Heading). g.label.name) hs = cc in
        let p = slice_index order k in
        let out = out-roll-Justfile (record (out-Justfile (justfile p)) { name = label.name; doc = label.doc; groups = label.groups; private = label.private }) in
        one (made p) (is_built k l less h e) (within.compiled_as (compiled k less).labels (heads_named given entries d files placed rows are paths joined order below joins lists_first loaded many differ k l h e inside within.are_modules built (map justfile (targets joined.modules.items p)) (length-map (targets joined.modules.items p) justfile) within.compiled_as (compiled k less).labels (labels_named k l less h e)))
        (is_compiled k l less h e inside within label (ap (λ x. text_if_named x.name) out ∙ ap text_if_named head)) (is_aliased k l less h e inside within label (ap (λ x. text_if_named x.name) out ∙ ap text_if_named head)) (others.compiled_as labels rest)

    held_more : Held (Tree (the_module k l h) inside after) (h ∷ hs) (slice_index order k ∷ row)
    held_more = record {
      are_modules = a_module (is_module given.syntax.enabled entries d files placed rows are paths joined (slice_index order k) (below k l) (joins k l) h e) within.are_modules others.are_modules;
      kept = kept_more (keeps_here k l less h e inside within) within.kept others.kept;
      compiled_as = compiled_more;
    }

  pub one_more : (k : ℕ) (l : k < length order) (h : Heading) (inside after : Forest) (hs : List Heading) (row : List ℕ) → h.key ≡ key_at (slice_index order k) → Holds inside (headings_in (the_module k l h)) (targets joined.modules.items (slice_index order k)) → Holds after hs row
      → Holds (Tree (the_module k l h) inside after) (h ∷ hs) (slice_index order k ∷ row)
  one_more k l h inside after hs row e a b free = held_more k l h inside after hs row e a b free

  -- each module is compiled to the justfile at its place
  pub forest_at : (k : ℕ) (l : k < length order) (h : Heading) → h.key ≡ key_at (slice_index order k) → TreeAt given.syntax.enabled entries d files placed rows are paths joined order below joins lists_first Holds no_more one_more k l h
  forest_at = tree_at given.syntax.enabled entries d files placed rows are paths joined order below joins lists_first Holds no_more one_more

  -- those in a module at a place, up to the next one that is compiled
  pub inside_held : (k : ℕ) (l : k < length order) (up : k < bound + 1) (h : Heading) (e : h.key ≡ key_at (slice_index order k)) → Held (forest_at k l h e).inside (headings_in (the_module k l h)) (targets joined.modules.items (slice_index order k))
  inside_held k l up h e = (forest_at k l h e).holds (λ q i. let x = in_take order k q (omega (arith, l)) (lists_first k q l (contained q (targets joined.modules.items (slice_index order k)) i)) in (x.0, omega (arith, x.1, up), x.2))

  -- so is the module of a heading itself
  pub tree_held : (k : ℕ) (l : k < length order) (b : k < bound) (h : Heading) (e : h.key ≡ key_at (slice_index order k)) → Held (Tree (the_module k l h) (forest_at k l h e).inside Empty) (h ∷ []) (slice_index order k ∷ [])
  tree_held k l b h e = one_more k l h (forest_at k l h e).inside Empty [] [] e (forest_at k l h e).holds no_more (λ q i. elim i [ inl same ↦ (k, b, sym same) | inr wrong ↦ absurd wrong ])

  -- what the next module breaks over those that are compiled is named
  pub names_next : (root : Heading) (l : bound < length order) (h : Heading) (e : h.key ≡ key_at (slice_index order bound)) → IsHeading (reading_of given.syntax.enabled asts) root h
      → (slots : List (Option Justfile)) → map Some (map justfile (targets joined.modules.items (slice_index order bound))) ≡ map (slot slots) (targets joined.modules.items (slice_index order bound))
      → (c : Cause) → BreaksOver given files joined (slice_index order bound) slots (made_before made order bound) c → BreaksModules told_in given (reading_of given.syntax.enabled asts) root c
  names_next root l h e reached slots there c broken =
      let held = inside_held bound l (omega arith) h e in
      let row = targets joined.modules.items (slice_index order bound) in
      names_over given entries d files placed rows are paths joined order below joins lists_first loaded many differ bound l h e (forest_at bound l h e).inside held.are_modules built (map justfile row) (length-map row justfile) held.compiled_as
      root reached held.kept (made_before made order bound) all_built (inner_settled_at given files joined loaded order lists_first made justfile bound (omega (arith, small)) compiled bound (omega arith) l) slots there c broken

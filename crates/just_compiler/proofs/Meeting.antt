-- The module at a place, over the justfiles of the modules in it.
use Rattle.just_module_headers.proofs.Alike.{kept_alike, breaks_alike}
use Rattle.std.proofs.Common.{◌≡◌, ◌<◌, ℕ, List, [], ◌∷◌, ◌++◌, map, length, get_or, slice_index, Option, None, Some, refl, sym, ap, subst, ◌∙◌, inl, inr, arith}
use Rattle.std.specs.Prelude.{flat_map, slice_get, is_some}
use Rattle.std.specs.List.{Contains, list_any}
use Rattle.std.specs.Map.{keys_of, lookup}
use Rattle.std.proofs.lemmas.List.{length-map, append-nil}
use Rattle.just_graph.specs.Graph.{HasEdge, targets}
use Rattle.just_graph.specs.Steps.{ListsStepsFirst}
use Rattle.just_graph.proofs.Members.{In}
use Rattle.just_parts.specs.Asts.{AstKey, same_ast_key}
use Rattle.just_names.specs.Texts.{Text}
use Rattle.just_parts.specs.Items.{Ast, Item}
use Rattle.just_justfile.specs.declared.justfile.Justfile.{Justfile, out-Justfile, out-roll-Justfile}
use Rattle.just_module_headers.specs.Files.{ArePlaced, AreRows, asts_in}
use Rattle.just_module_headers.specs.Joined.{IsJoined}
use Rattle.just_compiled.specs.Labelled.{with_labels, by_name, slot}
use Rattle.just_compiled.specs.Justfiles.{AreCompiled, Built, contents_read, notes_said, recipes_in_files, recipes_of_all}
use Rattle.just_module_assembly.specs.Noted.{notes_from}
use Rattle.just_module_assembly.specs.loops.Noted.{notes_of_place}
use Rattle.just_module_tree.specs.Modules.{Forest, Heading, Module, headings_in, AreModules, IsHeading, IsModule, a_module, contents_of, heading_of, no_module}
use Rattle.just_module_contents.specs.Constants.{Evaluated}
use Rattle.just_module_contents.specs.Contents.{Contents}
use Rattle.just_module_contents.specs.Named.{alias_by, contents_from, function_by, lists_by, name_by, naming_by, said_from, recipes_by, recipes_from, set_by, unexported_by, variable_by}
use Rattle.just_module_contents.specs.Said.{said_in}
use Rattle.just_module_contents.specs.Recipes.{recipes_of}
use Rattle.just_module_headers.specs.Reading.{Submodule, items_in, Reading, reading_of}
use Rattle.just_module_headers.specs.loops.OfPlaces.{contents_of_place, labels_of_place}
use Rattle.just_compiler.specs.loops.Steps.{BreaksOver, names_of_labels}
use Rattle.just_module_headers.specs.declared.files.Files.{Files}
use Rattle.just_module_contents.specs.declared.labels.Label.{Label}
use Rattle.just_module_contents.specs.declared.notes.Notes.{Notes}
use Rattle.just_module_contents.specs.Notes.{absent_by, features_by, notes_of, warnings_by}
use Rattle.just_module_headers.specs.declared.files.Rows.{Rows}
use Rattle.just_module_headers.specs.declared.join.Joined.{Joined}
use Rattle.just_module_headers.proofs.FilePlaces.{says}
use Rattle.just_module_tree.proofs.ModulePlaces.{file_inside, module_of, inner_keys, is_module}
use Rattle.just_module_tree.proofs.Ready.{labels_are}
use Rattle.just_parts.specs.Layers.{Given, Layers, layers_at}
use Rattle.just_module_contents.specs.Labels.{doc_by}
use Rattle.just_names.specs.Index.{AreDifferent}
use Rattle.just_module_recipes.specs.Links.{Around, around_recipes}
use Rattle.just_module_recipes.specs.loops.Links.{links_by, told_by}
use Rattle.just_module_contents.specs.Groups.{BreaksContents, Group}
use Rattle.just_errors.specs.Causes.{Cause}
use Rattle.just_recipe.specs.declared.dependency.Dependency.{Dependency}
use Rattle.just_compiled.specs.loops.Settled.{IsSettled}
use Rattle.just_module_tree.specs.Groups.{KeepsModules, BreaksModules, in_module, HasGround}
use Rattle.just_compiled.proofs.Agreeing.{Meets}
use Rattle.just_recipe.specs.declared.recipe.Recipe.{Recipe}
use Rattle.just_compiled.proofs.NamedModules.{absent_told}
use Rattle.just_compiler.proofs.Keeping.{alike_at, layers_there}
use Rattle.just_compiled.proofs.Settling.{around_settled}
use Rattle.std.specs.Str.{bytes_eq}
use Rattle.just_table.specs.Entries.{find}
use Rattle.just_compiled.proofs.Saying.{forest_says, module_says}
use Rattle.just_compiled.proofs.Bridges.{links_back, told_on}
use Rattle.just_module_tree.specs.Standing.{links_in, told_in}
use Rattle.just_justfile.specs.Module.{module_name}
use Rattle.just_module_tree.proofs.ModulePaths.{subs_at}
use Rattle.just_names.specs.Name.{text_if_named}

keys_said : (ms : List Submodule) → map (λ (h : Heading). h.key) (map heading_of ms) ≡ map (λ (s : Submodule). s.key) ms
keys_said [] = refl
keys_said (s ∷ ms) = ap (λ ks. s.key ∷ ks) (keys_said ms)

no_headings : (hs : List Heading) → map (λ (h : Heading). h.key) hs ≡ [] → hs ≡ []
no_headings [] e = refl
no_headings (h ∷ hs) e = cc

-- the names of justfiles under labels
names_labelled : (js : List Justfile) (labels : List Label) → length labels ≡ length js → map module_name (with_labels js labels) ≡ map text_if_named (names_of_labels labels)
names_labelled [] [] e = refl
names_labelled [] (l ∷ labels) e = absurd (omega (arith, e))
names_labelled (j ∷ js) [] e = absurd (omega (arith, e))
names_labelled (j ∷ js) (l ∷ labels) e =
    let out = out-roll-Justfile (record (out-Justfile j) { name = l.name; doc = l.doc; groups = l.groups; private = l.private }) in
    λ i. text_if_named (out i).name ∷ names_labelled js labels (omega (arith, e)) i

-- the names of headings are those of the labels that are said
names_said : (ms : List Submodule) → map (λ (h : Heading). h.label.name) (map heading_of ms) ≡ names_of_labels (map (λ (s : Submodule). s.label) ms)
names_said [] = refl
names_said (s ∷ ms) = λ i. s.label.name ∷ names_said ms i

texts_said : (ms : List Submodule) → map text_if_named (names_of_labels (map (λ (s : Submodule). s.label) ms)) ≡ map (λ (s : Submodule). text_if_named s.label.name) ms
texts_said [] = refl
texts_said (s ∷ ms) = λ i. text_if_named s.label.name ∷ texts_said ms i

module _ (given : Given) (entries : List (AstKey × Ast)) (d : AstKey) (files : Files) (placed : ArePlaced entries files) (rows : Rows) (are : AreRows given.syntax.enabled files rows)
    (paths : (k : AstKey) (a : Ast) → lookup (same_ast_key k) entries ≡ Some a → a.module_path ≡ k.0) (joined : Joined)
    (order : List ℕ) (below : (k : ℕ) → k < length order → slice_index order k < length (keys_of entries)) (joins : (k : ℕ) → k < length order → IsJoined rows joined (slice_index order k))
    (lists_first : ListsStepsFirst (HasEdge joined.modules.items) order) (loaded : List Text)
    (many : (k : ℕ) → k < length order → length (labels_of_place given.syntax.enabled files joined (slice_index order k)) ≡ length (targets joined.modules.items (slice_index order k)))
    (differ : (k : ℕ) → k < length order → AreDifferent (map (λ (s : Submodule). text_if_named s.label.name) (subs_at given.syntax.enabled entries d files placed rows are paths joined (slice_index order k)))) where
  abbrev asts : AstKey → Option Ast
  asts k = lookup (same_ast_key k) entries

  abbrev n : ℕ
  n = length (keys_of entries)

  abbrev key_at : ℕ → AstKey
  key_at p = get_or (keys_of entries) p d

  abbrev R : Reading
  R = reading_of given.syntax.enabled asts

  abbrev the_module : (k : ℕ) → k < length order → Heading → Module
  the_module = module_of given.syntax.enabled entries d files placed rows are paths joined order below joins lists_first

  -- what is read of files, by their keys
  by_keys : {A : Type 0} (by : Option Ast → List A) (xs : List ℕ) → ((q : ℕ) → In q xs → q < n) → flat_map (λ p. by (slice_get (asts_in files) p)) xs ≡ flat_map (λ k. by (asts k)) (map key_at xs)
  by_keys by [] inside = refl
  by_keys by (q ∷ xs) inside =
      let s = says given.syntax.enabled entries d files placed rows are paths q (inside q (inl refl)) in
      λ i. by ((s.listed ∙ sym s.said) i) ++ by_keys by xs (λ r h. inside r (inr h)) i

  recipes_here : (o : Option Ast) → recipes_by given.syntax.enabled o ≡ recipes_of given.syntax.enabled (items_in o)
  recipes_here None = refl
  recipes_here (Some ast) = refl

  pub recipes_same : (xs : List ℕ) → ((q : ℕ) → In q xs → q < n) → recipes_from given.syntax.enabled (asts_in files) xs ≡ recipes_in_files given.syntax.enabled asts (map key_at xs)
  recipes_same xs inside = by_keys (recipes_by given.syntax.enabled) xs inside ∙ (λ i. flat_map (λ k. recipes_here (asts k) i) (map key_at xs))

  said_at : {A : Type 0} (by : Item → List A) (xs : List ℕ) → ((q : ℕ) → In q xs → q < n) → said_from by given.syntax.enabled (asts_in files) xs ≡ flat_map (λ k. said_in by given.syntax.enabled (asts k)) (map key_at xs)
  said_at by = by_keys (said_in by given.syntax.enabled)

  pub notes_same : (xs : List ℕ) → ((q : ℕ) → In q xs → q < n) → notes_from given.syntax.enabled (asts_in files) xs ≡ notes_said given.syntax.enabled asts (map key_at xs)
  notes_same xs inside = λ i. notes_of (said_at absent_by xs inside i) (by_keys features_by xs inside i) (by_keys warnings_by xs inside i)

  pub contents_same : (xs : List ℕ) → ((q : ℕ) → In q xs → q < n) → contents_from given.syntax.enabled (asts_in files) xs ≡ contents_read given.syntax.enabled asts (map key_at xs)
  contents_same xs inside = λ i. record {
    recipes = recipes_same xs inside i;
    functions = said_at function_by xs inside i;
    variables = said_at variable_by xs inside i;
    aliases = said_at alias_by xs inside i;
    modules = said_at name_by xs inside i;
    named = said_at naming_by xs inside i;
    docs = said_at doc_by xs inside i;
    unexports = said_at unexported_by xs inside i;
    sets = said_at set_by xs inside i;
    lists = by_keys lists_by xs inside i;
  }

  module _ (k : ℕ) (l : k < length order) (h : Heading) (e : h.key ≡ key_at (slice_index order k)) where
    abbrev p : ℕ
    p = slice_index order k

    abbrev m : Module
    m = the_module k l h

    files_here : (q : ℕ) → In q (targets joined.files.items p) → q < n
    files_here = file_inside given.syntax.enabled entries d files placed rows are paths joined p (below k l) (joins k l)

    pub labels_there : labels_of_place given.syntax.enabled files joined p ≡ map (λ (s : Submodule). s.label) m.modules
    labels_there = labels_are given.syntax.enabled entries d files placed rows are paths joined (targets joined.files.items p) files_here

    pub is_here : IsModule R h m
    is_here = is_module given.syntax.enabled entries d files placed rows are paths joined p (below k l) (joins k l) h e

    -- over the justfiles of the modules in it, under labels with the names of their declarations
    module _ (inside : Forest) (modules_are : AreModules R (headings_in m) inside) (built : List Built) (js : List Justfile) (as_many : length js ≡ length (targets joined.modules.items p))
        (compiled : (labels : List Label) → names_of_labels labels ≡ map (λ (g : Heading). g.label.name) (headings_in m) → AreCompiled given asts loaded built inside (with_labels js labels)) where
      module _ (labels : List Label) (named : names_of_labels labels ≡ names_of_labels (labels_of_place given.syntax.enabled files joined p)) where
        pub heads_named : names_of_labels labels ≡ map (λ (g : Heading). g.label.name) (headings_in m)
        heads_named = named ∙ ap names_of_labels labels_there ∙ sym (names_said m.modules)

        as_long : length labels ≡ length js
        as_long = sym (length-map labels (λ (x : Label). x.name)) ∙ ap length named ∙ length-map (labels_of_place given.syntax.enabled files joined p) (λ (x : Label). x.name) ∙ many k l ∙ sym as_many

        pub inner_differ : AreDifferent (map module_name (with_labels js labels))
        inner_differ = subst AreDifferent (sym (names_labelled js labels as_long ∙ ap (map text_if_named) (heads_named ∙ names_said m.modules) ∙ texts_said m.modules)) (differ k l)

        pub meets_at : (it : Around) (rest : List (Recipe Dependency)) → recipes_of_all built ≡ it.held ++ rest → it.absent ≡ (notes_of_place given.syntax.enabled files joined p).absent_modules
            → it.modules ≡ by_name (with_labels js labels) → Meets given asts loaded built m inside it
        meets_at it rest all absent modules =
            let says = module_says given asts h m is_here in
            record {
              inner = with_labels js labels;
              compiled = compiled labels heads_named;
              modules = modules;
              different = inner_differ;
              rest = rest;
              held = all;
              absent = λ name. ap (λ t. is_some (find name t)) (absent ∙ ap (λ (x : Notes). x.absent_modules) (notes_same (targets joined.files.items p) files_here))
                  ∙ absent_told name (flat_map (λ f. said_in absent_by given.syntax.enabled (asts f)) m.files) ∙ ap (list_any (λ absent. bytes_eq absent name)) says.absent;
              says = says;
              inner_says = forest_says given asts modules_are;
            }

      -- what it breaks over them is named
      module _ (root : Heading) (reached : IsHeading R root h) (kept_inside : KeepsModules given inside) (held : List (Recipe Dependency)) (all : recipes_of_all built ≡ held)
          (settled : (labels : List Label) (x : Justfile) → Contains (by_name (with_labels js labels)) x → IsSettled held x) where
        pub names_over : (slots : List (Option Justfile)) → map Some js ≡ map (slot slots) (targets joined.modules.items p) → (c : Cause) → BreaksOver given files joined p slots held c → BreaksModules told_in given R root c
        names_over slots there c broken =
            let it = around_recipes (notes_of_place given.syntax.enabled files joined p).absent_modules (by_name (with_labels js broken.labels)) held in
            let ms = contents_of_place given.syntax.enabled files joined p in
            let meets = meets_at broken.labels broken.named it [] (all ∙ sym (append-nil held)) refl refl in
            let cs : ms ≡ contents_read given.syntax.enabled asts m.files = contents_same (targets joined.files.items p) files_here in
            let alike = alike_at given entries d files placed rows are paths joined order below joins lists_first k l h in
            let b : BreaksContents (layers_at given h.key.0) (links_by ms it) (told_by ms it) (contents_of_place given.syntax.enabled files joined p) c =
            subst (λ (x : Layers). BreaksContents x (links_by ms it) (told_by ms it) (contents_of_place given.syntax.enabled files joined p) c) (layers_there given entries d files placed rows are paths joined order below joins lists_first k l h e) (broken.broken js there) in
            let are_settled = around_settled held it.absent it.modules (settled broken.labels) in
            let here = layers_at given h.key.0 in
            let on : (e : Evaluated) (g : Group) (x : Cause) → told_by ms it here e g x → told_in m inside here e g x = λ e g x r.
            told_on given asts loaded built m inside it meets here e g x (subst (λ (n : Contents). told_by n it here e g x) cs r) in
            let back : (e : Evaluated) (g : Group) (x : Cause) → links_in m inside here e g x → links_by ms it here e g x = λ e g x r.
            subst (λ (n : Contents). links_by n it here e g x) (sym cs) (links_back given asts loaded built m inside it meets are_settled here e g x r) in
            let ground : HasGround given b.group m inside = record {
              earlier = λ f lt. kept_alike (layers_at given h.key.0) (links_by ms it) (links_in m inside) (contents_of_place given.syntax.enabled files joined p) (contents_of m) alike back f (b.earlier f lt);
              below = λ ne. kept_inside;
            } in
            in_module b.group reached (a_module is_here modules_are no_module) ground
            (breaks_alike (layers_at given h.key.0) (contents_of_place given.syntax.enabled files joined p) (contents_of m) alike (told_by ms it) (told_in m inside) on b.group c b.broken)

    -- a module with no modules in it
    pub none_inside : targets joined.modules.items p ≡ [] → headings_in m ≡ []
    none_inside nothing = no_headings (headings_in m) (keys_said m.modules ∙ inner_keys given.syntax.enabled entries d files placed rows are paths joined p (below k l) (joins k l) ∙ ap (map key_at) nothing)

-- The modules that are reached can be compiled.
use Rattle.std.proofs.Common.{◌≡◌, ◌<◌, ℕ, Bool, true, false, cond, List, [], ◌∷◌, ◌++◌, map, length, get_or, Some, None, refl, sym, ap, subst, ◌∙◌, arith, inl, inr}
use Rattle.std.specs.Prelude.{flat_map, slice_get, if◌then◌else◌}
use Rattle.std.specs.List.{Contains}
use Rattle.std.specs.Map.{keys_of, lookup}
use Rattle.std.specs.Option.{option_map, unwrap_or}
use Rattle.std.proofs.lemmas.Bool.{cases_lt}
use Rattle.std.proofs.lemmas.Grind.{flat_map-append}
use Rattle.std.proofs.lemmas.List.{map-append, map-id}
use Rattle.just_graph.specs.Building.{targets_past}
use Rattle.just_graph.specs.Graph.{HasEdge, targets}
use Rattle.just_graph.specs.Steps.{Reached, from_member, from_start}
use Rattle.just_graph.proofs.Members.{In, contained, from_flat, is_in}
use Rattle.just_parts.specs.Asts.{AstKey, same_ast_key}
use Rattle.just_parts.specs.Bare.{bare_function, bare_item}
use Rattle.just_parts.specs.Located.{located_assignment, located_item}
use Rattle.just_parts.specs.Items.{Ast, Item}
use Rattle.just_parts.proofs.Barer.{bare_parameters}
use Rattle.just_ast_items.specs.declared.item.Item.TheVariants as item
use Rattle.just_recipe.specs.declared.dependency.UnresolvedDependency.{UnresolvedDependency}
use Rattle.just_names.specs.declared.name.Name.{Name}
use Rattle.just_paths.specs.declared.modulepath.Modulepath.{Modulepath}
use Rattle.just_recipe.specs.declared.recipe.Recipe.{Recipe}
use Rattle.just_ast_definitions.specs.declared.function_definition.FunctionDefinition.{FunctionDefinition}
use Rattle.just_module_headers.specs.Files.{ArePlaced, AreRows, asts_in}
use Rattle.just_module_headers.specs.Joined.{AreJoined, IsJoined}
use Rattle.just_module_contents.specs.Named.{alias_by, function_by, lists_by, lists_from, name_by, naming_by, said_from, recipes_by, recipes_from, set_by, unexported_by, variable_by}
use Rattle.just_module_contents.specs.Labels.{doc_by, label_by}
use Rattle.just_module_contents.specs.declared.labels.Label.{Label}
use Rattle.just_module_contents.specs.Said.{said, said_in}
use Rattle.just_module_contents.specs.Recipes.{recipes_of, recipes_said}
use Rattle.just_module_headers.specs.Reading.{Reading, Submodule, declared, enabled_items, items_in, located_ast, reading_of, submodules_of}
use Rattle.just_module_headers.specs.declared.files.Files.{Files}
use Rattle.just_module_headers.specs.declared.files.Rows.{Rows}
use Rattle.just_module_headers.specs.declared.join.Joined.{Joined}
use Rattle.just_module_headers.proofs.Alike.{AreAlike, outline_of, outlines_of}
use Rattle.just_module_headers.proofs.BareOutlines.{outline_located}
use Rattle.just_module_headers.proofs.FilePlaces.{are_graphs, says}
use Rattle.just_module_tree.specs.Modules.{items_of}
use Rattle.just_module_tree.proofs.ModulePlaces.{no_ast}

abbrev name_of : Submodule → Name
name_of s = s.name

abbrev label_of : Submodule → Label
label_of s = s.label

-- the name and the label of the module that a located item declares
name_located : (path : Modulepath) (i : Item) → map name_of (declared path (located_item i)) ≡ name_by i
name_located path (item.Module name relative None attributes doc optional) = refl
name_located path (item.Module name relative (Some file) attributes doc optional) = refl
name_located path _ = refl

label_located : (path : Modulepath) (i : Item) → map label_of (declared path (located_item i)) ≡ label_by i
label_located path (item.Module name relative None attributes doc optional) = refl
label_located path (item.Module name relative (Some file) attributes doc optional) = refl
label_located path _ = refl

-- what is read of declared modules is said by their items
module _ {A : Type 0} (of : Submodule → A) (by : Item → List A) (enabled : Item → Bool) (path : Modulepath) (located : (i : Item) → map of (declared path (located_item i)) ≡ by i) where
  one_declared : (b : Bool) (i : Item) (items : List Item)
      → map of (flat_map (declared path) (map located_item (cond b (i ∷ enabled_items enabled items) (enabled_items enabled items)))) ≡ cond b (by i) [] ++ map of (flat_map (declared path) (map located_item (enabled_items enabled items)))
  one_declared true i items = map-append of (declared path (located_item i)) (flat_map (declared path) (map located_item (enabled_items enabled items))) ∙ ap (λ ns. ns ++ map of (flat_map (declared path) (map located_item (enabled_items enabled items)))) (located i)
  one_declared false i items = refl

  declared_counted : (items : List Item) → map of (flat_map (declared path) (map located_item (enabled_items enabled items))) ≡ said by enabled items
  declared_counted [] = refl
  declared_counted (i ∷ items) = one_declared (enabled (bare_item i)) i items ∙ ap (λ ns. cond (enabled (bare_item i)) (by i) [] ++ ns) (declared_counted items)

-- what is read of a located item
unexport_located : (i : Item) → unexported_by (located_item i) ≡ unexported_by i
unexport_located (item.Unexport name) = refl
unexport_located _ = refl

pub alias_located : (i : Item) → alias_by (located_item i) ≡ alias_by i
alias_located (item.Alias a) = refl
alias_located _ = refl

naming_located : (i : Item) → naming_by (located_item i) ≡ naming_by i
naming_located (item.Module name relative None attributes doc optional) = refl
naming_located (item.Module name relative (Some file) attributes doc optional) = refl
naming_located (item.Alias a) = refl
naming_located _ = refl

doc_located : (i : Item) → doc_by (located_item i) ≡ doc_by i
doc_located (item.Module name relative None attributes doc optional) = refl
doc_located (item.Module name relative (Some file) attributes doc optional) = refl
doc_located _ = refl

set_located : (i : Item) → set_by (located_item i) ≡ set_by i
set_located (item.Setting s) = refl
set_located _ = refl

-- a function without numbers has none to lose
function_bare : (f : FunctionDefinition) → bare_function (bare_function f) ≡ bare_function f
function_bare f = λ i. record f { parameters = bare_parameters f.parameters i }

pub function_located : (i : Item) → map bare_function (function_by (located_item i)) ≡ map bare_function (function_by i)
function_located (item.Function f) = ap (λ (g : FunctionDefinition). g ∷ []) (function_bare f)
function_located _ = refl

pub variable_located : (i : Item) → map located_assignment (variable_by (located_item i)) ≡ map located_assignment (variable_by i)
variable_located (item.Assignment a) = refl
variable_located _ = refl

module _ {A B : Type 0} (by : Item → List A) (f : A → B) (located : (i : Item) → map f (by (located_item i)) ≡ map f (by i)) (enabled : Item → Bool) where
  one_said : (b : Bool) (i : Item) (items : List Item)
      → map f (flat_map by (map located_item (cond b (i ∷ enabled_items enabled items) (enabled_items enabled items)))) ≡ map f (cond b (by i) []) ++ map f (flat_map by (map located_item (enabled_items enabled items)))
  one_said true i items = map-append f (by (located_item i)) (flat_map by (map located_item (enabled_items enabled items))) ∙ ap (λ ys. ys ++ map f (flat_map by (map located_item (enabled_items enabled items)))) (located i)
  one_said false i items = refl

  -- what located items say is what the enabled ones of the text say
  pub said_counted : (items : List Item) → map f (flat_map by (map located_item (enabled_items enabled items))) ≡ map f (said by enabled items)
  said_counted [] = refl
  said_counted (i ∷ items) =
      one_said (enabled (bare_item i)) i items ∙ ap (λ ys. map f (cond (enabled (bare_item i)) (by i) []) ++ ys) (said_counted items)
      ∙ sym (map-append f (cond (enabled (bare_item i)) (by i) []) (said by enabled items))

-- the recipes of located items
module _ (enabled : Item → Bool) where
  one_recipe : (b : Bool) (r : Recipe UnresolvedDependency) (items : List Item) → AreAlike (recipes_of enabled items) (recipes_said (map located_item (enabled_items enabled items)))
      → AreAlike (if b then r ∷ recipes_of enabled items else recipes_of enabled items) (recipes_said (map located_item (cond b (item.Recipe r ∷ enabled_items enabled items) (enabled_items enabled items))))
  one_recipe true r items e = λ i. sym (outline_located r) i ∷ e i
  one_recipe false r items e = e

  no_recipe : (b : Bool) (i : Item) (items : List Item) → recipes_said (map located_item (i ∷ [])) ≡ [] → recipes_said (map located_item (cond b (i ∷ enabled_items enabled items) (enabled_items enabled items))) ≡ recipes_said (map located_item (enabled_items enabled items))
  no_recipe true (item.Recipe r) items e = cc
  no_recipe true _ items e = refl
  no_recipe false i items e = refl

  -- their recipes are alike
  pub recipes_counted : (items : List Item) → AreAlike (recipes_of enabled items) (recipes_said (map located_item (enabled_items enabled items)))
  recipes_counted [] = refl
  recipes_counted (item.Recipe r ∷ items) = one_recipe (enabled (bare_item (item.Recipe r))) r items (recipes_counted items)
  recipes_counted (i ∷ items) = recipes_counted items ∙ ap outlines_of (sym (no_recipe (enabled (bare_item i)) i items refl))

  pub said_append : (xs ys : List Item) → recipes_said (xs ++ ys) ≡ recipes_said xs ++ recipes_said ys
  said_append [] ys = refl
  said_append (item.Recipe r ∷ xs) ys = ap (λ (rs : List (Recipe UnresolvedDependency)). r ∷ rs) (said_append xs ys)
  said_append (_ ∷ xs) ys = said_append xs ys

module _ (enabled : Item → Bool) (entries : List (AstKey × Ast)) (d : AstKey) (files : Files) (placed : ArePlaced entries files) (rows : Rows) (are : AreRows enabled files rows)
    (paths : (k : AstKey) (a : Ast) → lookup (same_ast_key k) entries ≡ Some a → a.module_path ≡ k.0) (joined : Joined) where
  abbrev R : Reading
  R = reading_of enabled (λ k. lookup (same_ast_key k) entries)

  abbrev n : ℕ
  n = length (keys_of entries)

  abbrev key_at : ℕ → AstKey
  key_at p = get_or (keys_of entries) p d

  module _ {A : Type 0} (of : Submodule → A) (by : Item → List A) (located : (path : Modulepath) (i : Item) → map of (declared path (located_item i)) ≡ by i) where
    declared_here : (q : ℕ) → q < n → said_in by enabled (slice_get (asts_in files) q) ≡ map of (submodules_of R (key_at q))
    declared_here q h =
        let s = says enabled entries d files placed rows are paths q h in
        ap (said_in by enabled) s.listed ∙ sym (declared_counted of by enabled (key_at q).0 (located (key_at q).0) s.ast.items)
        ∙ ap (λ o. map of (flat_map (declared (key_at q).0) (items_in (option_map (located_ast enabled) o)))) (sym s.said)

    declared_are : (xs : List ℕ) → ((q : ℕ) → In q xs → q < n) → said_from by enabled (asts_in files) xs ≡ map of (flat_map (submodules_of R) (map key_at xs))
    declared_are [] inside = refl
    declared_are (q ∷ xs) inside =
        (λ i. declared_here q (inside q (inl refl)) i ++ declared_are xs (λ r h. inside r (inr h)) i) ∙ sym (map-append of (submodules_of R (key_at q)) (flat_map (submodules_of R) (map key_at xs)))

  -- the names of the modules in a module, and their labels
  pub names_are : (xs : List ℕ) → ((q : ℕ) → In q xs → q < n) → said_from name_by enabled (asts_in files) xs ≡ map name_of (flat_map (submodules_of R) (map key_at xs))
  names_are = declared_are name_of name_by name_located

  pub labels_are : (xs : List ℕ) → ((q : ℕ) → In q xs → q < n) → said_from label_by enabled (asts_in files) xs ≡ map label_of (flat_map (submodules_of R) (map key_at xs))
  labels_are = declared_are label_of label_by label_located

  recipes_here : (q : ℕ) → q < n → AreAlike (recipes_by enabled (slice_get (asts_in files) q)) (recipes_said (unwrap_or (R (key_at q)) no_ast).items)
  recipes_here q h =
      let s = says enabled entries d files placed rows are paths q h in
      ap (λ o. outlines_of (recipes_by enabled o)) s.listed ∙ recipes_counted enabled s.ast.items
      ∙ ap (λ o. outlines_of (recipes_said (unwrap_or (option_map (located_ast enabled) o) no_ast).items)) (sym s.said)

  -- the recipes of a module are alike with and without their numbers
  pub recipes_are : (xs : List ℕ) → ((q : ℕ) → In q xs → q < n)
      → AreAlike (recipes_from enabled (asts_in files) xs) (recipes_said (flat_map (λ (ast : Ast). ast.items) (map (λ k. unwrap_or (R k) no_ast) (map key_at xs))))
  recipes_are [] inside = refl
  recipes_are (q ∷ xs) inside =
      let rest = flat_map (λ (ast : Ast). ast.items) (map (λ k. unwrap_or (R k) no_ast) (map key_at xs)) in
      map-append outline_of (recipes_by enabled (slice_get (asts_in files) q)) (recipes_from enabled (asts_in files) xs)
      ∙ (λ i. recipes_here q (inside q (inl refl)) i ++ recipes_are xs (λ r h. inside r (inr h)) i)
      ∙ sym (ap outlines_of (said_append enabled (unwrap_or (R (key_at q)) no_ast).items rest) ∙ map-append outline_of (recipes_said (unwrap_or (R (key_at q)) no_ast).items) (recipes_said rest))

  module _ {A B : Type 0} (by : Item → List A) (f : A → B) (located : (i : Item) → map f (by (located_item i)) ≡ map f (by i)) where
    said_here : (q : ℕ) → q < n → map f (said_in by enabled (slice_get (asts_in files) q)) ≡ map f (flat_map by (unwrap_or (R (key_at q)) no_ast).items)
    said_here q h =
        let s = says enabled entries d files placed rows are paths q h in
        ap (λ o. map f (said_in by enabled o)) s.listed ∙ sym (said_counted by f located enabled s.ast.items)
        ∙ ap (λ o. map f (flat_map by (unwrap_or (option_map (located_ast enabled) o) no_ast).items)) (sym s.said)

    -- what the files of a module say
    said_are : (xs : List ℕ) → ((q : ℕ) → In q xs → q < n) → map f (said_from by enabled (asts_in files) xs) ≡ map f (flat_map by (items_of (map (λ k. unwrap_or (R k) no_ast) (map key_at xs))))
    said_are [] inside = refl
    said_are (q ∷ xs) inside =
        let rest = items_of (map (λ k. unwrap_or (R k) no_ast) (map key_at xs)) in
        map-append f (said_in by enabled (slice_get (asts_in files) q)) (said_from by enabled (asts_in files) xs)
        ∙ (λ i. said_here q (inside q (inl refl)) i ++ said_are xs (λ r h. inside r (inr h)) i)
        ∙ sym (ap (map f) (flat_map-append by (unwrap_or (R (key_at q)) no_ast).items rest) ∙ map-append f (flat_map by (unwrap_or (R (key_at q)) no_ast).items) (flat_map by rest))

  module _ {A : Type 0} (by : Item → List A) (located : (i : Item) → by (located_item i) ≡ by i) where
    -- what has no numbers
    same_are : (xs : List ℕ) → ((q : ℕ) → In q xs → q < n) → said_from by enabled (asts_in files) xs ≡ flat_map by (items_of (map (λ k. unwrap_or (R k) no_ast) (map key_at xs)))
    same_are xs inside =
        sym (map-id (said_from by enabled (asts_in files) xs)) ∙ said_are by (λ n. n) (λ i. ap (map (λ n. n)) (located i)) xs inside ∙ map-id (flat_map by (items_of (map (λ k. unwrap_or (R k) no_ast) (map key_at xs))))

  -- its aliases, and what is defined in it under names beside recipes
  pub aliases_are : (xs : List ℕ) → ((q : ℕ) → In q xs → q < n) → said_from alias_by enabled (asts_in files) xs ≡ flat_map alias_by (items_of (map (λ k. unwrap_or (R k) no_ast) (map key_at xs)))
  aliases_are = same_are alias_by alias_located

  pub namings_are : (xs : List ℕ) → ((q : ℕ) → In q xs → q < n) → said_from naming_by enabled (asts_in files) xs ≡ flat_map naming_by (items_of (map (λ k. unwrap_or (R k) no_ast) (map key_at xs)))
  namings_are = same_are naming_by naming_located

  -- what a module unexports
  pub unexports_are : (xs : List ℕ) → ((q : ℕ) → In q xs → q < n) → said_from unexported_by enabled (asts_in files) xs ≡ flat_map unexported_by (items_of (map (λ k. unwrap_or (R k) no_ast) (map key_at xs)))
  unexports_are = same_are unexported_by unexport_located

  -- what the docs of its modules are evaluated from
  pub docs_are : (xs : List ℕ) → ((q : ℕ) → In q xs → q < n) → said_from doc_by enabled (asts_in files) xs ≡ flat_map doc_by (items_of (map (λ k. unwrap_or (R k) no_ast) (map key_at xs)))
  docs_are = same_are doc_by doc_located

  -- what it sets
  pub sets_are : (xs : List ℕ) → ((q : ℕ) → In q xs → q < n) → said_from set_by enabled (asts_in files) xs ≡ flat_map set_by (items_of (map (λ k. unwrap_or (R k) no_ast) (map key_at xs)))
  sets_are = same_are set_by set_located

  -- its functions, without numbers
  pub functions_are : (xs : List ℕ) → ((q : ℕ) → In q xs → q < n) → map bare_function (said_from function_by enabled (asts_in files) xs) ≡ map bare_function (flat_map function_by (items_of (map (λ k. unwrap_or (R k) no_ast) (map key_at xs))))
  functions_are xs inside = said_are function_by bare_function function_located xs inside

  -- its variables, without numbers
  pub variables_are : (xs : List ℕ) → ((q : ℕ) → In q xs → q < n) → map located_assignment (said_from variable_by enabled (asts_in files) xs) ≡ map located_assignment (flat_map variable_by (items_of (map (λ k. unwrap_or (R k) no_ast) (map key_at xs))))
  variables_are xs inside = said_are variable_by located_assignment variable_located xs inside

  -- where it needs lists
  pub lists_are : (xs : List ℕ) → ((q : ℕ) → In q xs → q < n) → lists_from (asts_in files) xs ≡ flat_map (λ (ast : Ast). ast.list_features) (map (λ k. unwrap_or (R k) no_ast) (map key_at xs))
  lists_are [] inside = refl
  lists_are (q ∷ xs) inside =
      let s = says enabled entries d files placed rows are paths q (inside q (inl refl)) in
      let here : lists_by (slice_get (asts_in files) q) ≡ (unwrap_or (R (key_at q)) no_ast).list_features = ap lists_by s.listed ∙ ap (λ o. (unwrap_or (option_map (located_ast enabled) o) no_ast).list_features) (sym s.said) in
      λ i. here i ++ lists_are xs (λ r h. inside r (inr h)) i

  module _ (aj : AreJoined rows n joined) where
    -- what has modules in it is joined
    pub edge_joined : (a b : ℕ) → HasEdge joined.modules.items a b → (a < n) × IsJoined rows joined a
    edge_joined a b e = elim (cases_lt a n) [
      | inl l ↦ elim (aj.each a) [
        | inl none ↦ (let wrong = is_in b [] (subst (λ xs. Contains xs b) none.1 e) in absurd wrong)
        | inr j ↦ (l, j)
      ]
      | inr l ↦ (let wrong = is_in b [] (subst (λ xs. Contains xs b) (targets_past joined.modules.items a (omega (arith, l, aj.modules))) e) in absurd wrong)
    ]

    -- a file of the module declares it
    pub edge_declared : (a b : ℕ) → HasEdge joined.modules.items a b → (q : ℕ) × HasEdge rows.modules.items q b
    edge_declared a b e =
        let j = edge_joined a b e in
        let x = from_flat (targets rows.modules.items) b (targets joined.files.items a) (subst (In b) j.1.modules (is_in b (targets joined.modules.items a) e)) in
        (x.0, contained b (targets rows.modules.items x.0) x.2)

    module _ (root : ℕ) (inside : root < n) (root_joined : IsJoined rows joined root) (inner_joined : (a b : ℕ) → HasEdge rows.modules.items a b → IsJoined rows joined b) where
      -- what is reached is joined
      pub reached_joined : {p : ℕ} → Reached (HasEdge joined.modules.items) (root ∷ []) [] p → (p < n) × IsJoined rows joined p
      reached_joined (from_start {a} c) = elim (is_in a (root ∷ []) c) [
        | inl e ↦ subst (λ q. (q < n) × IsJoined rows joined q) (sym e) (inside, root_joined)
        | inr wrong ↦ absurd wrong
      ]
      reached_joined (from_member {a} {b} r on e) =
          let x = edge_declared a b e in
          (omega (arith, (are_graphs enabled entries d files placed rows are paths).module_graph x.0 b x.1, (are_graphs enabled entries d files placed rows are paths).modules), inner_joined x.0 b x.1)

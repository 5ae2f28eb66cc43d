-- Each number that the analysis took a value for is meant by a key.
use Rattle.std.proofs.Common.{◌≡◌, ◌∙◌, ℕ, Bool, true, false, cond, List, [], ◌∷◌, is_some, map, Option, None, Some, inl, inr, refl, sym, ap, subst}
use Rattle.std.specs.Cmp.Lexicographic.{nat_list_cmp_total, slice_cmp}
use Rattle.std.specs.List.{AllByRecursion, Contains}
use Rattle.std.specs.List.Sorted.{IsStrictlySortedBy}
use Rattle.std.specs.HashMap.{get}
use Rattle.std.specs.Map.{keys_of}
use Rattle.std.specs.Option.{option_and_then, option_map, option_or}
use Rattle.std.specs.Ordering.{is_eq, nat_cmp, ordering_then}
use Rattle.std.specs.Prelude.{if◌then◌else◌, option_to_list, slice_get}
use Rattle.std.specs.Str.{bytes_eq}
use Rattle.std.specs.declared.cmp.Ordering.{Ordering}
use Rattle.std.specs.declared.cmp.Ordering.TheVariants.{Equal, Greater, Less}
use Rattle.std.proofs.lemmas.Bool.{cases_Bool}
use Rattle.std.proofs.lemmas.Map.Text.{is_eq-slice_cmp}
use Rattle.std.proofs.lemmas.Map.Views.{Contains-from_lookup}
use Rattle.std.proofs.lemmas.Option.{slice_get-get_or}
use Rattle.std.proofs.lemmas.Slice.Eq.{bytes_eq-Decides}
use Rattle.just_ast_definitions.specs.declared.assignment.Assignment.{Assignment}
use Rattle.just_graph.proofs.Index.{map_get, some_same}
use Rattle.just_graph.proofs.Members.{In, contained, from_flat, from_map, in_flat, is_in}
use Rattle.just_graph.specs.Unfolded.{AreDistinct}
use Rattle.just_justfile.proofs.Returning.{found_by_path}
use Rattle.just_justfile.specs.Closed.{AreClosed, StandsIn}
use Rattle.just_justfile.specs.Walks.{inner_along, module_named}
use Rattle.just_justfile.specs.declared.justfile.Justfile.{Justfile, out-Justfile}
use Rattle.just_module_contents.specs.Contents.{Contents}
use Rattle.just_module_contents.specs.Kept.{kept_variables}
use Rattle.just_module_contents.specs.Known.{variables_under}
use Rattle.just_module_headers.specs.Reading.{reading_of}
use Rattle.just_module_recipes.proofs.PathKeys.{at_path, path_cmp}
use Rattle.just_module_tree.proofs.Agreeing.{find_reached}
use Rattle.just_module_tree.specs.Modules.{Forest, Heading, Module, path_of}
use Rattle.just_module_tree.specs.Overrides.{OverrideKey}
use Rattle.just_module_variables.proofs.Substituted.{made_sorted}
use Rattle.just_module_variables.specs.Numbered.{name_of_assignment, numbered_assignment}
use Rattle.just_module_variables.specs.Overrides.{last_of, override_found, overrides_found}
use Rattle.just_module_variables.specs.Variables.{known_with_numbers}
use Rattle.just_name_resolution.proofs.Alike.{find_changed}
use Rattle.just_name_resolution.proofs.Sets.{number_itself, one_number}
use Rattle.just_names.specs.Texts.{Text}
use Rattle.just_names.specs.declared.number.Number.{Number}
use Rattle.just_overrides.proofs.Ruling.{at_root}
use Rattle.just_overrides.specs.Reached.{aliased, given_for, overrides_meant, number_in_module, reached, reached_from, variable_of}
use Rattle.just_parts.specs.Asts.{AstKey}
use Rattle.just_parts.specs.Evaluator.{Evaluator}
use Rattle.just_parts.specs.Items.{Ast}
use Rattle.just_parts.specs.Layers.{override_at, variable_cmp}
use Rattle.just_parts.specs.Needs.{has_number, same_number}
use Rattle.just_paths.specs.declared.modulepath.Modulepath.{Modulepath}
use Rattle.just_recipe.specs.declared.dependency.Dependency.{Dependency}
use Rattle.just_recipe.specs.declared.recipe.Recipe.{Recipe}
use Rattle.just_table.specs.Entries.{IsSorted, find, put_all}
use Rattle.just_compiled.proofs.Building.{of_module}
use Rattle.just_compiled.proofs.Placing.{standing}
use Rattle.just_compiled.specs.Justfiles.{Built, IsCompiled, Made, contents_read, recipes_of_all}
use Rattle.just_loader.specs.Reached.{World}
use Rattle.just_compiler.specs.Analyzed.{IsAnalyzed}
use Rattle.just_compiler.specs.Readings.{Overrides, given_in, root_heading}

-- one of two values, where the first or the second is one
or_first : (o p : Option Text) (v : Text) → o ≡ Some v → (u : Text) × (option_or o p ≡ Some u)
or_first None p v e = cc
or_first (Some w) p v e = (w, refl)

or_second : (o p : Option Text) (v : Text) → p ≡ Some v → (u : Text) × (option_or o p ≡ Some u)
or_second None p v e = (v, e)
or_second (Some w) p v e = (w, refl)

-- a number that has an entry has a last value, and the other way
has_last : (es : List (Number × Text)) (entry : Number × Text) (n : Number) → In entry es → entry.0 ≡ n → (u : Text) × (last_of es n ≡ Some u)
has_last [] entry n i same = absurd i
has_last (x ∷ es) entry n (inl is) same =
    let named : same_number x.0 n ≡ true = ap (same_number x.0) (sym (ap (λ (y : Number × Text). y.0) (sym is) ∙ same)) ∙ number_itself x.0 in
    or_second (last_of es n) (if same_number x.0 n then Some x.1 else None) x.1 (ap (λ b. if b then Some x.1 else None) named)
has_last (x ∷ es) entry n (inr i) same =
    let rest = has_last es entry n i same in
    or_first (last_of es n) (if same_number x.0 n then Some x.1 else None) rest.0 rest.1

abbrev IsThere : List (Number × Text) → Number → Type 0
IsThere es n = (entry : Number × Text) × In entry es × (entry.0 ≡ n)

last_here : (x : Number × Text) (es : List (Number × Text)) (n : Number) (v : Text) (b : Bool) → same_number x.0 n ≡ b → option_or None (if b then Some x.1 else None) ≡ Some v → IsThere (x ∷ es) n
last_here x es n v true t f = (x, inl refl, one_number x.0 n t)
last_here x es n v false t f = cc

last_later : (x : Number × Text) (es : List (Number × Text)) (n : Number) (v : Text) → ((w : Text) → last_of es n ≡ Some w → IsThere es n) → (o : Option Text) → last_of es n ≡ o → option_or o (if same_number x.0 n then Some x.1 else None) ≡ Some v → IsThere (x ∷ es) n
last_later x es n v rest (Some w) t f = let r = rest w t in (r.0, inr r.1, r.2)
last_later x es n v rest None t f = last_here x es n v (same_number x.0 n) refl f

last_there : (es : List (Number × Text)) (n : Number) (v : Text) → last_of es n ≡ Some v → IsThere es n
last_there [] n v e = cc
last_there (x ∷ es) n v e = last_later x es n v (last_there es n) (last_of es n) refl e

-- what overrides a variable has a key
then_both : (r s : Ordering) → is_eq (ordering_then r s) ≡ true → (is_eq r ≡ true) × (is_eq s ≡ true)
then_both Equal s e = (refl, e)
then_both Less s e = cc
then_both Greater s e = cc

one_key : (a b : OverrideKey) → is_eq (variable_cmp a b) ≡ true → a ≡ b
one_key a b e =
    let both = then_both (path_cmp a.0 b.0) (slice_cmp nat_cmp a.1 b.1) e in
    let name : a.1 ≡ b.1 = (bytes_eq-Decides a.1 b.1).0 (sym (is_eq-slice_cmp a.1 b.1) ∙ both.1) in
    λ i. (at_path a.0 b.0 both.0 i, name i)

has_key : (overrides : Overrides) (path : Modulepath) (name value : Text) → override_at overrides path name ≡ Some value → In ((path, name), value) overrides.entries
has_key overrides path name value e =
    is_in ((path, name), value) overrides.entries (Contains-from_lookup {eq = λ a b. is_eq (variable_cmp a b)} one_key (path, name) value overrides.entries e)

-- no text is below itself
not_below : (k : Text) → slice_cmp nat_cmp k k ≡ Less → ⊥
not_below k e = let wrong : is_eq Less ≡ true = ap is_eq (sym e) ∙ (is_eq-slice_cmp k k ∙ (bytes_eq-Decides k k).1 refl) in cc

-- an entry of a table is found by its name
module _ {V : Type 0} where
  below_one : (k : Text) (v : V) (key : Text) (es : List (Text × V)) → AllByRecursion (λ x. slice_cmp nat_cmp key x ≡ Less) (keys_of es) → In (k, v) es → slice_cmp nat_cmp key k ≡ Less
  below_one k v key [] below i = absurd i
  below_one k v key (e ∷ es) below (inl same) = ap (λ (x : Text × V). slice_cmp nat_cmp key x.0) same ∙ below.0
  below_one k v key (e ∷ es) below (inr i) = below_one k v key es below.1 i

  found_there : (es : List (Text × V)) → IsSorted es → (k : Text) (v : V) → In (k, v) es → find k es ≡ Some v
  unfolding IsStrictlySortedBy
  found_there [] sorted k v i = absurd i
  found_there (e ∷ es) sorted k v (inl same) =
      let t : bytes_eq k e.0 ≡ true = (bytes_eq-Decides k e.0).1 (ap (λ (x : Text × V). x.0) same) in
      ap (λ b. cond b (Some e.1) (find k es)) t ∙ ap (λ (x : Text × V). Some x.1) (sym same)
  found_there (e ∷ es) sorted k v (inr i) = elim (cases_Bool (bytes_eq k e.0)) [
    | inl t ↦ absurd (not_below k (ap (λ x. slice_cmp nat_cmp x k) ((bytes_eq-Decides k e.0).0 t) ∙ below_one k v e.0 es sorted.0 i))
    | inr f ↦ ap (λ b. cond b (Some e.1) (find k es)) f ∙ found_there es sorted.1 k v i
  ]

-- A value that overrides a variable of a module is under the name of one that has its number.
record Overrides_variable (values : Text → Option Text) (variables : List (Text × Assignment)) (entry : Number × Text) : Type 0 where
  name : Text
  value : Text
  given : values name ≡ Some value
  variable : Assignment
  is : find name variables ≡ Some variable
  number : variable.number ≡ entry.0

in_option : (o : Option Text) (v : Text) → In v (option_to_list o) → o ≡ Some v
in_option None v i = absurd i
in_option (Some w) v (inl same) = ap Some (sym same)
in_option (Some w) v (inr i) = absurd i

overrides_one : (values : Text → Option Text) (vs : List Assignment) (entry : Number × Text) → In entry (overrides_found values (variables_under vs)) → Overrides_variable values (variables_under vs) entry
overrides_one values vs entry i =
    let x = from_flat (override_found values) entry (variables_under vs) i in
    let v = from_map (λ (value : Text). (x.0.1.number, value)) entry (option_to_list (values x.0.0)) x.2 in
    record {
      name = x.0.0;
      value = v.0;
      given = in_option (values x.0.0) v.0 v.1;
      variable = x.0.1;
      is = found_there (variables_under vs) (made_sorted name_of_assignment (kept_variables vs)) x.0.0 x.0.1 x.1;
      number = ap (λ (y : Number × Text). y.0) (sym v.2);
    }

-- a walk through modules is one that may also go through aliases
walks_next : (root : Justfile) (name : Text) (names : List Text) (j k : Justfile) → ((inner : Justfile) → inner_along inner names ≡ Some k → reached_from root inner names ≡ Some k) → (o : Option Justfile) → module_named name (out-Justfile j).modules ≡ o
    → (elim o as (λ _. Option Justfile) [ Some inner ↦ inner_along inner names | None ↦ None ]) ≡ Some k → option_and_then (λ (next : Justfile). reached_from root next names) (option_or o (aliased root j name)) ≡ Some k
walks_next root name names j k rest None f g = cc
walks_next root name names j k rest (Some inner) f g = rest inner g

walks_on : (root : Justfile) (names : List Text) (j k : Justfile) → inner_along j names ≡ Some k → reached_from root j names ≡ Some k
walks_on root [] j k e = e
walks_on root (name ∷ names) j k e = walks_next root name names j k (λ inner. walks_on root names inner k) (module_named name (out-Justfile j).modules) refl e

-- what is built under a key is built once
pub built_once : (built : List Built) → AreDistinct (map (λ (b : Built). b.0) built) → (k : AstKey) (a b : Made) → Contains built (k, a) → Contains built (k, b) → a ≡ b
built_once built apart k a b x y =
    let keys = λ (n : ℕ) (m : Made) (c : slice_get built n ≡ Some (k, m)). map_get (λ (z : Built). z.0) built n (k, m) c in
    let got_a : slice_get built x.0 ≡ Some (k, a) = slice_get-get_or built x.0 (k, a) x.1 ∙ ap Some x.2 in
    let got_b : slice_get built y.0 ≡ Some (k, b) = slice_get-get_or built y.0 (k, b) y.1 ∙ ap Some y.2 in
    let same : x.0 ≡ y.0 = apart x.0 y.0 k (keys x.0 a got_a) (keys y.0 b got_b) in
    ap (λ (z : Built). z.1) (some_same (sym got_a ∙ ap (slice_get built) same ∙ got_b))

module _ (evaluator : Evaluator) (overrides : Overrides) (w : World) (asts : AstKey → Option Ast) (paths : (k : AstKey) (a : Ast) → asts k ≡ Some a → a.module_path ≡ k.0) (loaded : List Text) (justfile : Justfile) (recipes : List (Recipe Dependency)) (overridden : List (Number × Text))
    (analyzed : IsAnalyzed (given_in evaluator overrides w) asts loaded (root_heading w) justfile recipes overridden) where
  -- the path of the root has no names
  pub rooted : (out-Justfile justfile).module_path.components ≡ []
  rooted =
      at_root (given_in evaluator overrides w) asts loaded analyzed.built (root_heading w) refl analyzed.m analyzed.inside analyzed.are_modules analyzed.kept recipes justfile analyzed.compiled analyzed.closed

  -- a key of a module that stands in the root means its variable
  key_means : (j : Justfile) (path : Modulepath) (name : Text) (number : Number) → StandsIn justfile j → (out-Justfile j).module_path ≡ path → number_in_module name j ≡ Some number → variable_of justfile (path, name) ≡ Some number
  key_means j path name number stands is has =
      let along = ap (λ (p : Modulepath). inner_along justfile p.components) (sym is) ∙ found_by_path recipes justfile j analyzed.closed rooted stands in
      ap (option_and_then (number_in_module name)) (walks_on justfile path.components justfile j along) ∙ has

  -- what a key means is among what is meant
  is_among : (key : OverrideKey) (value : Text) (number : Number) → In (key, value) overrides.entries → variable_of justfile key ≡ Some number → In (number, value) (overrides_meant justfile overrides.entries)
  is_among key value number i e =
      in_flat (λ (entry : OverrideKey × Text). given_for entry.1 (variable_of justfile entry.0)) (number, value) (key, value) overrides.entries i (subst (λ o. In (number, value) (given_for value o)) (sym e) (inl refl))

  -- what overrides a variable of a module that stands in the root is meant
  module_meant : (j : Justfile) (m : Module) (below : Forest) (inner : List Justfile) (made : Made) → StandsIn justfile j → IsCompiled (given_in evaluator overrides w) asts loaded (recipes_of_all analyzed.built) m below inner made j
      → (entry : Number × Text) (n : Number) → In entry made.overridden → entry.0 ≡ n → (u : Text) × (last_of (overrides_meant justfile overrides.entries) n ≡ Some u)
  module_meant j m below inner made stands is entry n there same =
      let given = given_in evaluator overrides w in
      let contents : Contents = contents_read given.syntax.enabled asts m.files in
      let number = numbered_assignment (known_with_numbers given.syntax contents) in
      let x = overrides_one (override_at overrides (path_of m)) contents.variables entry (subst (In entry) is.evaluated.overrides_are there) in
      let has : number_in_module x.name j ≡ Some x.variable.number = ap (λ es. option_map (λ (a : Assignment). a.number) (find x.name es)) is.variables.assignments_are
      ∙ (ap (option_map (λ (a : Assignment). a.number)) (find_changed number x.name (variables_under contents.variables)) ∙ ap (λ o. option_map (λ (a : Assignment). a.number) (option_map number o)) x.is) in
      let means = key_means j (path_of m) x.name x.variable.number stands is.path has in
      has_last (overrides_meant justfile overrides.entries) (x.variable.number, x.value) n (is_among (path_of m, x.name) x.value x.variable.number (has_key overrides (path_of m) x.name x.value x.given) means) (x.number ∙ same)

  pub is_meant : (n : Number) (v : Text) → last_of overridden n ≡ Some v → (u : Text) × (last_of (overrides_meant justfile overrides.entries) n ≡ Some u)
  is_meant n v e =
      let given = given_in evaluator overrides w in
      let entry = last_there overridden n v e in
      let of = from_flat (λ (b : Built). b.1.overridden) entry.0 analyzed.built (subst (In entry.0) analyzed.overrides entry.1) in
      let told = contained of.0 analyzed.built of.1 in
      let h = analyzed.each of.0 told in
      let found = find_reached (reading_of given.syntax.enabled asts) analyzed.are_modules h.1 in
      let s = standing given asts paths loaded analyzed.built analyzed.compiled found.has in
      let key : found.m.heading.key ≡ of.0.0 = ap (λ (x : Heading). x.key) found.is.heading ∙ h.2 in
      let made : of.0.1 ≡ s.made = built_once analyzed.built analyzed.once of.0.0 of.0.1 s.made told (subst (λ k. Contains analyzed.built (k, s.made)) key s.said) in
      let top : s.top ≡ justfile = elim s.among [ inl same ↦ same | inr wrong ↦ absurd wrong ] in
      module_meant s.it found.m s.below s.inner s.made (subst (λ (t : Justfile). StandsIn t s.it) top s.stands) s.compiled entry.0 n (subst (In entry.0) (ap (λ (y : Made). y.overridden) made) of.2) entry.2

  some_held : (o : Option Text) → is_some o ≡ true → (v : Text) × (o ≡ Some v)
  some_held None e = cc
  some_held (Some v) e = (v, refl)

  -- so is what the analysis saw as overridden in one of these
  pub held_meant : (j : Justfile) (n : Number) → StandsIn justfile j → has_number (out-Justfile j).overridden n ≡ true → (u : Text) × (last_of (overrides_meant justfile overrides.entries) n ≡ Some u)
  held_meant j n stands has =
      let of = of_module (given_in evaluator overrides w) asts loaded analyzed.built analyzed.compiled justfile (inl refl) j stands in
      let v = some_held (get same_number (out-Justfile j).overridden n) has in
      let entry = last_there of.made.overridden n v.0 (sym (of.compiled.evaluated.overrides_held n) ∙ v.1) in
      module_meant j of.m of.below of.inner of.made stands of.compiled entry.0 n entry.1 entry.2

-- so the values are those of the keys alone
pub by_keys : (given last : Option Text) → ((v : Text) → last ≡ Some v → (u : Text) × (given ≡ Some u)) → option_or given last ≡ given
by_keys (Some u) last is = refl
by_keys None None is = refl
by_keys None (Some v) is = let wrong = (is v refl).1 in absurd (cc)

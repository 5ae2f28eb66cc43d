-- What paths lead to in modules whose tables name recipes that are held.
use Rattle.std.proofs.Common.{◌≡◌, ◌≢◌, ◌∙◌, ℕ, zero, suc, ◌<◌, Bool, true, false, List, [], ◌∷◌, ◌++◌, map, length, Option, None, Some, IsSome, is_some, refl, sym, ap, subst, inl, inr, arith, if◌then◌else◌}
use Rattle.std.specs.BTreeSet.{BTreeSet}
use Rattle.std.specs.List.{Contains}
use Rattle.std.specs.Option.{option_map, option_or}
use Rattle.std.proofs.lemmas.List.Folds.{find-append}
use Rattle.just_ast_expressions.specs.declared.expression.Expression.{Expression}
use Rattle.just_compiled.specs.Analysis.{recipe_table}
use Rattle.just_compiled.specs.loops.Analysis.{HasLinks}
use Rattle.just_compiled.specs.Labelled.{by_name, labelled_as, with_labels}
use Rattle.just_compiled.specs.loops.Settled.{IsSettled, settled}
use Rattle.just_compiled.proofs.ByName.{names_sorted}
use Rattle.just_compiled.proofs.Closing.{named_in}
use Rattle.just_compiled.proofs.RecipeKeys.{found_among, key_found}
use Rattle.just_graph.proofs.Members.{In, is_in}
use Rattle.just_justfile.specs.Walks.{Absent, AreOrdered, End, Here, Inside, AreModulesOrdered, NamesRise, Nowhere, beyond, end_of_names, in_order, module_named, only, path_along, recipe_under as key_at, recipe_by}
use Rattle.just_justfile.specs.declared.disabled.Disabled.{Disabled}
use Rattle.just_justfile.specs.declared.justfile.Justfile.{Justfile, out-Justfile, out-roll-Justfile}
use Rattle.just_justfile.specs.declared.justfile.RecipeKey.{RecipeKey}
use Rattle.just_justfile.specs.declared.resolution.Resolution.{Resolution}
use Rattle.just_justfile.specs.declared.resolution.Resolution.TheVariants as resolution
use Rattle.just_justfile.proofs.Leading.{named_there}
use Rattle.just_module_contents.specs.declared.labels.Label.{Label}
use Rattle.just_module_contents.specs.Recipes.{name_of_recipe, recipe_at}
use Rattle.just_module_contents.specs.Resolved.{number_at}
use Rattle.just_module_contents.proofs.StandingOnes.{standing_in}
use Rattle.just_module_recipes.specs.Linked.{AreDisabled, AreSettled, disabled_table, falls as fallen, name_of_disabled, none as none_disabled, stands as not_disabled}
use Rattle.just_module_recipes.specs.Links.{Stands, around_recipes}
use Rattle.just_module_recipes.specs.loops.Links.{around_of}
use Rattle.just_names.specs.Name.{text_of_name}
use Rattle.just_names.specs.Texts.{Text}
use Rattle.just_parts.specs.Syntax.{SyntaxAnswers}
use Rattle.just_names.specs.declared.name.Namepath.{Namepath}
use Rattle.just_names.specs.declared.number.Number.{Number}
use Rattle.just_paths.specs.declared.modulepath.Modulepath.{Modulepath}
use Rattle.just_recipe.specs.Recipes.{find_number}
use Rattle.just_recipe.specs.declared.dependency.Dependency.{Dependency}
use Rattle.just_recipe.specs.declared.dependency.UnresolvedDependency.{UnresolvedDependency}
use Rattle.just_recipe.specs.declared.recipe.Recipe.{Recipe}
use Rattle.just_table.specs.Entries.{find}

-- where names lead beyond the first, by the module that it names
abbrev next_end : List Text → Text → List (Text × Text) → Option Justfile → End
next_end names name absent found = elim found as (λ _. End) [
  | Some j ↦ beyond name j (end_of_names (out-Justfile j).absent_modules (out-Justfile j).modules names)
  | None ↦ if is_some (find name absent) then Absent (name ∷ []) else Nowhere
]

missed : (name : Text) (b : Bool) (j : Justfile) → (if b then Absent (name ∷ []) else Nowhere) ≡ Inside j → ⊥
missed name true j e = cc
missed name false j e = cc

inside_same : (i j : Justfile) → Inside i ≡ Inside j → i ≡ j
inside_same i j e = cc

number_same : (a b : Number) → Some (resolution.Resolved a) ≡ Some (resolution.Resolved b) → a ≡ b
number_same a b e = cc

abbrev disabled_by : BTreeSet Modulepath → Option (Resolution Number)
disabled_by set = Some (resolution.Disabled set)

set_same : (a b : BTreeSet Modulepath) → disabled_by a ≡ disabled_by b → a ≡ b
set_same a b e = cc

-- what a name leads to, by the recipe that the tables have
abbrev looked_up : List (Text × Disabled) → Text → Option RecipeKey → Option (Resolution Number)
looked_up disabled name found = elim found as (λ _. Option (Resolution Number)) [
  | Some key ↦ Some (resolution.Resolved key.number)
  | None ↦ option_map (λ (it : Disabled). resolution.Disabled it.modules) (find name disabled)
]

no_number : (o : Option Disabled) (n : Number) → option_map (λ (it : Disabled). resolution.Disabled it.modules) o ≡ Some (resolution.Resolved n) → ⊥
no_number None n e = cc
no_number (Some it) n e = cc

not_none : (path : Modulepath) (set : BTreeSet Modulepath) → only path ≡ set → set.keys ≢ []
not_none path set e empty = let same : path ∷ [] ≡ set.keys = ap (λ (s : BTreeSet Modulepath). s.keys) e in let wrong : path ∷ [] ≡ [] = same ∙ empty in cc

some_more : (o p : Option (Recipe Dependency)) → IsSome o → IsSome (option_or o p)
some_more None p some = cc
some_more (Some r) p some = refl

-- what is held stays so
pub held_more : (held rest : List (Recipe Dependency)) (n : ℕ) → IsSome (find_number held n) → IsSome (find_number (held ++ rest) n)
held_more held rest n some = subst IsSome (sym (find-append _ held rest)) (some_more (find_number held n) (find_number rest n) some)

pub settled_more : {held : List (Recipe Dependency)} {j : Justfile} (rest : List (Recipe Dependency)) → IsSettled held j → IsSettled (held ++ rest) j
settled_more {held} rest (settled recipes disabled rise inner) = settled (λ name key e. held_more held rest key.number.0 (recipes name key e)) disabled rise (λ i c. settled_more rest (inner i c))

-- the names of the modules in a settled one rise, in each module
pub settled_ordered : {held : List (Recipe Dependency)} {j : Justfile} → IsSettled held j → AreModulesOrdered j
settled_ordered (settled recipes disabled rise inner) = in_order rise (λ i c. settled_ordered (inner i c))

module _ (held : List (Recipe Dependency)) where
  inner_settled : {j : Justfile} → IsSettled held j → (inner : Justfile) → Contains (out-Justfile j).modules inner → IsSettled held inner
  inner_settled (settled recipes disabled rise inner) = inner

  recipes_held : {j : Justfile} → IsSettled held j → (name : Text) (key : RecipeKey) → find name (out-Justfile j).recipes ≡ Some key → IsSome (find_number held key.number.0)
  recipes_held (settled recipes disabled rise inner) = recipes

  all_disabled : {j : Justfile} → IsSettled held j → (name : Text) (d : Disabled) → find name (out-Justfile j).disabled_recipes ≡ Some d → d.modules.keys ≢ []
  all_disabled (settled recipes disabled rise inner) = disabled

  beyond_settled : (name : Text) (names : List Text) (inner j : Justfile) → IsSettled held inner → (end_of_names (out-Justfile inner).absent_modules (out-Justfile inner).modules names ≡ Inside j → IsSettled held j)
      → (end : End) → end_of_names (out-Justfile inner).absent_modules (out-Justfile inner).modules names ≡ end → beyond name inner end ≡ Inside j → IsSettled held j
  beyond_settled name names inner j is ih Here f g = subst (IsSettled held) (inside_same inner j g) is
  beyond_settled name names inner j is ih (Inside x) f g = ih (f ∙ g)
  beyond_settled name names inner j is ih (Absent ns) f g = cc
  beyond_settled name names inner j is ih Nowhere f g = cc

  next_settled : (name : Text) (names : List Text) (absent : List (Text × Text)) (modules : List Justfile) (j : Justfile) → ((inner : Justfile) → Contains modules inner → IsSettled held inner)
      → ((inner : Justfile) → IsSettled held inner → end_of_names (out-Justfile inner).absent_modules (out-Justfile inner).modules names ≡ Inside j → IsSettled held j)
      → (found : Option Justfile) → module_named name modules ≡ found → next_end names name absent found ≡ Inside j → IsSettled held j
  next_settled name names absent modules j all ih None f g = absurd (missed name (is_some (find name absent)) j g)
  next_settled name names absent modules j all ih (Some inner) f g =
      let is = all inner (named_there name modules inner f) in
      beyond_settled name names inner j is (ih inner is) (end_of_names (out-Justfile inner).absent_modules (out-Justfile inner).modules names) refl g

  -- a module to which names lead is settled
  end_settled : (names : List Text) (absent : List (Text × Text)) (modules : List Justfile) (j : Justfile) → ((inner : Justfile) → Contains modules inner → IsSettled held inner) → end_of_names absent modules names ≡ Inside j → IsSettled held j
  end_settled [] absent modules j all e = cc
  end_settled (name ∷ names) absent modules j all e =
      next_settled name names absent modules j all (λ inner is g. end_settled names (out-Justfile inner).absent_modules (out-Justfile inner).modules j (inner_settled is) g) (module_named name modules) refl e

  number_held : (j : Justfile) (name : Text) (n : Number) → IsSettled held j → key_at (out-Justfile j).recipes (out-Justfile j).disabled_recipes name ≡ Some (resolution.Resolved n) → IsSome (find_number held n.0)
  number_held j name n is e = go (find name (out-Justfile j).recipes) refl e
    where
      go : (found : Option RecipeKey) → find name (out-Justfile j).recipes ≡ found → looked_up (out-Justfile j).disabled_recipes name found ≡ Some (resolution.Resolved n) → IsSome (find_number held n.0)
      go None f g = absurd (no_number (find name (out-Justfile j).disabled_recipes) n g)
      go (Some key) f g = subst (λ (x : Number). IsSome (find_number held x.0)) (number_same key.number n g) (recipes_held is name key f)

  some_disable : (j : Justfile) (name : Text) (set : BTreeSet Modulepath) → IsSettled held j → key_at (out-Justfile j).recipes (out-Justfile j).disabled_recipes name ≡ Some (resolution.Disabled set) → set.keys ≢ []
  some_disable j name set is e = go (find name (out-Justfile j).recipes) e
    where
      of : (found : Option Disabled) → find name (out-Justfile j).disabled_recipes ≡ found → option_map (λ (it : Disabled). resolution.Disabled it.modules) found ≡ disabled_by set → set.keys ≢ []
      of None f g = cc
      of (Some it) f g = subst (λ (s : BTreeSet Modulepath). s.keys ≢ []) (set_same it.modules set g) (all_disabled is name it f)

      go : (found : Option RecipeKey) → looked_up (out-Justfile j).disabled_recipes name found ≡ Some (resolution.Disabled set) → set.keys ≢ []
      go None g = of (find name (out-Justfile j).disabled_recipes) refl g
      go (Some key) g = cc

  -- so is what is around the recipes of a module in which such modules stand
  pub around_settled : (absent : List (Text × Text)) (modules : List Justfile) → ((inner : Justfile) → Contains modules inner → IsSettled held inner) → AreSettled (around_recipes absent modules held)
  around_settled absent modules all = record { held = λ path n e. numbers path n (end_of_names absent modules (map text_of_name path.front)) refl e; disabled = λ path set e. sets path set (end_of_names absent modules (map text_of_name path.front)) refl e }
    where
      numbers : (path : Namepath) (n : Number) (end : End) → end_of_names absent modules (map text_of_name path.front) ≡ end → recipe_by end [] [] (text_of_name path.last) ≡ Some (resolution.Resolved n) → IsSome (find_number held n.0)
      numbers path n Here f g = cc
      numbers path n (Inside j) f g = number_held j (text_of_name path.last) n (end_settled (map text_of_name path.front) absent modules j all f) g
      numbers path n (Absent names) f g = cc
      numbers path n Nowhere f g = cc

      sets : (path : Namepath) (set : BTreeSet Modulepath) (end : End) → end_of_names absent modules (map text_of_name path.front) ≡ end → recipe_by end [] [] (text_of_name path.last) ≡ Some (resolution.Disabled set) → set.keys ≢ []
      sets path set Here f g = cc
      sets path set (Inside j) f g = some_disable j (text_of_name path.last) set (end_settled (map text_of_name path.front) absent modules j all f) g
      sets path set (Absent names) f g = not_none (path_along names) set (set_same (only (path_along names)) set g)
      sets path set Nowhere f g = cc

-- the place of a recipe, and its number there
pub place_in : (rs : List (Recipe UnresolvedDependency)) (r : Recipe UnresolvedDependency) → In r rs → (i : ℕ) × (i < length rs) × (recipe_at rs i ≡ r) × (number_at rs i ≡ r.number.0)
place_in [] r h = absurd h
place_in (x ∷ rs) r (inl e) = (zero, omega arith, sym e, ap (λ (y : Recipe UnresolvedDependency). y.number.0) (sym e))
place_in (x ∷ rs) r (inr h) = let i = place_in rs r h in (suc i.0, omega (arith, i.1), i.2, i.3)

-- what is disabled is so by some module
disabled_some : {Disables : Text → Modulepath → Type 0} {rs : List (Recipe UnresolvedDependency)} {ds : List Disabled} → AreDisabled Disables rs ds → (d : Disabled) → In d ds → d.modules.keys ≢ []
disabled_some none_disabled d h = absurd h
disabled_some (not_disabled is all) d h = disabled_some all d h
disabled_some (fallen name some same all) d (inl e) = subst (λ (x : Disabled). x.modules.keys ≢ []) (sym e) some
disabled_some (fallen name some same all) d (inr h) = disabled_some all d h

disabled_found : (ds : List Disabled) (name : Text) (d : Disabled) → find name (disabled_table ds) ≡ Some d → In d ds
disabled_found ds name d e = elim (found_among name_of_disabled name d [] ds e) [ inl h ↦ h.0 | inr nothing ↦ (let wrong : None ≡ Some d = nothing in cc) ]

some_number : (o : Option (Recipe Dependency)) (r : Recipe Dependency) → o ≡ Some r → IsSome o
some_number o r e = subst IsSome (sym e) refl

-- a module that is linked over settled ones is settled
pub module_settled : (value : Expression → Option (List Text)) (answers : SyntaxAnswers) (recipes standing : List (Recipe UnresolvedDependency)) (before added : List (Recipe Dependency)) (path : Modulepath) (j : Justfile) → HasLinks value answers recipes before path added standing j
    → (out-Justfile j).recipes ≡ recipe_table standing → NamesRise (out-Justfile j).modules → ((inner : Justfile) → Contains (out-Justfile j).modules inner → IsSettled before inner) → IsSettled (before ++ added) j
module_settled value answers recipes standing before added path j links are rise inner = settled numbers sets rise (λ i c. settled_more added (inner i c))
  where
    numbers : (name : Text) (key : RecipeKey) → find name (out-Justfile j).recipes ≡ Some key → IsSome (find_number (before ++ added) key.number.0)
    numbers name key e =
        let k = key_found standing name key (subst (λ (t : List (Text × RecipeKey)). find name t ≡ Some key) are e) in
        let s = standing_in links.stand k.0 k.1 in
        let i = place_in recipes k.0 s.0 in
        let made = links.linked.each i.0 i.1 (subst (λ (r : Recipe UnresolvedDependency). Stands recipes (around_of j before) (name_of_recipe r)) (sym i.2) s.1) in
        let number : number_at recipes i.0 ≡ key.number.0 = i.3 ∙ ap (λ (x : RecipeKey). x.number.0) (sym k.2) in
        subst (λ n. IsSome (find_number (before ++ added) n)) number (some_number (find_number (before ++ added) (number_at recipes i.0)) made.0 made.1)

    sets : (name : Text) (d : Disabled) → find name (out-Justfile j).disabled_recipes ≡ Some d → d.modules.keys ≢ []
    sets name d e = disabled_some links.disabled.1 d (disabled_found links.disabled.0 name d (subst (λ (t : List (Text × Disabled)). find name t ≡ Some d) links.disabled.2 e))

-- a label changes nothing of that
pub settled_labelled : {held : List (Recipe Dependency)} {j : Justfile} (label : Label) → IsSettled held j → IsSettled held (labelled_as label j)
settled_labelled {held} {j} label (settled recipes disabled rise inner) =
    let out = out-roll-Justfile (record (out-Justfile j) { name = label.name; doc = label.doc; groups = label.groups; private = label.private }) in
    settled (λ name key e. recipes name key (ap (λ x. find name x.recipes) (sym out) ∙ e)) (λ name d e. disabled name d (ap (λ x. find name x.disabled_recipes) (sym out) ∙ e))
    (subst (λ x. NamesRise x.modules) (sym out) rise) (λ i c. inner i (subst (λ x. Contains x.modules i) out c))

labelled_in : (js : List Justfile) (labels : List Label) (x : Justfile) → In x (with_labels js labels) → (j : Justfile) × (label : Label) × In j js × (x ≡ labelled_as label j)
labelled_in [] labels x h = absurd h
labelled_in (j ∷ js) [] x h = absurd h
labelled_in (j ∷ js) (label ∷ labels) x (inl e) = (j, label, inl refl, e)
labelled_in (j ∷ js) (label ∷ labels) x (inr h) = let r = labelled_in js labels x h in (r.0, r.1, inr r.2, r.3)

-- settled modules under labels, by their names, are settled
pub named_settled : (held : List (Recipe Dependency)) (js : List Justfile) (labels : List Label) → ((j : Justfile) → In j js → IsSettled held j) → (x : Justfile) → Contains (by_name (with_labels js labels)) x → IsSettled held x
named_settled held js labels all x c =
    let r = labelled_in js labels x (named_in (with_labels js labels) x (is_in x (by_name (with_labels js labels)) c)) in
    subst (IsSettled held) (sym r.3) (settled_labelled r.1 (all r.0 r.2))

-- of modules in which the names of the modules rise, under labels, by their names, all names rise
pub ordered_by_name : (js : List Justfile) (labels : List Label) → ((j : Justfile) → In j js → AreModulesOrdered j) → AreOrdered (by_name (with_labels js labels))
ordered_by_name js labels all = in_order (names_sorted (with_labels js labels)) (λ x c.
    let r = labelled_in js labels x (named_in (with_labels js labels) x (is_in x (by_name (with_labels js labels)) c)) in
    let out = out-roll-Justfile (record (out-Justfile r.0) { name = r.1.name; doc = r.1.doc; groups = r.1.groups; private = r.1.private }) in
    subst AreModulesOrdered (sym r.3) (subst (λ k. AreOrdered k.modules) (sym out) (all r.0 r.2)))

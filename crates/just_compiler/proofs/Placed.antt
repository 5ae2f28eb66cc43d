-- The module at a place, as it is checked.
use Rattle.std.proofs.Common.{◌≡◌, ◌∙◌, ℕ, suc, Bool, List, [], ◌∷◌, length, Option, Some, refl, sym, ap, subst}
use Rattle.std.specs.Prelude.{slice_get}
use Rattle.std.specs.List.{Contains}
use Rattle.std.specs.HashMap.{get}
use Rattle.just_module_variables.specs.Constants.{CoversAll, evaluated_in}
use Rattle.just_module_contents.specs.Constants.{constant_expressions}
use Rattle.just_parts.specs.Evaluator.{scope_values}
use Rattle.just_compiler.specs.loops.Parts.{IsCheckedCovered}
use Rattle.just_module_variables.specs.Documented.{AreDocumented}
use Rattle.just_module_variables.specs.Variables.{AreVariablesOf, HasNumbers}
use Rattle.just_errors.specs.Causes.{Cause, Keeps}
use Rattle.just_graph.specs.Graph.{targets}
use Rattle.just_justfile.specs.declared.justfile.Justfile.{Justfile, out-Justfile}
use Rattle.just_module_contents.specs.Contents.{Contents}
use Rattle.just_module_contents.specs.Definitions.{contents_in}
use Rattle.just_module_headers.specs.Files.{asts_in}
use Rattle.just_module_contents.specs.Groups.{BreaksContents, KeepsBefore, Links, OfBodies}
use Rattle.just_module_contents.specs.Named.{contents_from, recipes_by, said_from}
use Rattle.just_module_contents.specs.Resolved.{unresolved_numbers}
use Rattle.just_graph.proofs.Members.{In, contained, from_map, in_flat, in_map, is_in}
use Rattle.just_module_headers.specs.loops.OfPlaces.{contents_of_place, labels_of_place, recipes_of_place}
use Rattle.just_module_headers.specs.declared.files.Files.{Files}
use Rattle.just_module_headers.specs.declared.join.Joined.{Joined}
use Rattle.just_module_recipes.specs.loops.Broken.{BreaksRecipes}
use Rattle.just_module_checks.specs.Checked.{IsChecked, no_links}
use Rattle.just_compiled.specs.Evaluated.{IsEvaluatedTo}
use Rattle.just_compiler.specs.loops.Steps.{BreaksOver, BreaksPlace, KeepsPlace, names_of_labels, path_at, path_in}
use Rattle.just_module_checks.specs.declared.checks.Checked.{Checked}
use Rattle.just_module_checks.proofs.GroupGrounds.{before_any, broken_any}
use Rattle.just_compiler.proofs.Grounds.{all_kept, recipes_broken}
use Rattle.just_names.specs.Texts.{Text}
use Rattle.just_recipe.specs.declared.dependency.Dependency.{Dependency}
use Rattle.just_recipe.specs.declared.dependency.UnresolvedDependency.{UnresolvedDependency}
use Rattle.just_recipe.specs.declared.recipe.Recipe.{Recipe}
use Rattle.just_module_contents.specs.Labels.{label_by}
use Rattle.just_module_contents.specs.declared.labels.Label.{Label}
use Rattle.just_parts.specs.Items.{Ast, Item}
use Rattle.just_parts.specs.Layers.{Given, Layers, layers_at}
use Rattle.just_parts.specs.Needs.{same_number}
use Rattle.just_ast_expressions.specs.declared.expression.Expression.{Expression}

-- as many labels as are said
pub many_labels : (value : Expression → Option (List Text)) (said made : List Label) → AreDocumented value said made → length made ≡ length said
many_labels value [] made e = ap length e
many_labels value (label ∷ said) made (first, rest, e, is, are) = ap length e ∙ ap suc (many_labels value said rest are)

-- with the names that are said
pub named_alike : (value : Expression → Option (List Text)) (said made : List Label) → AreDocumented value said made → names_of_labels made ≡ names_of_labels said
named_alike value [] made e = ap names_of_labels e
named_alike value (label ∷ said) made (first, rest, e, is, are) = ap names_of_labels e ∙ (λ i. is.name i ∷ named_alike value said rest are i)

module _ (given : Given) (files : Files) (joined : Joined) (p : ℕ) (row : List ℕ) (row_is : row ≡ targets joined.files.items p) (own : Ast) (own_is : slice_get (asts_in files) p ≡ Some own) where
  abbrev here : Contents
  here = contents_from given.syntax.enabled (asts_in files) row

  abbrev m : Contents
  m = contents_of_place given.syntax.enabled files joined p

  abbrev layers : Layers
  layers = layers_at given (path_at files p)

  layers_same : layers_at given own.module_path ≡ layers
  layers_same = ap (λ o. layers_at given (path_in o)) (sym own_is)

  contents_same : here ≡ m
  contents_same = ap (contents_from given.syntax.enabled (asts_in files)) row_is

  -- what is broken of its files before its recipes is broken of it, whatever its modules are
  pub breaks_place : (slots : List (Option Justfile)) (held : List (Recipe Dependency)) (c : Cause) → BreaksContents (layers_at given own.module_path) no_links no_links here c → BreaksOver given files joined p slots held c
  breaks_place slots held c b =
      let broken : BreaksContents layers no_links no_links m c = subst (λ (x : Layers). BreaksContents x no_links no_links m c) layers_same (subst (λ n. BreaksContents (layers_at given own.module_path) no_links no_links n c) contents_same b) in
      record { labels = labels_of_place given.syntax.enabled files joined p; named = refl; broken = λ inner e. broken_any layers _ _ m c broken }

  module _ (it : Checked) (checked : IsChecked (layers_at given own.module_path) here (said_from label_by given.syntax.enabled (asts_in files) row) it) (kept : KeepsBefore (layers_at given own.module_path) no_links OfBodies here) where
    earlier : (links : Links) → KeepsBefore layers links OfBodies m
    earlier links = before_any layers no_links links m (subst (λ (x : Layers). KeepsBefore x no_links OfBodies m) layers_same (subst (KeepsBefore (layers_at given own.module_path) no_links OfBodies) contents_same kept))

    pub is : IsChecked layers m (labels_of_place given.syntax.enabled files joined p) it
    is = subst (λ (x : Layers). IsChecked x m (labels_of_place given.syntax.enabled files joined p) it) layers_same
        (subst (λ xs. IsChecked (layers_at given own.module_path) (contents_from given.syntax.enabled (asts_in files) xs) (said_from label_by given.syntax.enabled (asts_in files) xs) it) row_is checked)

    pub contents_are : contents_in it.definitions ≡ m
    contents_are = is.contents

    pub labels_many : length it.labels.items ≡ length (labels_of_place given.syntax.enabled files joined p)
    labels_many = many_labels _ (labels_of_place given.syntax.enabled files joined p) it.labels.items is.labels

    pub variables_resolved : AreVariablesOf given.syntax (contents_in it.definitions) it.variables
    variables_resolved = subst (λ n. AreVariablesOf given.syntax n it.variables) (sym is.contents) is.constants.resolved

    pub is_covered : IsCheckedCovered it
    is_covered = subst (λ (n : Contents). CoversAll it.variables (scope_values it.constants.scope) (constant_expressions n)) (sym is.contents) is.constants.covered

    pub numbers_told : HasNumbers it.variables
    numbers_told = is.constants.numbers

    pub labels_named : names_of_labels it.labels.items ≡ names_of_labels (labels_of_place given.syntax.enabled files joined p)
    labels_named = named_alike _ (labels_of_place given.syntax.enabled files joined p) it.labels.items is.labels

    -- so is what is broken of its recipes
    pub breaks_recipes : (links told : Links) (c : Cause) → BreaksRecipes (layers_at given own.module_path) (evaluated_in it.constants) links told (contents_in it.definitions) c → BreaksPlace given files joined p links told c
    breaks_recipes links told c b =
        recipes_broken layers links m (evaluated_in it.constants) is.constants.evaluated (earlier links) told is.docs c
        (subst (λ (x : Layers). BreaksRecipes x (evaluated_in it.constants) links told m c) layers_same (subst (λ n. BreaksRecipes (layers_at given own.module_path) (evaluated_in it.constants) links told n c) is.contents b))

    pub keeps_place : (links : Links) → Keeps (BreaksRecipes (layers_at given own.module_path) (evaluated_in it.constants) links links (contents_in it.definitions)) → KeepsPlace given files joined p links
    keeps_place links recipes =
        all_kept layers links m (evaluated_in it.constants) is.constants.evaluated (earlier links) is.docs
        (subst (λ (x : Layers). Keeps (BreaksRecipes x (evaluated_in it.constants) links links m)) layers_same (subst (λ n. Keeps (BreaksRecipes (layers_at given own.module_path) (evaluated_in it.constants) links links n)) is.contents recipes))

    -- what is evaluated of it
    abbrev pub evaluated_to : (j : Justfile) → (out-Justfile j).settings ≡ it.constants.settings → (out-Justfile j).overridden ≡ it.constants.overrides
        → IsEvaluatedTo layers m (labels_of_place given.syntax.enabled files joined p) it.labels.items it.constants.overridden.items j
    evaluated_to j same held = record {
      it = evaluated_in it.constants;
      evaluated = is.constants.evaluated;
      settings = sym same;
      documented = is.labels;
      overrides_are = is.constants.overridden;
      overrides_held = λ n. ap (λ o. get same_number o n) held ∙ is.constants.overrides n;
    }

-- the numbers of the recipes of a module's own file are those of its recipes
pub own_numbers : (enabled : Item → Bool) (files : Files) (joined : Joined) (p : ℕ) (own : Ast) → slice_get (asts_in files) p ≡ Some own → Contains (targets joined.files.items p) p
    → (n : ℕ) → Contains (unresolved_numbers (recipes_by enabled (Some own))) n → Contains (unresolved_numbers (recipes_of_place enabled files joined p)) n
own_numbers enabled files joined p own is there n c =
    let own_recipes = recipes_by enabled (Some own) in
    let all = recipes_of_place enabled files joined p in
    let r = from_map (λ (x : Recipe UnresolvedDependency). x.number.0) n own_recipes (is_in n (unresolved_numbers own_recipes) c) in
    let i : In r.0 all = in_flat (λ q. recipes_by enabled (slice_get (asts_in files) q)) r.0 p (targets joined.files.items p) (is_in p (targets joined.files.items p) there) (subst (λ o. In r.0 (recipes_by enabled o)) (sym is) r.1) in
    contained n (unresolved_numbers all) (subst (λ x. In x (unresolved_numbers all)) (sym r.2) (in_map (λ (x : Recipe UnresolvedDependency). x.number.0) r.0 all i))

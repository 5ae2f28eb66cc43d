-- What the constants and the settings of a module come to, by the tables, numbers and sets of the code.
use Rattle.std.proofs.Common.{◌≡◌, ◌∙◌, ◌++◌, Bool, List, Option, Some, ap, map, refl, subst, sym}
use Rattle.std.specs.HashMap.{HashMap, get}
use Rattle.std.specs.List.{All, Contains, flat_map}
use Rattle.std.proofs.lemmas.List.Elements.{All-contains_itself, All-weaker, Contains-append_left}
use Rattle.just_names.specs.Texts.{Text}
use Rattle.just_names.specs.declared.name.Name.{Name}
use Rattle.just_names.specs.declared.number.Number.{Number}
use Rattle.just_errors.specs.Causes.{Keeps, Reports}
use Rattle.just_errors.specs.declared.error.Error.{Error}
use Rattle.just_errors.proofs.Lifts.{reports_by}
use Rattle.just_module_contents.specs.Constants.{AreConstants, AsksConstants, BreaksConstants, IsEvaluated, constant_expressions, recipe_expressions, settings_among, settings_expressions, sets_lists}
use Rattle.just_module_contents.specs.Contents.{Contents}
use Rattle.just_module_contents.specs.Kept.{kept_variables}
use Rattle.just_module_contents.specs.Known.{known_of, variables_under}
use Rattle.just_module_variables.specs.Numbered.{name_of_assignment, numbered_assignment}
use Rattle.just_parts.specs.Evaluator.{Binds, Covers, FaultsAt, bare_set, functions_by_name, set_expressions, scope_values, wanted_by}
use Rattle.just_parts.specs.Known.{Known, known, none_hidden, sources}
use Rattle.just_parts.specs.Layers.{Layers}
use Rattle.just_parts.specs.Needs.{AreNeededBy, HaveNumbersApart, IsClosed, has_number, same_number}
use Rattle.just_ast_definitions.specs.declared.assignment.Assignment.{Assignment}
use Rattle.just_ast_expressions.specs.declared.expression.Expression.{Expression}
use Rattle.just_ast_definitions.specs.declared.function_definition.FunctionDefinition.{FunctionDefinition}
use Rattle.just_ast_expressions.specs.declared.scope.Scope.{Scope}
use Rattle.just_ast_definitions.specs.declared.setting.Set.{Set}
use Rattle.just_ast_expressions.specs.declared.settings.Settings.{Settings}
use Rattle.just_table.specs.Entries.{IsSorted, find}
use Rattle.just_parts.specs.Misnaming.{Misnames}
use Rattle.just_module_variables.specs.Overrides.{last_of, overrides_found}
use Rattle.just_module_variables.specs.Variables.{AreVariables, known_with_numbers}
use Rattle.just_module_variables.proofs.Asking.{misnames_known, misnames_tables, tables_apart, tables_ask, tables_closed, tables_functions, tables_read}
use Rattle.just_module_variables.proofs.Judged.{constants_kept, constants_told, names_told, settings_told}
use Rattle.just_module_variables.proofs.Overriding.{last_overrides, overrides_changed}
use Rattle.just_module_variables.proofs.Substituted.{changed_sorted, made_sorted}

module _ (layers : Layers) (m : Contents) (vs : List (Text × Assignment)) (fs : List (Text × FunctionDefinition)) (order : List Name) (is : AreVariables layers.syntax m vs fs order) where
  abbrev tables : Known
  tables = known layers.syntax vs fs

  pub overrides_by_number : (pairs : List (Number × Text)) → pairs ≡ overrides_found layers.overrides vs → pairs ≡ overrides_found layers.overrides (variables_under m.variables)
  overrides_by_number pairs are =
      are ∙ ap (overrides_found layers.overrides) is.assignments_are
      ∙ overrides_changed layers.overrides (numbered_assignment (known_with_numbers layers.syntax m)) (λ a. refl) (variables_under m.variables)

  -- names in settings
  pub setting_told : (es : List Expression) → es ≡ settings_expressions m → (e : Expression) → Contains es e → (told : Error) → Reports (Misnames tables none_hidden e) told → Reports (BreaksConstants layers m) told
  setting_told es are e there told h =
      names_told layers m e (subst (λ xs. Contains xs e) are there) told
      (reports_by (Misnames tables none_hidden e) (Misnames (known_of layers.syntax m) none_hidden e) (λ c b. misnames_known layers.syntax m vs fs order is b) told h)

  settings_named : (es : List Expression) → es ≡ settings_expressions m → ((e : Expression) → Contains es e → Keeps (Misnames tables none_hidden e))
      → (e : Expression) → Contains (settings_expressions m) e → Keeps (Misnames (known_of layers.syntax m) none_hidden e)
  settings_named es are kept e there c b = kept e (subst (λ xs. Contains xs e) (sym are) there) c (misnames_tables layers.syntax m vs fs order is b)

  tables_sorted : IsSorted vs
  tables_sorted =
      subst IsSorted (sym is.assignments_are)
      (changed_sorted (numbered_assignment (known_with_numbers layers.syntax m)) (variables_under m.variables) (made_sorted name_of_assignment (kept_variables m.variables)))

  module _ (apart : HaveNumbersApart (known_with_numbers layers.syntax m)) {S : Type 0} (pairs : List (Number × Text)) (overrides : HashMap Number Text S) (set : Number → Bool) (es : List Expression)
      (lists : Bool) (sets : List Set) (listed : lists ≡ sets_lists m.sets) (set_are : sets ≡ m.sets) (found : pairs ≡ overrides_found layers.overrides vs) (by_number : (n : Number) → get same_number overrides n ≡ last_of pairs n)
      (are : es ≡ constant_expressions m) (needed : AreNeededBy (sources vs fs) (has_number overrides) es set) where
    says : (name : Text) (a : Assignment) → find name vs ≡ Some a → get same_number overrides a.number ≡ layers.overrides name
    says name a there =
        by_number a.number ∙ ap (λ ps. last_of ps a.number) found
        ∙ last_overrides tables tables_sorted (tables_apart layers.syntax m vs fs order is apart) layers.overrides name a there

    needed_constants : AreNeededBy (sources vs fs) (has_number overrides) (constant_expressions m) set
    needed_constants = subst (λ xs. AreNeededBy (sources vs fs) (has_number overrides) xs set) are needed

    pub asks : AsksConstants layers m (wanted_by vs fs (get same_number overrides) set lists)
    asks =
        subst (λ on. AsksConstants layers m (wanted_by vs fs (get same_number overrides) set on)) (sym listed)
        (tables_ask layers.syntax m vs fs order is layers.overrides (constant_expressions m) (sets_lists m.sets) (get same_number overrides) set says apart needed_constants)

    pub closed : IsClosed (sources vs fs) (has_number overrides) set
    closed = tables_closed layers.syntax m vs fs order is layers.overrides (constant_expressions m) (sets_lists m.sets) (get same_number overrides) set says apart needed_constants

    -- where the constants have no value a fault is told
    pub no_constants : (e : Error) → FaultsAt (layers.evaluator.constants (wanted_by vs fs (get same_number overrides) set lists)) e → Reports (BreaksConstants layers m) e
    no_constants e h = constants_told layers m (wanted_by vs fs (get same_number overrides) set lists) asks e h

    module _ (scope : Scope) (answered : layers.evaluator.constants (wanted_by vs fs (get same_number overrides) set lists) ≡ Some (scope_values scope))
        (binds : Binds vs (wanted_by vs fs (get same_number overrides) set lists) scope) where
      are_constants : AreConstants layers m (scope_values scope)
      are_constants = record { wanted = wanted_by vs fs (get same_number overrides) set lists; asked = asks; answered = answered }

      pub covered : (e : Expression) → Contains (constant_expressions m) e → Covers (sources vs fs) (scope_values scope) e
      covered e there name r =
          binds.exactly name
          ∙ tables_read layers.syntax m vs fs order is layers.overrides (constant_expressions m) (sets_lists m.sets) (get same_number overrides) set says apart needed_constants e there name r

      pub settings_covered : All (Covers (sources vs fs) (scope_values scope)) (flat_map set_expressions sets)
      settings_covered =
          subst (λ (ss : List Set). All (Covers (sources vs fs) (scope_values scope)) (flat_map set_expressions ss)) (sym set_are)
          (All-weaker (Contains (settings_expressions m)) (Covers (sources vs fs) (scope_values scope))
          (λ e there. covered e (Contains-append_left (settings_expressions m ++ flat_map recipe_expressions m.recipes) m.docs e (Contains-append_left (settings_expressions m) (flat_map recipe_expressions m.recipes) e there)))
          (settings_expressions m) (All-contains_itself (settings_expressions m)))

      settings_same : settings_among layers m (scope_values scope) ≡ layers.evaluator.settings (functions_by_name fs) (scope_values scope) (map bare_set sets)
      settings_same =
          let functions = tables_functions layers.syntax m vs fs order is in
          λ i. layers.evaluator.settings (sym functions i) (scope_values scope) (map bare_set (sym set_are i))

      pub no_settings : (e : Error) → FaultsAt (layers.evaluator.settings (functions_by_name fs) (scope_values scope) (map bare_set sets)) e → Reports (BreaksConstants layers m) e
      no_settings e h = settings_told layers m (scope_values scope) are_constants e (subst (λ (o : Option Settings). FaultsAt o e) (sym settings_same) h)

      pub evaluated : (settings : Settings) → layers.evaluator.settings (functions_by_name fs) (scope_values scope) (map bare_set sets) ≡ Some settings → IsEvaluated layers m (record { constants = scope_values scope; settings = settings })
      evaluated settings h = record { constants = are_constants; settings = settings_same ∙ h }

      pub kept : (settings : Settings) → layers.evaluator.settings (functions_by_name fs) (scope_values scope) (map bare_set sets) ≡ Some settings
          → (ss : List Expression) → ss ≡ settings_expressions m → ((e : Expression) → Contains ss e → Keeps (Misnames tables none_hidden e)) → Keeps (BreaksConstants layers m)
      kept settings h ss sets names = constants_kept layers m (record { constants = scope_values scope; settings = settings }) (evaluated settings h) (settings_named ss sets names)

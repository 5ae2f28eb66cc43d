use Rattle.std.proofs.Common.{◌∙◌, List, ap, map, refl, rules, subst, sym}
use Rattle.std.specs.HashMap.{get}
use Rattle.std.specs.HashSet.{contains}
use Rattle.std.proofs.lemmas.Result.{IfErr-weaker}
use Rattle.just_names.specs.Index.{texts_of_names}
use Rattle.just_module_contents.specs.Definitions.{contents_in}
use Rattle.just_module_contents.specs.Recipes.{lent}
use Rattle.just_names.specs.declared.name.Name.{Name}
use Rattle.just_parts.specs.Evaluator.{FaultsAt, bare_set, functions_by_name, scope_values, wanted_by}
use Rattle.just_parts.specs.Known.{known, sources}
use Rattle.just_parts.specs.Layers.{given_by, layers_at}
use Rattle.just_parts.specs.Needs.{same_number}
use Rattle.just_parts.specs.Reading.{IsEvaluationOrder}
use Rattle.just_module_variables.specs.loops.Constants.{TellsFaultIn}
use Rattle.just_module_variables.specs.Overrides.{last_of}
use Rattle.just_module_variables.proofs.Asking.{tables_ordered}
use Rattle.just_module_variables.proofs.Coming.{closed, covered, evaluated, kept, no_constants, no_settings, overrides_by_number, setting_told, settings_covered}
use Rattle.just_module_variables.proofs.constants.evaluate_constants.Goals as goal

pub returns-in_err-check_expressions-clause-named : goal.returns-in_err-check_expressions-clause-named
returns-in_err-check_expressions-clause-named g c =
    let layers = layers_at (given_by g.S.Syntax.answers g.E.ConstantEvaluation.answers c.args.given.now) c.args.path.now in
    let m = contents_in c.args.definitions.now in
    let v = c.args.variables.now in
    let es = lent c.in_ok-settings.settings.items in
    let k = known layers.syntax v.assignments v.functions in
    IfErr-weaker c.from_residual-in_err-check_expressions.result (TellsFaultIn k es) _
    (λ error h. setting_told layers m v.assignments v.functions v.evaluation_order c.requires.variables es c.in_ok-settings.ensures h.e h.there error h.told) (search rules)

pub assignments_const-requires-clause-order : goal.assignments_const-requires-clause-order
assignments_const-requires-clause-order g c =
    let layers = layers_at (given_by g.S.Syntax.answers g.E.ConstantEvaluation.answers c.args.given.now) c.args.path.now in
    let m = contents_in c.args.definitions.now in
    let v = c.args.variables.now in
    subst (λ (ns : List Name). IsEvaluationOrder (sources v.assignments v.functions) (texts_of_names ns)) (sym c.as_slice-2.ensures) (tables_ordered layers.syntax m v.assignments v.functions v.evaluation_order c.requires.variables)

pub assignments_const-requires-clause-closed : goal.assignments_const-requires-clause-closed
assignments_const-requires-clause-closed g c =
    let layers = layers_at (given_by g.S.Syntax.answers g.E.ConstantEvaluation.answers c.args.given.now) c.args.path.now in
    let m = contents_in c.args.definitions.now in
    let v = c.args.variables.now in
    closed layers m v.assignments v.functions v.evaluation_order c.requires.variables c.requires.apart c.in_ok-overridden.overridden.items c.in_ok-overrides.overrides (contains same_number c.in_ok-references.references)
    (lent c.in_ok-expressions.expressions.items) c.sets_lists.result m.sets c.sets_lists.ensures refl c.in_ok-overridden.ensures (λ n. c.in_ok-overrides.ensures n ∙ ap (λ ps. last_of ps n) c.as_slice.ensures.value) c.in_ok-expressions.ensures c.in_ok-references.ensures.needed

pub returns-in_err-scope-clause-named : goal.returns-in_err-scope-clause-named
returns-in_err-scope-clause-named g c =
    let layers = layers_at (given_by g.S.Syntax.answers g.E.ConstantEvaluation.answers c.args.given.now) c.args.path.now in
    let m = contents_in c.args.definitions.now in
    let v = c.args.variables.now in
    IfErr-weaker c.from_residual-in_err-scope.result (FaultsAt (layers.evaluator.constants (wanted_by v.assignments v.functions (get same_number c.in_ok-overrides.overrides) (contains same_number c.in_ok-references.references) c.sets_lists.result))) _
    (no_constants layers m v.assignments v.functions v.evaluation_order c.requires.variables c.requires.apart c.in_ok-overridden.overridden.items c.in_ok-overrides.overrides (contains same_number c.in_ok-references.references)
    (lent c.in_ok-expressions.expressions.items) c.sets_lists.result m.sets c.sets_lists.ensures refl c.in_ok-overridden.ensures (λ n. c.in_ok-overrides.ensures n ∙ ap (λ ps. last_of ps n) c.as_slice.ensures.value) c.in_ok-expressions.ensures c.in_ok-references.ensures.needed) (search rules)

pub settings_of-requires : goal.settings_of-requires
settings_of-requires g c =
    let layers = layers_at (given_by g.S.Syntax.answers g.E.ConstantEvaluation.answers c.args.given.now) c.args.path.now in
    let m = contents_in c.args.definitions.now in
    let v = c.args.variables.now in
    settings_covered layers m v.assignments v.functions v.evaluation_order c.requires.variables c.requires.apart c.in_ok-overridden.overridden.items c.in_ok-overrides.overrides (contains same_number c.in_ok-references.references)
    (lent c.in_ok-expressions.expressions.items) c.sets_lists.result m.sets c.sets_lists.ensures refl c.in_ok-overridden.ensures (λ n. c.in_ok-overrides.ensures n ∙ ap (λ ps. last_of ps n) c.as_slice.ensures.value) c.in_ok-expressions.ensures c.in_ok-references.ensures.needed
    c.in_ok-scope.scope c.in_ok-scope.ensures.constants c.in_ok-scope.ensures.binds

pub returns-in_err-settings-2-clause-named : goal.returns-in_err-settings-2-clause-named
returns-in_err-settings-2-clause-named g c =
    let layers = layers_at (given_by g.S.Syntax.answers g.E.ConstantEvaluation.answers c.args.given.now) c.args.path.now in
    let m = contents_in c.args.definitions.now in
    let v = c.args.variables.now in
    IfErr-weaker c.from_residual-in_err-settings-2.result (FaultsAt (layers.evaluator.settings (functions_by_name v.functions) (scope_values c.in_ok-scope.scope) (map bare_set m.sets))) _
    (no_settings layers m v.assignments v.functions v.evaluation_order c.requires.variables c.requires.apart c.in_ok-overridden.overridden.items c.in_ok-overrides.overrides (contains same_number c.in_ok-references.references)
    (lent c.in_ok-expressions.expressions.items) c.sets_lists.result m.sets c.sets_lists.ensures refl c.in_ok-overridden.ensures (λ n. c.in_ok-overrides.ensures n ∙ ap (λ ps. last_of ps n) c.as_slice.ensures.value) c.in_ok-expressions.ensures c.in_ok-references.ensures.needed
    c.in_ok-scope.scope c.in_ok-scope.ensures.constants c.in_ok-scope.ensures.binds) (search (rules, c.in_err-settings-2.ensures.refused, c.from_residual-in_err-settings-2.ensures))

pub returns-clause-kept : goal.returns-clause-kept
returns-clause-kept g c =
    let layers = layers_at (given_by g.S.Syntax.answers g.E.ConstantEvaluation.answers c.args.given.now) c.args.path.now in
    let m = contents_in c.args.definitions.now in
    let v = c.args.variables.now in
    kept layers m v.assignments v.functions v.evaluation_order c.requires.variables c.requires.apart c.in_ok-overridden.overridden.items c.in_ok-overrides.overrides (contains same_number c.in_ok-references.references)
    (lent c.in_ok-expressions.expressions.items) c.sets_lists.result m.sets c.sets_lists.ensures refl c.in_ok-overridden.ensures (λ n. c.in_ok-overrides.ensures n ∙ ap (λ ps. last_of ps n) c.as_slice.ensures.value) c.in_ok-expressions.ensures c.in_ok-references.ensures.needed
    c.in_ok-scope.scope c.in_ok-scope.ensures.constants c.in_ok-scope.ensures.binds c.in_ok-settings-2.settings c.in_ok-settings-2.ensures.settings (lent c.in_ok-settings.settings.items) c.in_ok-settings.ensures c.in_ok-check_expressions.ensures.kept

pub returns-clause-evaluated : goal.returns-clause-evaluated
returns-clause-evaluated g c =
    let layers = layers_at (given_by g.S.Syntax.answers g.E.ConstantEvaluation.answers c.args.given.now) c.args.path.now in
    let m = contents_in c.args.definitions.now in
    let v = c.args.variables.now in
    evaluated layers m v.assignments v.functions v.evaluation_order c.requires.variables c.requires.apart c.in_ok-overridden.overridden.items c.in_ok-overrides.overrides (contains same_number c.in_ok-references.references)
    (lent c.in_ok-expressions.expressions.items) c.sets_lists.result m.sets c.sets_lists.ensures refl c.in_ok-overridden.ensures (λ n. c.in_ok-overrides.ensures n ∙ ap (λ ps. last_of ps n) c.as_slice.ensures.value) c.in_ok-expressions.ensures c.in_ok-references.ensures.needed
    c.in_ok-scope.scope c.in_ok-scope.ensures.constants c.in_ok-scope.ensures.binds c.in_ok-settings-2.settings c.in_ok-settings-2.ensures.settings

pub returns-clause-covered : goal.returns-clause-covered
returns-clause-covered g c =
    let layers = layers_at (given_by g.S.Syntax.answers g.E.ConstantEvaluation.answers c.args.given.now) c.args.path.now in
    let m = contents_in c.args.definitions.now in
    let v = c.args.variables.now in
    covered layers m v.assignments v.functions v.evaluation_order c.requires.variables c.requires.apart c.in_ok-overridden.overridden.items c.in_ok-overrides.overrides (contains same_number c.in_ok-references.references)
    (lent c.in_ok-expressions.expressions.items) c.sets_lists.result m.sets c.sets_lists.ensures refl c.in_ok-overridden.ensures (λ n. c.in_ok-overrides.ensures n ∙ ap (λ ps. last_of ps n) c.as_slice.ensures.value) c.in_ok-expressions.ensures c.in_ok-references.ensures.needed
    c.in_ok-scope.scope c.in_ok-scope.ensures.constants c.in_ok-scope.ensures.binds

pub returns-clause-overridden : goal.returns-clause-overridden
returns-clause-overridden g c =
    let layers = layers_at (given_by g.S.Syntax.answers g.E.ConstantEvaluation.answers c.args.given.now) c.args.path.now in
    let m = contents_in c.args.definitions.now in
    let v = c.args.variables.now in
    overrides_by_number layers m v.assignments v.functions v.evaluation_order c.requires.variables c.in_ok-overridden.overridden.items c.in_ok-overridden.ensures

pub returns-clause-overrides : goal.returns-clause-overrides
returns-clause-overrides g c n = c.in_ok-overrides.ensures n ∙ ap (λ ps. last_of ps n) c.as_slice.ensures.value

use Rattle.std.proofs.Common.{◌≡◌, ◌∙◌, IfErr, IfOk, List, Some, map, subst, sym}
use Rattle.std.specs.List.{All, flat_map}
use Rattle.just_parts.specs.Evaluator.{Covers, FaultsAt, bare_set, functions_by_name, set_expressions, scope_values}
use Rattle.just_parts.specs.Known.{sources}
use Rattle.just_ast_definitions.specs.declared.setting.Set.{Set}
use Rattle.just_module_variables.proofs.constants.settings_of.Goals as goal

pub sets-requires : goal.sets-requires
sets-requires g c =
    let v = c.args.variables.now in
    record {
      covered =
          subst (λ (ss : List Set). All (Covers (sources v.assignments v.functions) (scope_values c.args.constants.now)) (flat_map set_expressions ss))
          (sym (c.as_slice.ensures.value ∙ c.in_ok-sets.ensures)) c.requires;
    }

pub returns-clause-settings : goal.returns-clause-settings
returns-clause-settings g c =
    let answer = (g.E.ConstantEvaluation.answers c.args.evaluation.now).settings (functions_by_name c.args.variables.now.functions) (scope_values c.args.constants.now) in
    subst (λ (ss : List Set). IfOk c.sets.result (λ made. answer (map bare_set ss) ≡ Some made)) (c.as_slice.ensures.value ∙ c.in_ok-sets.ensures) c.sets.ensures.settings

pub returns-clause-refused : goal.returns-clause-refused
returns-clause-refused g c =
    let answer = (g.E.ConstantEvaluation.answers c.args.evaluation.now).settings (functions_by_name c.args.variables.now.functions) (scope_values c.args.constants.now) in
    subst (λ (ss : List Set). IfErr c.sets.result (FaultsAt (answer (map bare_set ss)))) (c.as_slice.ensures.value ∙ c.in_ok-sets.ensures) c.sets.ensures.refused

use Rattle.std.proofs.Common.{◌≡◌, ap, subst, Bool, Some}
use Rattle.std.specs.HashMap.{get}
use Rattle.std.specs.Option.{option_map}
use Rattle.just_names.specs.declared.number.Number.{Number}
use Rattle.just_parts.specs.Evaluator.{Binds, FaultsAt, wanted_by}
use Rattle.just_parts.specs.Needs.{same_number}
use Rattle.just_run_layers.specs.Evaluation.{context_contents_of, set_of}
use Rattle.just_bench_values.specs.Constants.{constants_of, scope_along, scope_of}
use Rattle.just_bench_values.proofs.Told.{faults_on}
use Rattle.just_bench_evaluation.specs.Answered.{run_scope}
use Rattle.just_bench_evaluation.proofs.Gives.{gives_error}
use Rattle.just_bench_evaluation.proofs.variables.run_scope.Goals as goal

pub returns-in-Ok-clause-binds : goal.returns-in-Ok-clause-binds
returns-in-Ok-clause-binds c =
    let x = c.args.context.now in
    subst (λ (asked : Number → Bool). Binds x.assignments.now (wanted_by x.assignments.now x.functions.now (get same_number x.overrides.now) asked x.settings.now.lists) c.in-Ok.scope)
    c.numbers_of.ensures (c.in-Ok.ensures.binds x.settings.now.lists)

pub returns-in-Ok-clause-gives : goal.returns-in-Ok-clause-gives
returns-in-Ok-clause-gives c =
    let x = c.args.context.now in
    subst (λ (asked : Number → Bool). scope_of x.assignments.now x.evaluation_order.now (wanted_by x.assignments.now x.functions.now (get same_number x.overrides.now) asked x.settings.now.lists) ≡ Some c.in-Ok.scope)
    c.numbers_of.ensures (c.in-Ok.ensures.exactly x.settings.now.lists)

pub returns-in-Err-clause-gives : goal.returns-in-Err-clause-gives
returns-in-Err-clause-gives c =
    let x = c.args.context.now in
    let fault = subst (λ (asked : Number → Bool). FaultsAt (constants_of (wanted_by x.assignments.now x.functions.now (get same_number x.overrides.now) asked x.settings.now.lists)) c.in-Err.error)
    c.numbers_of.ensures (c.in-Err.ensures.refused x.settings.now.lists) in
    gives_error (run_scope (context_contents_of x) (set_of c.args.set)) c.in-Err.error c.refusal_of.result
    (faults_on (λ none. ap (option_map (scope_along x.assignments.now x.evaluation_order.now)) none) c.in-Err.error fault) c.refusal_of.ensures

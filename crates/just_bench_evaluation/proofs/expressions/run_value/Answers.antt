use Rattle.std.proofs.Common.{subst}
use Rattle.just_ast_definitions.specs.declared.function_definition.FunctionDefinition.{FunctionDefinition}
use Rattle.just_parts.specs.Evaluator.{FaultsAt}
use Rattle.just_run_layers.specs.Evaluation.{context_contents_of}
use Rattle.just_bench_evaluation.specs.Answered.{run_value, value_behind}
use Rattle.just_bench_evaluation.proofs.Gives.{gives_error}
use Rattle.just_bench_evaluation.proofs.expressions.run_value.Goals as goal

pub returns : goal.returns
returns c =
    let context = context_contents_of c.args.context.now in
    let fault = subst (λ (f : FunctionDefinition). FaultsAt (value_behind f context c.args.scope.now c.args.expression.now) c.in-Err.error) c.in_ok-dependency.ensures c.in-Err.ensures.0 in
    gives_error (run_value context c.args.is_dependency c.args.scope.now c.args.expression.now) c.in-Err.error c.refusal_of.result fault c.refusal_of.ensures

use Rattle.std.proofs.Common.{[], rules}
use Rattle.just_run_layers.specs.Evaluation.{surroundings}
use Rattle.just_execution.proofs.Asked.{value-given, value-refused}
use Rattle.just_execution.proofs.arguments.ask_value.Goals as goal

pub returns-in-Ok-clause-took : goal.returns-in-Ok-clause-took
returns-in-Ok-clause-took g c =
    value-given (g.E.Evaluation.promised c.args.evaluation.now) _ _ c.in-Ok.ensures.unrequested (surroundings c.args.context.now c.args.scope.now c.args.is_dependency []) c.args.expression.now c.in-Ok.value c.in-Ok.ensures.answers

pub returns-in-Err-Fault-clause-took : goal.returns-in-Err-Fault-clause-took
returns-in-Err-Fault-clause-took g c =
    value-refused (g.E.Evaluation.promised c.args.evaluation.now) _ _ c.in-Err-Fault.ensures.unrequested (surroundings c.args.context.now c.args.scope.now c.args.is_dependency []) c.args.expression.now c.in-Err-Fault.fault _
    (search rules) c.in-Err-Fault.ensures.answers

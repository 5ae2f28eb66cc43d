use Rattle.std.proofs.Common.{rules}
use Rattle.just_tasks.specs.Scene.{scope_contents_of}
use Rattle.just_execution.proofs.Asked.{parameters-given, parameters-refused}
use Rattle.just_execution.proofs.questions.ask_parameters.Goals as goal

pub returns-in-Ok-clause-took : goal.returns-in-Ok-clause-took
returns-in-Ok-clause-took g c =
    parameters-given (g.E.Evaluation.promised c.args.evaluation.now) _ _ c.in-Ok.ensures.unrequested c.args.recipe.now c.args.task.now (scope_contents_of c.args.home.now) c.as_slice.result.now c.lexeme.result.now (search rules) (search rules) c.in-Ok.held c.in-Ok.ensures.answers

pub returns-in-Err-Fault-clause-took : goal.returns-in-Err-Fault-clause-took
returns-in-Err-Fault-clause-took g c =
    parameters-refused (g.E.Evaluation.promised c.args.evaluation.now) _ _ c.in-Err-Fault.ensures.unrequested c.args.recipe.now c.args.task.now (scope_contents_of c.args.home.now) c.as_slice.result.now c.lexeme.result.now (search rules) (search rules) c.in-Err-Fault.fault _
    (search rules) c.in-Err-Fault.ensures.answers

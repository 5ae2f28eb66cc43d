use Rattle.just_tail.proofs.CheckLemmas.{lacking_stops, unfit_stops}
use Rattle.just_parts.specs.Evaluator.{count_fault_of}
use Rattle.just_tail.proofs.arguments.take_arguments.Goals as goal

pub returns-in-Err-check_present-clause-err : goal.returns-in-Err-check_present-clause-err
returns-in-Err-check_present-clause-err g c =
    lacking_stops (count_fault_of (g.E.ConstantEvaluation.answers c.args.evaluation.now) c.args.recipe.now) c.args.parameters.now c.args.words.now c.in-Ok.tail c.deref.result.now
    c.in-Err-check_present.e c.in-Ok.ensures.tail c.deref.ensures.value c.in-Err-check_present.ensures.err

pub returns-clause-err : goal.returns-clause-err
returns-clause-err g c =
    unfit_stops (count_fault_of (g.E.ConstantEvaluation.answers c.args.evaluation.now) c.args.recipe.now) c.args.parameters.now c.args.words.now c.in-Ok.tail c.deref.result.now c.deref-2.result.now
    c.in-Err-check_groups.e c.in-Ok.ensures.tail c.deref.ensures.value c.deref-2.ensures.value c.in-Ok-check_present.ensures.ok c.in-Err-check_groups.ensures.err

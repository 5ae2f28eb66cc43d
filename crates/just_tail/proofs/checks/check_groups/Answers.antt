use Rattle.std.proofs.Common.{None, arith}
use Rattle.just_tail.proofs.CheckLemmas.{unfit_at, unfit_told}
use Rattle.just_parts.specs.Evaluator.{count_fault_of}
use Rattle.just_tail.proofs.checks.check_groups.Goals as goal

pub returns-in-Err-clause-err : goal.returns-in-Err-clause-err
returns-in-Err-clause-err g c =
    unfit_told (count_fault_of (g.E.ConstantEvaluation.answers c.args.evaluation.now) c.args.recipe.now) c.args.parameters.now c.args.groups.now c.loop-place.place
    c.index-parameters-place.result c.index-groups-place.result c.deref.result.now c.in-Err.e (omega arith) c.requires
    c.index-parameters-place.is c.index-groups-place.is c.deref.ensures.value c.loop-place.invariant c.in-Err.ensures.err

pub loop-place-preserved : goal.loop-place-preserved
loop-place-preserved g c =
    unfit_at (count_fault_of (g.E.ConstantEvaluation.answers c.args.evaluation.now) c.args.recipe.now) c.args.parameters.now c.args.groups.now c.loop-place.place
    c.index-parameters-place.result c.index-groups-place.result c.deref.result.now None (omega arith) c.requires
    c.index-parameters-place.is c.index-groups-place.is c.deref.ensures.value c.loop-place.invariant c.in-Ok.ensures.ok

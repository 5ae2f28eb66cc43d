use Rattle.std.proofs.Common.{[], ◌∷◌}
use Rattle.std.proofs.lemmas.Result.{IfErr-weaker}
use Rattle.just_errors.specs.Causes.{Reports}
use Rattle.just_parts.specs.Evaluator.{FaultsAt}
use Rattle.just_recipe_values.specs.Among.{value_in_module}
use Rattle.just_recipe_values.specs.loops.Judged.{Faults}
use Rattle.just_recipe_values.proofs.Judging.{value_told}
use Rattle.just_recipe_values.proofs.properties.value_of.Goals as goal

pub returns-clause-named : goal.returns-clause-named
returns-clause-named g c =
    let value = value_in_module (g.E.ConstantEvaluation.answers c.args.among.now.evaluation.now) c.args.among.now in
    let e = c.args.expression.now in
    IfErr-weaker c.value_const.result (FaultsAt (value e)) (Reports (Faults value (e ∷ []) [])) (value_told value e) c.value_const.ensures.refused

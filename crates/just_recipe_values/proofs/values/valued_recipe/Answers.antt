use Rattle.std.proofs.Common.{rules}
use Rattle.std.proofs.lemmas.Result.{IfErr-weaker}
use Rattle.just_errors.specs.Causes.{Reports}
use Rattle.just_module_contents.specs.Constants.{recipe_expressions}
use Rattle.just_module_contents.specs.RecipeValues.{patterns_of}
use Rattle.just_recipe_values.specs.Among.{value_in_module}
use Rattle.just_recipe_values.specs.loops.Judged.{Faults}
use Rattle.just_recipe_values.proofs.Judging.{faults_told, values_kept}
use Rattle.just_recipe_values.proofs.values.valued_recipe.Goals as goal

pub returns-in_err-attributes-clause-named : goal.returns-in_err-attributes-clause-named
returns-in_err-attributes-clause-named g c =
    let value = value_in_module (g.E.ConstantEvaluation.answers c.args.among.now.evaluation.now) c.args.among.now in
    let r = c.args.recipe in
    IfErr-weaker c.from_residual.result (Reports (Faults value (recipe_expressions r) (patterns_of r))) _ (faults_told value r) (search rules)

pub returns-clause-kept : goal.returns-clause-kept
returns-clause-kept g c =
    values_kept (value_in_module (g.E.ConstantEvaluation.answers c.args.among.now.evaluation.now) c.args.among.now) c.args.recipe c.in_ok-attributes.ensures.kept

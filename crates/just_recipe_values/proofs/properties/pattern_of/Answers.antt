use Rattle.std.proofs.Common.{rules, ◌∙◌, [], ◌∷◌, sym}
use Rattle.std.proofs.lemmas.Result.{IfErr-weaker}
use Rattle.just_errors.specs.Causes.{Reports}
use Rattle.just_patterns.specs.Pattern.{RefusesPattern}
use Rattle.just_recipe_values.specs.Among.{value_in_module}
use Rattle.just_recipe_values.specs.loops.Judged.{Faults}
use Rattle.just_recipe_values.proofs.Judging.{refused_told, text_told}
use Rattle.just_recipe_values.proofs.properties.pattern_of.Goals as goal

pub returns-in_err-text-clause-named : goal.returns-in_err-text-clause-named
returns-in_err-text-clause-named g c =
    let value = value_in_module (g.E.ConstantEvaluation.answers c.args.among.now.evaluation.now) c.args.among.now in
    let said = c.args.argument.now.pattern_property in
    let p = c.in-Some.property in
    IfErr-weaker c.from_residual-in_err-text.result (Reports (Faults value (p.value ∷ []) [])) _ (text_told value said p c.in-Some.is) (search rules)

pub returns-in_err-new-in-Some-2-clause-named : goal.returns-in_err-new-in-Some-2-clause-named
returns-in_err-new-in-Some-2-clause-named g c =
    let value = value_in_module (g.E.ConstantEvaluation.answers c.args.among.now.evaluation.now) c.args.among.now in
    let said = c.args.argument.now.pattern_property in
    let p = c.in-Some.property in
    let text = c.in-Some-2.text in
    IfErr-weaker c.from_residual-in_err-new-in-Some-2.result (RefusesPattern text c.copied.result) _
    (refused_told value said p c.in-Some.is text (sym c.in_ok-text.ensures.text ∙ c.in-Some-2.is) c.copied.result c.copied.ensures) (search rules)

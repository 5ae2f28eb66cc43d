use Rattle.std.proofs.Common.{rules, []}
use Rattle.std.specs.Option.{option_to_list}
use Rattle.std.proofs.lemmas.List.Elements.{Contains-append_left, Contains-append_right}
use Rattle.std.proofs.lemmas.Result.{IfErr-weaker}
use Rattle.just_errors.specs.Causes.{Reports}
use Rattle.just_parts.specs.Scopes.{property_expressions}
use Rattle.just_recipe_values.specs.Among.{value_in_module}
use Rattle.just_recipe_values.specs.loops.Judged.{Faults}
use Rattle.just_recipe_values.proofs.Judging.{sound_both, told_left, told_right}
use Rattle.just_recipe_values.proofs.attributes.valued_argument.Goals as goal

pub help_of-requires : goal.help_of-requires
help_of-requires g c =
    let a = c.args.argument in
    λ e there. c.requires e (Contains-append_left (property_expressions a.help_property) (property_expressions a.pattern_property) e there)

pub returns-in_err-help-clause-named : goal.returns-in_err-help-clause-named
returns-in_err-help-clause-named g c =
    let value = value_in_module (g.E.ConstantEvaluation.answers c.args.among.now.evaluation.now) c.args.among.now in
    let a = c.args.argument in
    IfErr-weaker c.from_residual.result (Reports (Faults value (property_expressions a.help_property) [])) _
    (told_left value (property_expressions a.help_property) (property_expressions a.pattern_property) [] (option_to_list a.pattern_property)) (search rules)

pub pattern_of-requires : goal.pattern_of-requires
pattern_of-requires g c =
    let a = c.args.argument in
    λ e there. c.requires e (Contains-append_right (property_expressions a.help_property) (property_expressions a.pattern_property) e there)

pub returns-in_err-pattern-clause-named : goal.returns-in_err-pattern-clause-named
returns-in_err-pattern-clause-named g c =
    let value = value_in_module (g.E.ConstantEvaluation.answers c.args.among.now.evaluation.now) c.args.among.now in
    let a = c.args.argument in
    IfErr-weaker c.from_residual-in_err-pattern.result (Reports (Faults value (property_expressions a.pattern_property) (option_to_list a.pattern_property))) _
    (told_right value (property_expressions a.help_property) (property_expressions a.pattern_property) [] (option_to_list a.pattern_property)) (search rules)

pub returns-clause-kept : goal.returns-clause-kept
returns-clause-kept g c =
    let value = value_in_module (g.E.ConstantEvaluation.answers c.args.among.now.evaluation.now) c.args.among.now in
    let a = c.args.argument in
    sound_both value (property_expressions a.help_property) (property_expressions a.pattern_property) [] (option_to_list a.pattern_property) c.in_ok-help.ensures.kept c.in_ok-pattern.ensures.kept

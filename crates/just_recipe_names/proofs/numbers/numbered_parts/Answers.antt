use Rattle.std.proofs.Common.{◌≡◌, ◌∙◌, [], ap, map, true, if◌then◌else◌}
use Rattle.std.specs.HashMap.{get}
use Rattle.std.specs.Map.{lookup}
use Rattle.std.specs.Option.{option_or}
use Rattle.std.specs.Str.{bytes_eq}
use Rattle.just_ast_expressions.specs.declared.expression.Expression.{Expression}
use Rattle.just_ast_references.specs.Numbers.{with_numbers}
use Rattle.just_recipe.specs.Script.{is_script}
use Rattle.just_recipe_names.specs.Numbered.{dependency_by, line_by, attribute_with, number_under, parameter_number, shell_lines_by, under_parameters}
use Rattle.just_recipe_names.proofs.numbers.numbered_parts.Goals as goal

pub returns-clause-attributes : goal.returns-clause-attributes
returns-clause-attributes g c =
    let answers = g.S.Syntax.answers c.args.syntax.now in
    let variable = get bytes_eq c.args.bindings.now in
    let r = c.args.recipe.now in
    c.in_ok-attributes.ensures
    ∙ (λ k. map (attribute_with
    (with_numbers (λ name. option_or (lookup (bytes_eq name) (c.new-none.ensures.empty k)) (option_or (variable name) (answers.constant name))))
    (with_numbers (λ name. option_or ((c.in_ok-all.ensures name ∙ ap (λ ps. parameter_number ps name) c.as_slice.ensures) k) (option_or (variable name) (answers.constant name)))))
    (c.as_slice-2.ensures k))

pub returns-clause-body : goal.returns-clause-body
returns-clause-body g c =
    let answers = g.S.Syntax.answers c.args.syntax.now in
    let variable = get bytes_eq c.args.bindings.now in
    let r = c.args.recipe.now in
    c.in_ok-body.ensures
    ∙ ap (λ (by : Expression → Expression). if is_script r c.args.settings.now then map (line_by by) r.body else shell_lines_by by answers c.args.settings.now true r.body)
    (λ k. with_numbers (λ name. option_or ((c.in_ok-all.ensures name ∙ ap (λ ps. parameter_number ps name) c.as_slice.ensures) k) (option_or (variable name) (answers.constant name))))

pub returns-clause-dependencies : goal.returns-clause-dependencies
returns-clause-dependencies g c =
    let answers = g.S.Syntax.answers c.args.syntax.now in
    let variable = get bytes_eq c.args.bindings.now in
    let r = c.args.recipe.now in
    c.in_ok-dependencies.ensures
    ∙ (λ k. map (dependency_by
    (with_numbers (λ name. option_or ((c.in_ok-all.ensures name ∙ ap (λ ps. parameter_number ps name) c.as_slice.ensures) k) (option_or (variable name) (answers.constant name)))))
    (c.as_slice-3.ensures k))

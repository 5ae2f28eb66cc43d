use Rattle.std.proofs.Common.{◌∙◌, ◌++◌, []}
use Rattle.std.specs.HashMap.{get}
use Rattle.std.specs.Option.{option_or}
use Rattle.std.specs.Str.{bytes_eq}
use Rattle.just_ast_references.specs.Numbers.{with_numbers}
use Rattle.just_recipe_names.specs.Numbered.{number_under, numbered_parameters, parameter_by}
use Rattle.just_recipe_names.proofs.Seen.{numbered_more, seen_more}
use Rattle.just_recipe_names.proofs.numbers.numbered_parameters.Goals as goal

pub loop-parameter-preserved : goal.loop-parameter-preserved
loop-parameter-preserved g c =
    let answers = g.S.Syntax.answers c.args.syntax.now in
    let variable = get bytes_eq c.args.bindings.now in
    let ps = c.args.parameters.now in
    let i = c.loop-parameter.parameter-index in
    let p = c.parameter-item.result in
    let seen = c.loop-parameter.invariant.0 in (
      seen_more ps i p c.loop-parameter-test.true c.parameter-item.is (get bytes_eq c.loop-parameter.seen) (get bytes_eq c.see.new.numbers) seen c.in_ok-see.ensures,
      numbered_more ps i p c.loop-parameter-test.true c.parameter-item.is (number_under variable answers) (numbered_parameters (number_under variable answers) [] ps)
          c.loop-parameter.made.items c.push.new.self.items c.in_ok-numbered_parameter.field-0 c.loop-parameter.invariant.1
          (c.in_ok-numbered_parameter.ensures ∙ (λ k. parameter_by (with_numbers (λ name. option_or (seen name k) (option_or (variable name) (answers.constant name)))) p))
          c.in_ok-push.ensures.items,
    )

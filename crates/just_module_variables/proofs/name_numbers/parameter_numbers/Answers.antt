use Rattle.std.proofs.Common.{◌∙◌, ap, sym, take}
use Rattle.std.specs.HashMap.{get}
use Rattle.std.specs.Str.{bytes_eq}
use Rattle.just_names.specs.Name.{text_of_name}
use Rattle.just_ast_definitions.specs.declared.function_definition.FunctionParameter.{FunctionParameter}
use Rattle.just_module_variables.specs.Numbered.{function_parameter_number}
use Rattle.just_module_variables.proofs.Numbers.{numbers_more}
use Rattle.just_module_variables.proofs.Steps.{take_item}
use Rattle.just_module_variables.proofs.name_numbers.parameter_numbers.Goals as goal

pub loop-parameter-preserved : goal.loop-parameter-preserved
loop-parameter-preserved c = λ name.
    let i = c.loop-parameter.parameter-index in
    numbers_more (λ (p : FunctionParameter). text_of_name p.name) (λ (p : FunctionParameter). p.number) (take i c.args.parameters.now) c.parameter-item.result (get bytes_eq c.loop-parameter.numbers)
    (get bytes_eq c.insert.new.self) c.new-name.result c.loop-parameter.invariant (c.new-name.ensures ∙ c.lexeme.ensures) c.in_ok-insert.ensures.updates.0 name
    ∙ ap (λ ps. function_parameter_number ps name) (sym (take_item c.args.parameters.now i c.parameter-item.result c.loop-parameter-test.true c.parameter-item.is))

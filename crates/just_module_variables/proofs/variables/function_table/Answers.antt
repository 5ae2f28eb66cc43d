use Rattle.std.proofs.Common.{◌≡◌, ◌∙◌, ap, length, arith}
use Rattle.std.proofs.lemmas.List.{take_all}
use Rattle.std.proofs.lemmas.Grind.{common_steps}
use Rattle.just_module_contents.specs.Definitions.{functions_in}
use Rattle.just_module_contents.proofs.RecipePlaces.{length-lent}
use Rattle.just_module_contents.specs.Known.{functions_under}
use Rattle.just_names.specs.Name.{text_of_name}
use Rattle.just_ast_definitions.specs.declared.function_definition.FunctionDefinition.{FunctionDefinition}
use Rattle.just_module_variables.proofs.Copies.{one_put}
use Rattle.just_module_variables.proofs.variables.function_table.Goals as goal

pub loop-place-preserved : goal.loop-place-preserved
loop-place-preserved c =
    let copied = c.in_ok-clone.ensures.cases in
    let same : c.in_ok-clone.field-0 ≡ c.function_at.result.now = λ i. record { name = copied.0 i; parameters = copied.1.0 i; body = copied.1.1 i } in
    one_put (λ (f : FunctionDefinition). text_of_name f.name) (functions_in c.args.definitions.now) c.loop-place.functions c.insert.new.self c.loop-place.place c.function_at.result.now c.in_ok-clone.field-0 c.loop-place.invariant c.function_at.ensures same c.in_ok-insert.ensures.new

pub returns : goal.returns
returns c =
    let long : length (functions_in c.args.definitions.now) ≡ length c.args.definitions.now.functions.items = length-lent c.args.definitions.now.functions.items in
    let count : c.len-place-end.result ≡ length c.args.definitions.now.functions.items = grind (arith, common_steps) in
    c.loop-place.invariant ∙ ap functions_under (take_all c.loop-place.place (functions_in c.args.definitions.now) (omega arith))

use Rattle.std.proofs.Common.{◌≡◌, ◌∙◌, [], ap, length, arith}
use Rattle.std.proofs.lemmas.List.{take_all}
use Rattle.std.proofs.lemmas.Grind.{common_steps}
use Rattle.just_names.specs.Name.{text_of_name}
use Rattle.just_ast_definitions.specs.declared.assignment.Assignment.{Assignment}
use Rattle.just_table.specs.Entries.{put_all}
use Rattle.just_module_contents.specs.Definitions.{variables_in}
use Rattle.just_module_contents.proofs.RecipePlaces.{length-lent}
use Rattle.just_module_variables.proofs.Copies.{one_put}
use Rattle.just_module_variables.proofs.variables.variable_table.Goals as goal

pub loop-place-preserved : goal.loop-place-preserved
loop-place-preserved c =
    one_put (λ (a : Assignment). text_of_name a.name) (variables_in c.args.definitions.now) c.loop-place.variables c.insert.new.self c.loop-place.place c.variable_at.result.now c.in_ok-copied.field-0 c.loop-place.invariant c.variable_at.ensures c.in_ok-copied.ensures c.in_ok-insert.ensures.new

pub returns : goal.returns
returns c =
    let long : length (variables_in c.args.definitions.now) ≡ length c.args.definitions.now.variables.items = length-lent c.args.definitions.now.variables.items in
    let count : c.len-place-end.result ≡ length c.args.definitions.now.variables.items = grind (arith, common_steps) in
    c.loop-place.invariant ∙ ap (put_all (λ (a : Assignment). text_of_name a.name) []) (take_all c.loop-place.place (variables_in c.args.definitions.now) (omega arith))

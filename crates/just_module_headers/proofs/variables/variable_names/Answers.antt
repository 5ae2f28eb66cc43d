use Rattle.std.proofs.Common.{◌≡◌, length, arith}
use Rattle.std.proofs.lemmas.Grind.{common_steps}
use Rattle.just_ast_definitions.specs.declared.assignment.Assignment.{Assignment}
use Rattle.just_module_contents.specs.Definitions.{variables_in}
use Rattle.just_module_contents.proofs.Mapping.{mapped_all, mapped_more}
use Rattle.just_module_contents.proofs.RecipePlaces.{length-lent}
use Rattle.just_module_headers.proofs.variables.variable_names.Goals as goal

pub loop-place-preserved : goal.loop-place-preserved
loop-place-preserved c =
    mapped_more (λ (a : Assignment). a.name) (variables_in c.args.definitions.now) c.loop-place.names.items c.push.new.self.items c.loop-place.place c.variable_at.result.now c.copied.result c.loop-place.invariant c.variable_at.ensures c.copied.ensures c.in_ok-push.ensures.items

pub returns : goal.returns
returns c =
    let long : length (variables_in c.args.definitions.now) ≡ length c.args.definitions.now.variables.items = length-lent c.args.definitions.now.variables.items in
    let count : c.len-place-end.result ≡ length c.args.definitions.now.variables.items = grind (arith, common_steps) in
    mapped_all (λ (a : Assignment). a.name) (variables_in c.args.definitions.now) c.loop-place.names.items c.loop-place.place (omega arith) c.loop-place.invariant

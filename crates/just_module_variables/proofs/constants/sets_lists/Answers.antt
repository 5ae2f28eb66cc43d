use Rattle.std.proofs.Common.{◌≡◌, arith, length}
use Rattle.std.proofs.lemmas.Grind.{common_steps}
use Rattle.just_module_contents.specs.Constants.{is_lists}
use Rattle.just_module_contents.specs.Definitions.{sets_in}
use Rattle.just_module_contents.proofs.RecipePlaces.{length-lent}
use Rattle.just_ast_definitions.specs.declared.setting.Set.{Set}
use Rattle.just_module_variables.proofs.Walking.{any_here, any_more, any_none}
use Rattle.just_module_variables.proofs.constants.sets_lists.Goals as goal

pub loop-place-preserved : goal.loop-place-preserved
loop-place-preserved c =
    any_more (λ (s : Set). is_lists s.value) (sets_in c.args.definitions.now) c.loop-place.place c.set_at.result.now c.is_lists.result c.loop-place.invariant c.set_at.ensures c.is_lists.ensures c.if-is_lists.false

pub returns-then-is_lists : goal.returns-then-is_lists
returns-then-is_lists c =
    any_here (λ (s : Set). is_lists s.value) (sets_in c.args.definitions.now) c.loop-place.place c.set_at.result.now c.is_lists.result c.loop-place.invariant c.set_at.ensures c.is_lists.ensures c.if-is_lists.true

pub returns : goal.returns
returns c =
    let long : length (sets_in c.args.definitions.now) ≡ length c.args.definitions.now.sets.items = length-lent c.args.definitions.now.sets.items in
    let count : c.len-place-end.result ≡ length c.args.definitions.now.sets.items = grind (arith, common_steps) in
    any_none (λ (s : Set). is_lists s.value) (sets_in c.args.definitions.now) c.loop-place.place c.loop-place.invariant (omega arith)

use Rattle.std.proofs.Common.{◌≡◌, ◌∙◌, length, arith}
use Rattle.std.proofs.lemmas.List.{take_all}
use Rattle.std.proofs.lemmas.Grind.{common_steps}
use Rattle.just_module_contents.specs.Definitions.{sets_in}
use Rattle.just_module_contents.proofs.RecipePlaces.{length-lent}
use Rattle.just_module_variables.proofs.Copies.{taken_more}
use Rattle.just_module_variables.proofs.constants.copied_sets.Goals as goal

pub loop-place-preserved : goal.loop-place-preserved
loop-place-preserved c =
    taken_more (sets_in c.args.definitions.now) c.loop-place.sets.items c.push.new.self.items c.loop-place.place c.set_at.result.now c.in_ok-copied.field-0 c.loop-place.invariant c.set_at.ensures c.in_ok-copied.ensures c.in_ok-push.ensures.items

pub returns : goal.returns
returns c =
    let long : length (sets_in c.args.definitions.now) ≡ length c.args.definitions.now.sets.items = length-lent c.args.definitions.now.sets.items in
    let count : c.len-place-end.result ≡ length c.args.definitions.now.sets.items = grind (arith, common_steps) in
    c.loop-place.invariant ∙ take_all c.loop-place.place (sets_in c.args.definitions.now) (omega arith)

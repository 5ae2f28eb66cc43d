use Rattle.std.proofs.Common.{◌≡◌, arith, length, sym}
use Rattle.std.proofs.lemmas.Grind.{common_steps}
use Rattle.just_module_contents.specs.Constants.{settings_expressions}
use Rattle.just_module_contents.specs.Definitions.{contents_in, sets_in}
use Rattle.just_module_contents.specs.Recipes.{lent}
use Rattle.just_module_contents.proofs.RecipePlaces.{length-lent}
use Rattle.just_parts.specs.Evaluator.{set_expressions}
use Rattle.just_module_variables.proofs.Walking.{all_given, one_given}
use Rattle.just_module_variables.proofs.expressions.settings_expressions.Goals as goal

pub loop-place-preserved : goal.loop-place-preserved
loop-place-preserved c =
    one_given set_expressions (settings_expressions (contents_in c.args.definitions.now)) (sets_in c.args.definitions.now) c.loop-place.place c.set_at.result.now
    (lent c.loop-place.found.items) (lent c.push_setting.new.found.items) c.loop-place.invariant c.set_at.ensures c.in_ok-push_setting.ensures

pub returns : goal.returns
returns c =
    let long : length (sets_in c.args.definitions.now) ≡ length c.args.definitions.now.sets.items = length-lent c.args.definitions.now.sets.items in
    let count : c.len-place-end.result ≡ length c.args.definitions.now.sets.items = grind (arith, common_steps) in
    sym (all_given set_expressions (settings_expressions (contents_in c.args.definitions.now)) (sets_in c.args.definitions.now) c.loop-place.place (lent c.loop-place.found.items) c.loop-place.invariant (omega arith))

use Rattle.std.proofs.Common.{◌≡◌, arith, length}
use Rattle.std.proofs.lemmas.Grind.{common_steps}
use Rattle.just_module_contents.specs.Constants.{constant_expressions}
use Rattle.just_module_contents.specs.Definitions.{contents_in, docs_in}
use Rattle.just_module_contents.specs.Recipes.{lent}
use Rattle.just_module_variables.proofs.Walking.{lent_at, lent_more, one_taken}
use Rattle.just_module_variables.proofs.expressions.constant_expressions.Goals as goal

pub loop-place-preserved : goal.loop-place-preserved
loop-place-preserved c =
    let docs = c.args.definitions.now.docs.items in
    let count : c.len-place-end.result ≡ length docs = grind (arith, common_steps) in
    one_taken (constant_expressions (contents_in c.args.definitions.now)) (docs_in c.args.definitions.now) c.loop-place.place c.index.result.now.now
    (lent c.loop-place.found.items) (lent c.push.new.self.items) c.loop-place.invariant (lent_at docs c.loop-place.place c.index.result.now (omega arith) c.index.ensures)
    (lent_more c.loop-place.found.items c.push.new.self.items c.index.result.now c.in_ok-push.ensures.items)

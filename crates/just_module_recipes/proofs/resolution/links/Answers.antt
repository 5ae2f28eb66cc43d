use Rattle.std.proofs.Common.{arith}
use Rattle.just_module_contents.specs.Definitions.{recipes_in}
use Rattle.just_module_recipes.proofs.Made.{link_next}
use Rattle.just_module_recipes.proofs.resolution.links.Goals as goal

pub loop-at-preserved : goal.loop-at-preserved
loop-at-preserved c =
    link_next c.args.settings.now.lists (recipes_in c.args.kept.now) c.args.recipes.now c.args.dependencies.now c.args.row.now c.loop-at.at c.index-dependencies-at.result c.index-row-at.result (omega (arith, c.loop-at-test.true, c.requires.count)) c.loop-at-test.true
    c.index-dependencies-at.is c.index-row-at.is c.in_ok-link.field-0 c.loop-at.made.items c.push.new.self.items c.loop-at.invariant c.in_ok-link.ensures c.in_ok-push.ensures.items

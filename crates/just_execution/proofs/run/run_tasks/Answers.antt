use Rattle.just_tasks.specs.Scene.{scene_in}
use Rattle.just_execution.proofs.Runs.{account-run, expected-run}
use Rattle.just_tasks.proofs.Lone.{running-below, running-ordered}
use Rattle.just_execution.proofs.run.run_tasks.Goals as goal

pub returns-clause-account : goal.returns-clause-account
returns-clause-account g c =
    account-run (scene_in (g.S.Syntax.answers c.args.scopes.now.syntax.now) c.args.scopes.now c.args.recipes.now) (running-ordered c.args.scopes.now.no_dependencies c.args.recipes.now c.are_ordered.ensures) (g.E.Evaluation.promised c.args.evaluation.now) (g.H.Host.promised c.args.host.now) c.args.tops.items (running-below c.args.scopes.now.no_dependencies c.args.recipes.now c.args.tops.items c.requires.below) _ _ c.start.result c.start.ensures.took

pub returns-clause-expected : goal.returns-clause-expected
returns-clause-expected g c =
    expected-run (scene_in (g.S.Syntax.answers c.args.scopes.now.syntax.now) c.args.scopes.now c.args.recipes.now) (running-ordered c.args.scopes.now.no_dependencies c.args.recipes.now c.are_ordered.ensures) (g.E.Evaluation.promised c.args.evaluation.now) (g.H.Host.promised c.args.host.now) c.args.tops.items (running-below c.args.scopes.now.no_dependencies c.args.recipes.now c.args.tops.items c.requires.below) _ _ c.start.result c.start.ensures.took

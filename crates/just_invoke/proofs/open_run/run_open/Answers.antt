use Rattle.std.proofs.Common.{inr, subst}
use Rattle.just_execution.specs.Reports.{IsRun}
use Rattle.just_tasks.specs.Scene.{Scene, running}
use Rattle.just_run_layers.specs.Interactions.{log_of}
use Rattle.just_invoke.specs.Results.{RunsInScene}
use Rattle.just_invoke.proofs.open_run.run_open.Goals as goal

pub returns-clause-runs : goal.returns-clause-runs
returns-clause-runs g c =
    let recipes = c.args.recipes.now in
    let first = log_of (g.H.Host.entries c.args.host.now) (g.E.Evaluation.requests c.args.evaluation.now) in
    let last = log_of (g.H.Host.entries c.run_tasks.new.host) (g.E.Evaluation.requests c.run_tasks.new.evaluation) in inr (
      subst (λ alone. IsRun (running alone recipes) c.args.tops.items first last c.run_tasks.result) c.in_ok-scopes.ensures.alone c.run_tasks.ensures.account,
      subst (λ (scene : Scene). RunsInScene (g.E.Evaluation.promised c.args.evaluation.now) (g.H.Host.promised c.args.host.now) scene c.args.tops.items first last c.run_tasks.result) (c.in_ok-scopes.ensures.scene recipes)
          (record { taken = c.run_tasks.ensures.took; expected = c.run_tasks.ensures.expected }),
    )

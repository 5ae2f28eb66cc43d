use Rattle.std.proofs.Common.{◌≡◌, ◌++◌, ◌+◌, List, [], sym, ap, subst, arith, rules}
use Rattle.std.specs.List.{Contains}
use Rattle.just_errors.specs.declared.halt.Halt.TheVariants.{Memory}
use Rattle.just_recipe.specs.Recipes.{numbers}
use Rattle.just_recipe.specs.declared.dependency.Dependency.{Dependency}
use Rattle.just_run_layers.specs.Covering.{module_of}
use Rattle.just_run_layers.proofs.InteractionLemmas.{exited, keeps-self, keeps-then}
use Rattle.just_execution.specs.Arguments.{dependencies_steps, dependency_steps, tasks_with}
use Rattle.just_execution.specs.loops.Arguments.{AreReadableGroups, IsGivenIn}
use Rattle.just_execution.specs.loops.Frames.{items_of_frames}
use Rattle.just_execution.specs.TaskInteractions.{surrounded}
use Rattle.just_run_layers.specs.loops.Interactions.{AsksAlone}
use Rattle.just_tasks.specs.Scene.{scope_contents_of}
use Rattle.just_tasks.specs.declared.task.Task.{Task}
use Rattle.just_execution.proofs.Gathered.{Continues, gathered-all, gathered-next, gathered-out, gathered-start, gathered-stop}
use Rattle.just_execution.proofs.Asked.{dependency-failed, dependency-given}
use Rattle.just_execution.proofs.arguments.ask_dependencies.Goals as goal

pub loop-dependency-init : goal.loop-dependency-init
loop-dependency-init g c =
    let step = dependency_steps c.args.recipes.now (surrounded (scope_contents_of c.args.home.now) c.args.task.now c.args.held.now) in
    let none : c.new-tasks.result.items ≡ [] = search rules in
    record {
      keeps = keeps-self (g.E.Evaluation.promised c.args.evaluation.now);
      rest = subst (λ (tasks : List Task). Continues step c.args.dependencies.now (g.E.Evaluation.promised c.args.evaluation.now) (g.E.Evaluation.requests c.args.evaluation.now) (g.E.Evaluation.promised c.args.evaluation.now) (g.E.Evaluation.requests c.args.evaluation.now) tasks 0) (sym none) (gathered-start step c.args.dependencies.now (g.E.Evaluation.promised c.args.evaluation.now) (g.E.Evaluation.requests c.args.evaluation.now));
    }

pub ask_groups-requires : goal.ask_groups-requires
ask_groups-requires g c = subst (AreReadableGroups (module_of c.args.home.now.context) c.args.held.now.scope) (sym (c.as_slice-given.ensures))
    (subst (IsGivenIn (module_of c.args.home.now.context) c.args.held.now.scope) (sym c.dependency-item.is) (c.requires.given c.loop-dependency.dependency-index c.dependency-item.result c.loop-dependency-test.true))

pub push_tasks-requires : goal.push_tasks-requires
push_tasks-requires g c = subst (λ (d : Dependency). Contains (numbers c.args.recipes.now) d.recipe.0) (sym c.dependency-item.is)
    (c.requires.there c.loop-dependency.dependency-index c.dependency-item.result c.loop-dependency-test.true)

pub loop-dependency-preserved : goal.loop-dependency-preserved
loop-dependency-preserved g c =
    let s = surrounded (scope_contents_of c.args.home.now) c.args.task.now c.args.held.now in
    let rs = c.args.recipes.now in
    let x = c.dependency-item.result in
    let e = g.E.Evaluation.promised c.args.evaluation.now in
    let before = g.E.Evaluation.requests c.args.evaluation.now in
    let d = g.E.Evaluation.promised c.loop-dependency.evaluation in
    let o = g.E.Evaluation.promised c.ask_groups.new.evaluation in
    let pushed : c.push_tasks.new.tasks.items ≡ c.loop-dependency.tasks.items ++ tasks_with rs x c.in_ok-groups.groups = search rules in
    record {
      keeps = keeps-then _ _ _ c.loop-dependency.invariant.keeps c.in_ok-groups.ensures.keeps;
      rest = subst (λ (tasks : List Task). Continues (dependency_steps rs s) c.args.dependencies.now e before o (g.E.Evaluation.requests c.ask_groups.new.evaluation) tasks (c.loop-dependency.dependency-index + 1)) (sym pushed)
          (gathered-next (dependency_steps rs s) c.args.dependencies.now e before d _ _ c.loop-dependency.tasks.items c.loop-dependency.dependency-index x c.loop-dependency-test.true c.dependency-item.is c.loop-dependency.invariant.rest o
          c.in_ok-groups.ensures.keeps (tasks_with rs x c.in_ok-groups.groups) (dependency-given rs s x c.as_slice-given.result.now c.as_slice-given.ensures d _ _ c.in_ok-groups.groups c.in_ok-groups.ensures.took));
    }

pub returns-in_err-groups-clause-keeps : goal.returns-in_err-groups-clause-keeps
returns-in_err-groups-clause-keeps g c = keeps-then _ _ _ c.loop-dependency.invariant.keeps c.in_err-groups.ensures.keeps

pub returns-in_err-push_tasks-clause-keeps : goal.returns-in_err-push_tasks-clause-keeps
returns-in_err-push_tasks-clause-keeps g c = keeps-then _ _ _ c.loop-dependency.invariant.keeps c.in_ok-groups.ensures.keeps

pub returns-in_err-groups-clause-took : goal.returns-in_err-groups-clause-took
returns-in_err-groups-clause-took g c =
    let s = surrounded (scope_contents_of c.args.home.now) c.args.task.now c.args.held.now in
    let rs = c.args.recipes.now in
    let x = c.dependency-item.result in
    let e = g.E.Evaluation.promised c.args.evaluation.now in
    let before = g.E.Evaluation.requests c.args.evaluation.now in
    let d = g.E.Evaluation.promised c.loop-dependency.evaluation in
    subst (AsksAlone e (dependencies_steps rs s c.args.dependencies.now) before _) (sym (ap items_of_frames (exited c.from_residual.result c.in_err-groups.field-0.0 (search rules))))
    (gathered-stop (dependency_steps rs s) c.args.dependencies.now e before d _ _ c.loop-dependency.tasks.items c.loop-dependency.dependency-index x c.loop-dependency-test.true c.dependency-item.is c.loop-dependency.invariant.rest
    c.in_err-groups.field-0.0 (dependency-failed rs s x c.as_slice-given.result.now c.as_slice-given.ensures d _ _ c.in_err-groups.field-0.0 c.in_err-groups.ensures.took))

pub returns-in_err-push_tasks-clause-took : goal.returns-in_err-push_tasks-clause-took
returns-in_err-push_tasks-clause-took g c =
    let s = surrounded (scope_contents_of c.args.home.now) c.args.task.now c.args.held.now in
    let rs = c.args.recipes.now in
    let x = c.dependency-item.result in
    let e = g.E.Evaluation.promised c.args.evaluation.now in
    let before = g.E.Evaluation.requests c.args.evaluation.now in
    let d = g.E.Evaluation.promised c.loop-dependency.evaluation in
    let o = g.E.Evaluation.promised c.ask_groups.new.evaluation in
    subst (AsksAlone e (dependencies_steps rs s c.args.dependencies.now) before _) (sym (ap items_of_frames (exited c.from_residual-in_err-push_tasks.result Memory (search rules))))
    (gathered-out (dependency_steps rs s) c.args.dependencies.now e before d _ _ c.loop-dependency.tasks.items c.loop-dependency.dependency-index x c.loop-dependency-test.true c.dependency-item.is c.loop-dependency.invariant.rest o
    c.in_ok-groups.ensures.keeps (tasks_with rs x c.in_ok-groups.groups) (dependency-given rs s x c.as_slice-given.result.now c.as_slice-given.ensures d _ _ c.in_ok-groups.groups c.in_ok-groups.ensures.took))

pub returns-clause-took : goal.returns-clause-took
returns-clause-took g c =
    let s = surrounded (scope_contents_of c.args.home.now) c.args.task.now c.args.held.now in
    gathered-all (dependency_steps c.args.recipes.now s) c.args.dependencies.now (g.E.Evaluation.promised c.args.evaluation.now) (g.E.Evaluation.requests c.args.evaluation.now) (g.E.Evaluation.promised c.loop-dependency.evaluation)
    (g.E.Evaluation.requests c.loop-dependency.evaluation) c.loop-dependency.tasks.items c.loop-dependency.dependency-index (omega arith) c.loop-dependency.invariant.rest

use Rattle.std.proofs.Common.{◌≡◌, List, Option, Some, Ok, sym, ◌∙◌, ap, append-nil, subst}
use Rattle.std.specs.Prelude.{Result}
use Rattle.just_errors.specs.declared.halt.Halt.{Halt}
use Rattle.just_paths.specs.declared.modulepath.Modulepath.{Modulepath}
use Rattle.just_recipe.specs.Recipes.{IsResolved}
use Rattle.just_recipe.specs.declared.dependency.Dependency.{Dependency}
use Rattle.just_recipe.specs.declared.recipe.Recipe.{Recipe}
use Rattle.just_run_layers.specs.declared.environment.EnvironmentPair.{EnvironmentPair}
use Rattle.just_run_layers.specs.declared.host.Entry.TheVariants.{Begin}
use Rattle.just_run_layers.specs.Host.{Answer, Done}
use Rattle.just_run_layers.specs.Interactions.{Return, Log, Question, Interaction, HasTrace, and_then, both, log_of}
use Rattle.just_run_layers.proofs.InteractionLemmas.{keeps-both, keeps-self, took-called, took-give, took-then}
use Rattle.just_recipe_body.proofs.StepEnds.{took-gone}
use Rattle.just_recipe_run.specs.RecipeRun.{body_by, recipe_steps}
use Rattle.just_execution.specs.TaskInteractions.{begin_steps, body_of, execute_at, execute_steps, run_in}
use Rattle.just_tasks.specs.Scene.{ModuleContents, Scene, scope_contents_of, scene_in}
use Rattle.just_execution.proofs.Covered.{body-covered}
use Rattle.just_tasks.proofs.Places.{All-got}
use Rattle.just_execution.proofs.Homes.{contents-there, home-of, serves-in}
use Rattle.just_tasks.proofs.Lone.{as_run, running-at, same-path}
use Rattle.just_execution.proofs.Lone.{same-run}
use Rattle.just_execution.proofs.run.execute.Goals as goal

pub module_of-home-requires : goal.module_of-home-requires
module_of-home-requires g c = home-of (g.S.Syntax.answers c.args.scopes.now.syntax.now) c.args.scopes.now.modules c.args.recipes.now c.args.task.now c.requires.callable c.recipe_at-recipe.result.now c.recipe_at-recipe.ensures

pub recipe_path-requires : goal.recipe_path-requires
recipe_path-requires g c = (All-got IsResolved c.args.recipes.now c.args.task.now.pair.recipe c.recipe_at-recipe.result.now c.requires.resolved c.recipe_at-recipe.ensures).path

pub run-requires-clause-covered : goal.run-requires-clause-covered
run-requires-clause-covered g c =
    let answers = g.S.Syntax.answers c.args.scopes.now.syntax.now in
    let r = c.recipe_at-recipe.result.now in
    let m = c.module_of-home.result.now in
    body-covered answers m r c.args.held.now
    (serves-in answers c.args.scopes.now.modules c.args.recipes.now c.args.task.now c.args.held.now m r c.recipe_at-recipe.ensures c.module_of-home.ensures.there c.requires.served)

pub returns-in_err-begin-clause-took : goal.returns-in_err-begin-clause-took
returns-in_err-begin-clause-took g c =
    let e = g.E.Evaluation.promised c.args.evaluation.now in
    let requests = g.E.Evaluation.requests c.args.evaluation.now in
    let scene : Scene = scene_in (g.S.Syntax.answers c.args.scopes.now.syntax.now) c.args.scopes.now c.args.recipes.now in
    took-gone (both e (g.H.Host.promised c.args.host.now)) (execute_steps scene c.args.task.now c.args.held.now) _ _ c.from_residual.result c.from_residual.ensures.1
    (ap (λ entries. log_of entries requests) (c.in_err-begin.ensures.recorded ∙ append-nil (g.H.Host.entries c.args.host.now)))

pub returns-clause-took : goal.returns-clause-took
returns-clause-took g c =
    let answers = g.S.Syntax.answers c.args.scopes.now.syntax.now in
    let rs : List (Recipe Dependency) = c.args.recipes.now in
    let b = c.args.scopes.now.no_dependencies in
    let scene : Scene = scene_in answers c.args.scopes.now rs in
    let t = c.args.task.now in
    let held = c.args.held.now in
    let r : Recipe Dependency = c.recipe_at-recipe.result.now in
    let m = c.module_of-home.result.now in
    let e = g.E.Evaluation.promised c.args.evaluation.now in
    let requests = g.E.Evaluation.requests c.args.evaluation.now in
    let p : Question → Option Answer = both e (g.H.Host.promised c.args.host.now) in
    let q : Question → Option Answer = both e (g.H.Host.promised c.begin.new.self) in
    let old : Log = log_of (g.H.Host.entries c.args.host.now) requests in
    let mid : Log = log_of (g.H.Host.entries c.begin.new.self) requests in
    let new : Log = log_of (g.H.Host.entries c.run.new.host) (g.E.Evaluation.requests c.run.new.evaluation) in
    let result : Result (Unit {0}) Halt = c.run.result in
    let path : Modulepath = c.recipe_path.result.now in
    let ran : Recipe Dependency = as_run b r in
    let same : recipe_steps (body_of answers t ran (scope_contents_of m) held) ≡ recipe_steps (body_of answers t r (scope_contents_of m) held) = same-run r t (scope_contents_of m) answers held b in
    subst (λ (o : Option (Recipe Dependency)). HasTrace p (execute_at scene t held o) old new result) (sym (running-at b rs t.pair.recipe r c.recipe_at-recipe.ensures))
    (subst (λ (o : Option ModuleContents). HasTrace p (and_then (begin_steps t.pair.groups ran.recipe_path) (λ _. run_in answers t held ran o)) old new result) (sym (contents-there answers c.args.scopes.now.modules b rs r m c.module_of-home.ensures.there))
    (subst (λ (o : Option Modulepath). HasTrace p (and_then (begin_steps t.pair.groups o) (λ _. recipe_steps (body_of answers t ran (scope_contents_of m) held))) old new result) (sym (same-path r b ∙ c.recipe_path.ensures))
    (subst (λ (s : Interaction (Unit {0})). HasTrace p (and_then (begin_steps t.pair.groups (Some path)) (λ _. s)) old new result) (sym same)
    (took-then p q (keeps-both e e _ _ (keeps-self e) c.in_ok-begin.ensures.keeps) (begin_steps t.pair.groups (Some path)) (λ _. recipe_steps (body_of answers t r (scope_contents_of m) held)) old mid new tt result
    (took-called e (g.H.Host.promised c.args.host.now) (Begin path t.pair.groups) (λ answer. Return tt) Done requests _ _ mid (Ok tt) c.in_ok-begin.ensures.answers c.in_ok-begin.ensures.recorded (took-give p mid tt))
    (subst (λ (environment : List EnvironmentPair). HasTrace q (recipe_steps (body_by answers (scope_contents_of m).context r environment t.dependency held.positional held.scope)) mid new result) c.as_slice.ensures c.run.ensures.took)))))

use Rattle.just_run_layers.specs.Covering.{module_of}
use Rattle.just_execution.specs.loops.Arguments.{IsGivenIn}
use Rattle.just_execution.specs.loops.Frames.{items_of_frames}
use Rattle.just_execution.proofs.Covered.{arguments-given}
use Rattle.just_execution.proofs.Homes.{home-of, serves-in}
use Rattle.just_tasks.proofs.Lone.{running-subsequents}
use Rattle.just_execution.proofs.LoneTraces.{followed-as, subsequents-seen}
use Rattle.just_execution.proofs.questions.follow.Goals as goal

pub module_of-home-requires : goal.module_of-home-requires
module_of-home-requires g c = home-of (g.S.Syntax.answers c.args.scopes.now.syntax.now) c.args.scopes.now.modules c.args.recipes.now c.args.task.now c.requires.callable c.recipe_at.result.now c.recipe_at.ensures

pub ask_dependencies-requires-clause-given : goal.ask_dependencies-requires-clause-given
ask_dependencies-requires-clause-given g c =
    let answers = g.S.Syntax.answers c.args.scopes.now.syntax.now in
    let rs = c.args.recipes.now in
    let b = c.args.scopes.now.no_dependencies in
    let r = c.recipe_at.result.now in
    let m = c.module_of-home.result.now in
    let h = c.args.held.now in
    running-subsequents (IsGivenIn (module_of m.context) h.scope) r c.subsequents_in-named.result.now
    (arguments-given answers m r h (serves-in answers c.args.scopes.now.modules rs c.args.task.now h m r c.recipe_at.ensures c.module_of-home.ensures.there c.requires.served)) b
    (subsequents-seen answers c.args.scopes.now.modules b rs c.args.task.now r m c.recipe_at.ensures c.module_of-home.ensures.there c.subsequents_in-named.result.now c.subsequents_in-named.ensures.is)

pub returns-clause-took : goal.returns-clause-took
returns-clause-took g c =
    let answers = g.S.Syntax.answers c.args.scopes.now.syntax.now in
    let rs = c.args.recipes.now in
    let b = c.args.scopes.now.no_dependencies in
    let r = c.recipe_at.result.now in
    let m = c.module_of-home.result.now in
    followed-as answers c.args.scopes.now.modules b rs c.args.task.now r m c.recipe_at.ensures c.module_of-home.ensures.there
    (g.E.Evaluation.promised c.args.evaluation.now) c.args.held.now _ _ c.subsequents_in-named.result.now
    (subsequents-seen answers c.args.scopes.now.modules b rs c.args.task.now r m c.recipe_at.ensures c.module_of-home.ensures.there c.subsequents_in-named.result.now c.subsequents_in-named.ensures.is) (items_of_frames c.ask_dependencies.result) c.ask_dependencies.ensures.took

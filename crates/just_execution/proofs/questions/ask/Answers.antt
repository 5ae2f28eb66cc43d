use Rattle.std.proofs.Common.{Result, sym, ap, subst, rules}
use Rattle.just_errors.specs.declared.halt.Halt.{Halt}
use Rattle.just_run_layers.specs.Covering.{module_of}
use Rattle.just_run_layers.specs.Interactions.{log_of}
use Rattle.just_run_layers.proofs.InteractionLemmas.{exited, keeps-then}
use Rattle.just_execution.specs.loops.Arguments.{IsGivenIn}
use Rattle.just_execution.specs.loops.TaskInteractions.{Prepares, prepared_of}
use Rattle.just_tasks.specs.Scene.{scene_in}
use Rattle.just_execution.specs.declared.questions.Preparation.{Preparation}
use Rattle.just_execution.proofs.Covered.{arguments-given, held-serves, parameters-covered}
use Rattle.just_execution.proofs.Homes.{home-of, is-served}
use Rattle.just_tasks.proofs.Lone.{running-priors}
use Rattle.just_execution.proofs.LoneTraces.{consent-failed, parameters-failed, priors-failed, priors-given, priors-seen}
use Rattle.just_execution.proofs.questions.ask.Goals as goal

pub module_of-home-requires : goal.module_of-home-requires
module_of-home-requires g c = home-of (g.S.Syntax.answers c.args.scopes.now.syntax.now) c.args.scopes.now.modules c.args.recipes.now c.args.task.now c.requires.callable c.recipe_at-recipe.result.now c.recipe_at-recipe.ensures

pub ask_parameters-requires : goal.ask_parameters-requires
ask_parameters-requires g c = parameters-covered (g.S.Syntax.answers c.args.scopes.now.syntax.now) c.module_of-home.result.now c.recipe_at-recipe.result.now c.module_of-home.ensures.own.bound

pub ask_consent-requires : goal.ask_consent-requires
ask_consent-requires g c =
    held-serves (g.S.Syntax.answers c.args.scopes.now.syntax.now) c.module_of-home.result.now c.recipe_at-recipe.result.now c.in_ok-held.held c.module_of-home.ensures.own.bound c.in_ok-held.ensures.binds

pub ask_dependencies-requires-clause-given : goal.ask_dependencies-requires-clause-given
ask_dependencies-requires-clause-given g c =
    let answers = g.S.Syntax.answers c.args.scopes.now.syntax.now in
    let r = c.recipe_at-recipe.result.now in
    let m = c.module_of-home.result.now in
    let h = c.in_ok-held.held in
    let b = c.args.scopes.now.no_dependencies in
    running-priors (IsGivenIn (module_of m.context) h.scope) r c.priors_in-named.result.now
    (arguments-given answers m r h (held-serves answers m r h c.module_of-home.ensures.own.bound c.in_ok-held.ensures.binds)) b
    (priors-seen answers c.args.scopes.now.modules b c.args.recipes.now c.args.task.now r m c.recipe_at-recipe.ensures c.module_of-home.ensures.there c.priors_in-named.result.now c.priors_in-named.ensures.is)

pub returns-in_err-held-clause-took : goal.returns-in_err-held-clause-took
returns-in_err-held-clause-took g c =
    let answers = g.S.Syntax.answers c.args.scopes.now.syntax.now in
    let e = g.E.Evaluation.promised c.args.evaluation.now in
    let h = g.H.Host.promised c.args.host.now in
    let rs = c.args.recipes.now in
    let b = c.args.scopes.now.no_dependencies in
    let scene = scene_in answers c.args.scopes.now rs in
    let r = c.recipe_at-recipe.result.now in
    let m = c.module_of-home.result.now in
    let entries = g.H.Host.entries c.args.host.now in
    subst (Prepares e h scene c.args.task.now (log_of entries (g.E.Evaluation.requests c.args.evaluation.now)) _) (sym (ap prepared_of (exited c.from_residual.result c.in_err-held.field-0.0 (search rules))))
    (parameters-failed answers c.args.scopes.now.modules b rs c.args.task.now r m c.recipe_at-recipe.ensures c.module_of-home.ensures.there e h entries _ _
    c.in_err-held.field-0.0 c.in_err-held.ensures.took)

pub returns-in_err-ask_consent-clause-took : goal.returns-in_err-ask_consent-clause-took
returns-in_err-ask_consent-clause-took g c =
    let answers = g.S.Syntax.answers c.args.scopes.now.syntax.now in
    let e = g.E.Evaluation.promised c.args.evaluation.now in
    let h = g.H.Host.promised c.args.host.now in
    let rs = c.args.recipes.now in
    let b = c.args.scopes.now.no_dependencies in
    let scene = scene_in answers c.args.scopes.now rs in
    let r = c.recipe_at-recipe.result.now in
    let m = c.module_of-home.result.now in
    let entries = g.H.Host.entries c.args.host.now in
    let failed : Result Preparation Halt = c.from_residual-in_err-ask_consent.result in
    subst (Prepares e h scene c.args.task.now (log_of entries (g.E.Evaluation.requests c.args.evaluation.now)) _) (sym (ap prepared_of (exited failed c.in_err-ask_consent.field-0.0 (search rules))))
    (consent-failed answers c.args.scopes.now.modules b rs c.args.task.now r m c.recipe_at-recipe.ensures c.module_of-home.ensures.there e h entries _
    (g.E.Evaluation.promised c.ask_parameters.new.evaluation) c.in_ok-held.ensures.keeps _ c.in_ok-held.held c.in_ok-held.ensures.took _ c.in_err-ask_consent.field-0.0 c.in_err-ask_consent.ensures.took)

pub returns-in_err-priors-clause-took : goal.returns-in_err-priors-clause-took
returns-in_err-priors-clause-took g c =
    let answers = g.S.Syntax.answers c.args.scopes.now.syntax.now in
    let e = g.E.Evaluation.promised c.args.evaluation.now in
    let h = g.H.Host.promised c.args.host.now in
    let rs = c.args.recipes.now in
    let b = c.args.scopes.now.no_dependencies in
    let scene = scene_in answers c.args.scopes.now rs in
    let r = c.recipe_at-recipe.result.now in
    let m = c.module_of-home.result.now in
    let entries = g.H.Host.entries c.args.host.now in
    let failed : Result Preparation Halt = c.from_residual-in_err-priors.result in
    subst (Prepares e h scene c.args.task.now (log_of entries (g.E.Evaluation.requests c.args.evaluation.now)) _) (sym (ap prepared_of (exited failed c.in_err-priors.field-0.0 (search rules))))
    (priors-failed answers c.args.scopes.now.modules b rs c.args.task.now r m c.recipe_at-recipe.ensures c.module_of-home.ensures.there e h entries _
    (g.E.Evaluation.promised c.ask_parameters.new.evaluation) c.in_ok-held.ensures.keeps _ c.in_ok-held.held c.in_ok-held.ensures.took
    (g.E.Evaluation.promised c.ask_consent.new.evaluation) (g.H.Host.promised c.ask_consent.new.host) c.in_ok-ask_consent.ensures.keeps c.in_ok-ask_consent.ensures.keeps_host (g.H.Host.entries c.ask_consent.new.host) _ _ c.in_ok-ask_consent.ensures.took
    c.priors_in-named.result.now (priors-seen answers c.args.scopes.now.modules b rs c.args.task.now r m c.recipe_at-recipe.ensures c.module_of-home.ensures.there c.priors_in-named.result.now c.priors_in-named.ensures.is) c.in_err-priors.field-0.0 c.in_err-priors.ensures.took)

pub returns-clause-took : goal.returns-clause-took
returns-clause-took g c =
    let answers = g.S.Syntax.answers c.args.scopes.now.syntax.now in
    let e = g.E.Evaluation.promised c.args.evaluation.now in
    let h = g.H.Host.promised c.args.host.now in
    let rs = c.args.recipes.now in
    let b = c.args.scopes.now.no_dependencies in
    let r = c.recipe_at-recipe.result.now in
    let m = c.module_of-home.result.now in
    let entries = g.H.Host.entries c.args.host.now in
    priors-given answers c.args.scopes.now.modules b rs c.args.task.now r m c.recipe_at-recipe.ensures c.module_of-home.ensures.there e h entries _
    (g.E.Evaluation.promised c.ask_parameters.new.evaluation) c.in_ok-held.ensures.keeps _ c.in_ok-held.held c.in_ok-held.ensures.took
    (g.E.Evaluation.promised c.ask_consent.new.evaluation) (g.H.Host.promised c.ask_consent.new.host) c.in_ok-ask_consent.ensures.keeps c.in_ok-ask_consent.ensures.keeps_host (g.H.Host.entries c.ask_consent.new.host) _ _ c.in_ok-ask_consent.ensures.took
    c.priors_in-named.result.now (priors-seen answers c.args.scopes.now.modules b rs c.args.task.now r m c.recipe_at-recipe.ensures c.module_of-home.ensures.there c.priors_in-named.result.now c.priors_in-named.ensures.is) c.in_ok-priors.priors.items c.in_ok-priors.ensures.took

pub returns-clause-serves : goal.returns-clause-serves
returns-clause-serves g c =
    let answers = g.S.Syntax.answers c.args.scopes.now.syntax.now in
    let r = c.recipe_at-recipe.result.now in
    let m = c.module_of-home.result.now in
    is-served answers c.args.scopes.now.modules c.args.recipes.now c.args.task.now c.in_ok-held.held m r c.recipe_at-recipe.ensures c.module_of-home.ensures.there
    (held-serves answers m r c.in_ok-held.held c.module_of-home.ensures.own.bound c.in_ok-held.ensures.binds)

pub returns-in_err-ask_consent-clause-keeps : goal.returns-in_err-ask_consent-clause-keeps
returns-in_err-ask_consent-clause-keeps g c = keeps-then _ _ _ c.in_ok-held.ensures.keeps c.in_err-ask_consent.ensures.keeps

pub returns-in_err-priors-clause-keeps : goal.returns-in_err-priors-clause-keeps
returns-in_err-priors-clause-keeps g c = keeps-then _ _ _ c.in_ok-held.ensures.keeps (keeps-then _ _ _ c.in_ok-ask_consent.ensures.keeps c.in_err-priors.ensures.keeps)

pub returns-clause-keeps : goal.returns-clause-keeps
returns-clause-keeps g c = keeps-then _ _ _ c.in_ok-held.ensures.keeps (keeps-then _ _ _ c.in_ok-ask_consent.ensures.keeps c.in_ok-priors.ensures.keeps)

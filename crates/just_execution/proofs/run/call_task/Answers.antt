use Rattle.std.proofs.Common.{◌≡◌, ◌++◌, ◌∷◌, [], List, length, Option, refl, sym, ◌∙◌, ◌<◌, ◌^◌, subst, arith, rules}
use Rattle.just_run_layers.specs.Host.{Answer}
use Rattle.just_run_layers.specs.Interactions.{Log, Question, both, log_of}
use Rattle.just_execution.specs.declared.frame.Frame.{Frame}
use Rattle.just_execution.specs.declared.frame.Frame.TheVariants.{Call, Block}
use Rattle.just_execution.specs.loops.Frames.{state_of, weight}
use Rattle.just_execution.specs.loops.Homes.{IsCallable, IsServed}
use Rattle.just_execution.specs.TaskInteractions.{interactions_of}
use Rattle.just_execution.specs.loops.TaskInteractions.{prepared_as}
use Rattle.just_execution.specs.Walking.{Prepared}
use Rattle.just_tasks.specs.Scene.{scene_in}
use Rattle.just_execution.proofs.RunStates.{called-sound, counted-sound, pushed-calls}
use Rattle.just_execution.proofs.Goings.{goes-err, over-took, known-took, unasked-took, asked-took, halted-took}
use Rattle.just_execution.proofs.Homes.{asked-callable}
use Rattle.just_execution.proofs.TaskInteractions.{asked-below, leaves-lower}
use Rattle.just_execution.proofs.WeightLemmas.{call-lighter, taken-lighter}
use Rattle.just_tasks.proofs.Lone.{running-ordered}
use Rattle.just_execution.proofs.run.call_task.Goals as goal

pub returns-in_err-count_call-clause-goes : goal.returns-in_err-count_call-clause-goes
returns-in_err-count_call-clause-goes g c =
    let old : Log = log_of (g.H.Host.entries c.args.host.now) (g.E.Evaluation.requests c.args.evaluation.now) in
    let p : Question → Option Answer = both (g.E.Evaluation.promised c.args.evaluation.now) (g.H.Host.promised c.args.host.now) in
    let lower = leaves-lower (scene_in (g.S.Syntax.answers c.args.scopes.now.syntax.now) c.args.scopes.now c.args.recipes.now) (running-ordered c.args.scopes.now.no_dependencies c.args.recipes.now c.requires.ordered) in
    goes-err p _ _ old old c.in_err-count_call.field-0.0 c.from_residual.result (search rules)
    (over-took (interactions_of (scene_in (g.S.Syntax.answers c.args.scopes.now.syntax.now) c.args.scopes.now c.args.recipes.now)) lower p c.args.run.now.frames.items c.args.task (state_of c.args.run.now) old c.in_err-count_call.field-0.0 (search rules) (search rules))

pub returns-then-contains-clause-goes : goal.returns-then-contains-clause-goes
returns-then-contains-clause-goes g c = λ new r t.
    let old : Log = log_of (g.H.Host.entries c.args.host.now) (g.E.Evaluation.requests c.args.evaluation.now) in
    let p : Question → Option Answer = both (g.E.Evaluation.promised c.args.evaluation.now) (g.H.Host.promised c.args.host.now) in
    let lower = leaves-lower (scene_in (g.S.Syntax.answers c.args.scopes.now.syntax.now) c.args.scopes.now c.args.recipes.now) (running-ordered c.args.scopes.now.no_dependencies c.args.recipes.now c.requires.ordered) in
    known-took (interactions_of (scene_in (g.S.Syntax.answers c.args.scopes.now.syntax.now) c.args.scopes.now c.args.recipes.now)) lower p c.args.run.now.frames.items c.args.task (state_of c.args.run.now) c.count_call.new.calls.items
    (search rules) (search rules) (sym c.contains.ensures ∙ c.if-contains.true) old new r t

pub returns-then-contains-clause-sound : goal.returns-then-contains-clause-sound
returns-then-contains-clause-sound g c = counted-sound _ _ c.args.run.now _ (search rules) refl c.requires.sound

pub returns-then-contains-clause-lighter : goal.returns-then-contains-clause-lighter
returns-then-contains-clause-lighter g c = taken-lighter _ c.args.run.now.frames.items (Call c.args.task)

pub returns-in_err-held-clause-goes : goal.returns-in_err-held-clause-goes
returns-in_err-held-clause-goes g c =
    let old : Log = log_of (g.H.Host.entries c.args.host.now) (g.E.Evaluation.requests c.args.evaluation.now) in
    let p : Question → Option Answer = both (g.E.Evaluation.promised c.args.evaluation.now) (g.H.Host.promised c.args.host.now) in
    let lower = leaves-lower (scene_in (g.S.Syntax.answers c.args.scopes.now.syntax.now) c.args.scopes.now c.args.recipes.now) (running-ordered c.args.scopes.now.no_dependencies c.args.recipes.now c.requires.ordered) in
    goes-err p _ _ old _ c.in_err-held.field-0.0 c.from_residual-in_err-held.result (search rules)
    (unasked-took (interactions_of (scene_in (g.S.Syntax.answers c.args.scopes.now.syntax.now) c.args.scopes.now c.args.recipes.now)) lower p c.args.run.now.frames.items c.args.task (state_of c.args.run.now) c.count_call.new.calls.items
    (search rules) (search rules) (sym c.contains.ensures ∙ c.if-contains.false) old _ c.in_err-held.field-0.0 (c.in_err-held.ensures.took))

pub returns-in_err-push-clause-goes : goal.returns-in_err-push-clause-goes
returns-in_err-push-clause-goes g c =
    let old : Log = log_of (g.H.Host.entries c.args.host.now) (g.E.Evaluation.requests c.args.evaluation.now) in
    let p : Question → Option Answer = both (g.E.Evaluation.promised c.args.evaluation.now) (g.H.Host.promised c.args.host.now) in
    let lower = leaves-lower (scene_in (g.S.Syntax.answers c.args.scopes.now.syntax.now) c.args.scopes.now c.args.recipes.now) (running-ordered c.args.scopes.now.no_dependencies c.args.recipes.now c.requires.ordered) in
    goes-err p _ _ old _ _ c.from_residual-in_err-push.result (search rules)
    (halted-took (interactions_of (scene_in (g.S.Syntax.answers c.args.scopes.now.syntax.now) c.args.scopes.now c.args.recipes.now)) lower p c.args.run.now.frames.items c.args.task (state_of c.args.run.now) c.count_call.new.calls.items
    (search rules) (search rules) (sym c.contains.ensures ∙ c.if-contains.false) (prepared_as c.in_ok-held.field-0) old _ c.in_ok-held.ensures.took)

pub returns-in_err-push_calls-clause-goes : goal.returns-in_err-push_calls-clause-goes
returns-in_err-push_calls-clause-goes g c =
    let old : Log = log_of (g.H.Host.entries c.args.host.now) (g.E.Evaluation.requests c.args.evaluation.now) in
    let p : Question → Option Answer = both (g.E.Evaluation.promised c.args.evaluation.now) (g.H.Host.promised c.args.host.now) in
    let lower = leaves-lower (scene_in (g.S.Syntax.answers c.args.scopes.now.syntax.now) c.args.scopes.now c.args.recipes.now) (running-ordered c.args.scopes.now.no_dependencies c.args.recipes.now c.requires.ordered) in
    goes-err p _ _ old _ _ c.from_residual-in_err-push_calls.result (search rules)
    (halted-took (interactions_of (scene_in (g.S.Syntax.answers c.args.scopes.now.syntax.now) c.args.scopes.now c.args.recipes.now)) lower p c.args.run.now.frames.items c.args.task (state_of c.args.run.now) c.count_call.new.calls.items
    (search rules) (search rules) (sym c.contains.ensures ∙ c.if-contains.false) (prepared_as c.in_ok-held.field-0) old _ c.in_ok-held.ensures.took)

pub returns-clause-goes : goal.returns-clause-goes
returns-clause-goes g c = λ new r t.
    let old : Log = log_of (g.H.Host.entries c.args.host.now) (g.E.Evaluation.requests c.args.evaluation.now) in
    let p : Question → Option Answer = both (g.E.Evaluation.promised c.args.evaluation.now) (g.H.Host.promised c.args.host.now) in
    let lower = leaves-lower (scene_in (g.S.Syntax.answers c.args.scopes.now.syntax.now) c.args.scopes.now c.args.recipes.now) (running-ordered c.args.scopes.now.no_dependencies c.args.recipes.now c.requires.ordered) in
    let xs : List Frame = c.args.run.now.frames.items in
    let x : Prepared = prepared_as c.in_ok-held.field-0 in
    let pushed : c.push.new.self.items ≡ xs ++ Block c.args.task x.held ∷ [] = search rules in
    asked-took (interactions_of (scene_in (g.S.Syntax.answers c.args.scopes.now.syntax.now) c.args.scopes.now c.args.recipes.now)) lower p xs c.args.task (state_of c.args.run.now) c.count_call.new.calls.items
    (search rules) (search rules) (sym c.contains.ensures ∙ c.if-contains.false) x c.push_calls.new.frames.items (pushed-calls _ xs (Block c.args.task x.held) x.priors _ pushed c.in_ok-push_calls.ensures) old _ new r
    c.in_ok-held.ensures.took t

pub returns-clause-sound : goal.returns-clause-sound
returns-clause-sound g c =
    let rs = c.args.recipes.now in
    let x : Prepared = prepared_as c.in_ok-held.field-0 in
    let opens = asked-callable (g.S.Syntax.answers c.args.scopes.now.syntax.now) c.args.scopes.now.modules rs c.args.task c.requires.callable c.args.scopes.now.no_dependencies c.requires.ordered (g.E.Evaluation.promised c.args.evaluation.now) (g.H.Host.promised c.args.host.now) _ _ x c.in_ok-held.ensures.took in
    let pushed : c.push.new.self.items ≡ c.args.run.now.frames.items ++ Block c.args.task x.held ∷ [] = search rules in
    called-sound (IsCallable (g.S.Syntax.answers c.args.scopes.now.syntax.now) c.args.scopes.now.modules rs) (IsServed (g.S.Syntax.answers c.args.scopes.now.syntax.now) c.args.scopes.now.modules rs) c.args.run.now _ c.args.task x.held x.priors (search rules) (pushed-calls _ _ (Block c.args.task x.held) x.priors c.push_calls.new.frames.items pushed c.in_ok-push_calls.ensures)
    c.requires.callable c.in_ok-held.ensures.serves opens c.requires.sound

pub returns-clause-lighter : goal.returns-clause-lighter
returns-clause-lighter g c =
    let rs = c.args.recipes.now in
    let x : Prepared = prepared_as c.in_ok-held.field-0 in
    let below = asked-below (scene_in (g.S.Syntax.answers c.args.scopes.now.syntax.now) c.args.scopes.now c.args.recipes.now) (running-ordered c.args.scopes.now.no_dependencies c.args.recipes.now c.requires.ordered) (g.E.Evaluation.promised c.args.evaluation.now) (g.H.Host.promised c.args.host.now) c.args.task _ _ x c.in_ok-held.ensures.took in
    let pushed : c.push.new.self.items ≡ c.args.run.now.frames.items ++ Block c.args.task x.held ∷ [] = search rules in
    let few : length x.priors < 2 ^ 64 = omega (arith, c.in_ok-held.field-0.priors.small) in
    subst (λ fs. weight (2 ^ 64) fs < weight (2 ^ 64) (c.args.run.now.frames.items ++ Call c.args.task ∷ [])) (sym (pushed-calls _ _ (Block c.args.task x.held) x.priors c.push_calls.new.frames.items pushed c.in_ok-push_calls.ensures))
    (call-lighter (2 ^ 64) c.args.run.now.frames.items c.args.task x.held x.priors below few)

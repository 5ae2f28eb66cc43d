use Rattle.std.proofs.Common.{List, Option, rules}
use Rattle.just_run_layers.specs.Host.{Answer}
use Rattle.just_run_layers.specs.Interactions.{Log, Question, both, log_of}
use Rattle.just_run_layers.proofs.InteractionLemmas.{keeps-both, keeps-then}
use Rattle.just_execution.specs.loops.Frames.{continuation_of, state_of}
use Rattle.just_execution.specs.TaskInteractions.{interactions_of}
use Rattle.just_tasks.specs.declared.task.Task.{Task}
use Rattle.just_tasks.specs.Scene.{scene_in}
use Rattle.just_execution.proofs.RunStates.{block-last}
use Rattle.just_execution.proofs.Goings.{goes-err, failed-took, unfollowed-took, stopped-took, followed-took}
use Rattle.just_execution.proofs.Homes.{followed-callable}
use Rattle.just_execution.proofs.TaskInteractions.{followed-below, leaves-lower}
use Rattle.just_tasks.proofs.Lone.{running-ordered}
use Rattle.just_execution.proofs.run.run_block.Goals as goal

pub returns-in_err-execute-clause-goes : goal.returns-in_err-execute-clause-goes
returns-in_err-execute-clause-goes g c =
    let p : Question → Option Answer = both (g.E.Evaluation.promised c.args.evaluation.now) (g.H.Host.promised c.args.host.now) in
    goes-err p _ _ _ _ c.in_err-execute.field-0.0 c.from_residual.result (search rules)
    (failed-took (interactions_of (scene_in (g.S.Syntax.answers c.args.scopes.now.syntax.now) c.args.scopes.now c.args.recipes.now)) (leaves-lower (scene_in (g.S.Syntax.answers c.args.scopes.now.syntax.now) c.args.scopes.now c.args.recipes.now) (running-ordered c.args.scopes.now.no_dependencies c.args.recipes.now c.requires.ordered)) p p (λ q a h. h) c.args.run.now.frames.items c.args.task c.args.held (state_of c.args.run.now) _ _ c.in_err-execute.field-0.0 c.in_err-execute.ensures.took)

pub returns-in_err-subsequents-clause-goes : goal.returns-in_err-subsequents-clause-goes
returns-in_err-subsequents-clause-goes g c =
    let p : Question → Option Answer = both (g.E.Evaluation.promised c.args.evaluation.now) (g.H.Host.promised c.args.host.now) in
    let q : Question → Option Answer = both (g.E.Evaluation.promised c.execute.new.evaluation) (g.H.Host.promised c.execute.new.host) in
    let keeps = keeps-both _ _ _ _ c.execute.ensures.keeps c.execute.ensures.keeps_host in
    goes-err p _ _ _ _ c.in_err-subsequents.field-0.0 c.from_residual-in_err-subsequents.result (search rules)
    (unfollowed-took (interactions_of (scene_in (g.S.Syntax.answers c.args.scopes.now.syntax.now) c.args.scopes.now c.args.recipes.now)) (leaves-lower (scene_in (g.S.Syntax.answers c.args.scopes.now.syntax.now) c.args.scopes.now c.args.recipes.now) (running-ordered c.args.scopes.now.no_dependencies c.args.recipes.now c.requires.ordered)) p q keeps c.args.run.now.frames.items c.args.task c.args.held (state_of c.args.run.now) _ _ _ c.in_err-subsequents.field-0.0
    c.in_ok-execute.ensures.took (c.in_err-subsequents.ensures.took (g.H.Host.promised c.execute.new.host) (g.H.Host.entries c.execute.new.host)))

pub returns-in_err-insert-clause-goes : goal.returns-in_err-insert-clause-goes
returns-in_err-insert-clause-goes g c =
    let p : Question → Option Answer = both (g.E.Evaluation.promised c.args.evaluation.now) (g.H.Host.promised c.args.host.now) in
    let q : Question → Option Answer = both (g.E.Evaluation.promised c.execute.new.evaluation) (g.H.Host.promised c.execute.new.host) in
    let keeps = keeps-both _ _ _ _ c.execute.ensures.keeps c.execute.ensures.keeps_host in
    let ts : List Task = c.in_ok-subsequents.subsequents.items in
    goes-err p _ _ _ _ _ c.from_residual-in_err-insert.result (search rules)
    (stopped-took (interactions_of (scene_in (g.S.Syntax.answers c.args.scopes.now.syntax.now) c.args.scopes.now c.args.recipes.now)) (leaves-lower (scene_in (g.S.Syntax.answers c.args.scopes.now.syntax.now) c.args.scopes.now c.args.recipes.now) (running-ordered c.args.scopes.now.no_dependencies c.args.recipes.now c.requires.ordered)) p q keeps c.args.run.now.frames.items c.args.task c.args.held (state_of c.args.run.now) ts _ _ _
    c.in_ok-execute.ensures.took (c.in_ok-subsequents.ensures.took (g.H.Host.promised c.execute.new.host) (g.H.Host.entries c.execute.new.host)))

pub returns-in_err-open-clause-goes : goal.returns-in_err-open-clause-goes
returns-in_err-open-clause-goes g c =
    let p : Question → Option Answer = both (g.E.Evaluation.promised c.args.evaluation.now) (g.H.Host.promised c.args.host.now) in
    let q : Question → Option Answer = both (g.E.Evaluation.promised c.execute.new.evaluation) (g.H.Host.promised c.execute.new.host) in
    let keeps = keeps-both _ _ _ _ c.execute.ensures.keeps c.execute.ensures.keeps_host in
    let ts : List Task = c.in_ok-subsequents.subsequents.items in
    goes-err p _ _ _ _ _ c.from_residual-in_err-open.result (search rules)
    (stopped-took (interactions_of (scene_in (g.S.Syntax.answers c.args.scopes.now.syntax.now) c.args.scopes.now c.args.recipes.now)) (leaves-lower (scene_in (g.S.Syntax.answers c.args.scopes.now.syntax.now) c.args.scopes.now c.args.recipes.now) (running-ordered c.args.scopes.now.no_dependencies c.args.recipes.now c.requires.ordered)) p q keeps c.args.run.now.frames.items c.args.task c.args.held (state_of c.args.run.now) ts _ _ _
    c.in_ok-execute.ensures.took (c.in_ok-subsequents.ensures.took (g.H.Host.promised c.execute.new.host) (g.H.Host.entries c.execute.new.host)))

pub returns-clause-goes : goal.returns-clause-goes
returns-clause-goes g c = λ new r t.
    let p : Question → Option Answer = both (g.E.Evaluation.promised c.args.evaluation.now) (g.H.Host.promised c.args.host.now) in
    let q : Question → Option Answer = both (g.E.Evaluation.promised c.execute.new.evaluation) (g.H.Host.promised c.execute.new.host) in
    let keeps = keeps-both _ _ _ _ c.execute.ensures.keeps c.execute.ensures.keeps_host in
    let L = interactions_of (scene_in (g.S.Syntax.answers c.args.scopes.now.syntax.now) c.args.scopes.now c.args.recipes.now) in
    let entries = g.H.Host.entries c.execute.new.host in
    let mid : Log = log_of entries (g.E.Evaluation.requests c.execute.new.evaluation) in
    let ts : List Task = c.in_ok-subsequents.subsequents.items in
    followed-took L (leaves-lower (scene_in (g.S.Syntax.answers c.args.scopes.now.syntax.now) c.args.scopes.now c.args.recipes.now) (running-ordered c.args.scopes.now.no_dependencies c.args.recipes.now c.requires.ordered)) p q keeps c.args.run.now.frames.items c.args.task c.args.held (state_of c.args.run.now) ts (continuation_of L c.open.new.self)
    (block-last L c.args.run.now c.args.task c.insert.new.self ts (continuation_of L c.open.new.self) c.in_ok-insert.ensures.ok (c.in_ok-open.ensures.left L)) _ mid _ new r
    c.in_ok-execute.ensures.took (c.in_ok-subsequents.ensures.took (g.H.Host.promised c.execute.new.host) entries) t

pub returns-clause-sound : goal.returns-clause-sound
returns-clause-sound g c =
    let rs = c.args.recipes.now in
    let ts : List Task = c.in_ok-subsequents.subsequents.items in
    let opens = followed-callable (g.S.Syntax.answers c.args.scopes.now.syntax.now) c.args.scopes.now.modules rs c.args.task c.requires.callable c.args.scopes.now.no_dependencies c.requires.ordered (g.E.Evaluation.promised c.execute.new.evaluation) c.args.held _ _ ts c.in_ok-subsequents.ensures.took in
    c.in_ok-open.ensures.sound (g.S.Syntax.answers c.args.scopes.now.syntax.now) c.args.scopes.now.modules rs opens (record { frames = c.requires.sound.frames; number = c.requires.sound.number })

pub returns-clause-lighter : goal.returns-clause-lighter
returns-clause-lighter g c =
    let ts : List Task = c.in_ok-subsequents.subsequents.items in
    let below = followed-below (scene_in (g.S.Syntax.answers c.args.scopes.now.syntax.now) c.args.scopes.now c.args.recipes.now) (running-ordered c.args.scopes.now.no_dependencies c.args.recipes.now c.requires.ordered) (g.E.Evaluation.promised c.execute.new.evaluation) c.args.task c.args.held _ _ ts c.in_ok-subsequents.ensures.took in
    c.in_ok-open.ensures.lighter c.args.task c.args.held below

pub returns-in_err-subsequents-clause-keeps : goal.returns-in_err-subsequents-clause-keeps
returns-in_err-subsequents-clause-keeps g c = keeps-then _ _ _ c.execute.ensures.keeps c.in_err-subsequents.ensures.keeps

pub returns-in_err-insert-clause-keeps : goal.returns-in_err-insert-clause-keeps
returns-in_err-insert-clause-keeps g c = keeps-then _ _ _ c.execute.ensures.keeps c.in_ok-subsequents.ensures.keeps

pub returns-in_err-open-clause-keeps : goal.returns-in_err-open-clause-keeps
returns-in_err-open-clause-keeps g c = keeps-then _ _ _ c.execute.ensures.keeps c.in_ok-subsequents.ensures.keeps

pub returns-clause-keeps : goal.returns-clause-keeps
returns-clause-keeps g c = keeps-then _ _ _ c.execute.ensures.keeps c.in_ok-subsequents.ensures.keeps

use Rattle.std.proofs.Common.{Option, sym, subst}
use Rattle.just_run_layers.specs.Host.{Answer}
use Rattle.just_run_layers.specs.Interactions.{Log, Question, HasTrace, both, log_of}
use Rattle.just_execution.specs.declared.frame.Frame.{Frame}
use Rattle.just_execution.specs.loops.Frames.{Simulates, continuation_of, continuation_with, state_of}
use Rattle.just_execution.specs.TaskInteractions.{interactions_of}
use Rattle.just_tasks.specs.Scene.{scene_in}
use Rattle.just_execution.proofs.FrameLemmas.{back-left}
use Rattle.just_execution.proofs.WeightLemmas.{taken-lighter}
use Rattle.just_execution.proofs.run.take.Goals as goal

pub returns-in-Call-clause-goes : goal.returns-in-Call-clause-goes
returns-in-Call-clause-goes g c =
    let p : Question → Option Answer = both (g.E.Evaluation.promised c.args.evaluation.now) (g.H.Host.promised c.args.host.now) in
    let L = interactions_of (scene_in (g.S.Syntax.answers c.args.scopes.now.syntax.now) c.args.scopes.now c.args.recipes.now) in
    let old : Log = log_of (g.H.Host.entries c.args.host.now) (g.E.Evaluation.requests c.args.evaluation.now) in
    let new : Log = log_of (g.H.Host.entries c.call_task.new.host) (g.E.Evaluation.requests c.call_task.new.evaluation) in
    subst (λ (x : Frame). Simulates p (continuation_with L x c.args.run.now) old (continuation_of L c.call_task.new.run) new c.call_task.result) (sym c.in-Call.is)
    c.call_task.ensures.goes

pub returns-in-Block-clause-goes : goal.returns-in-Block-clause-goes
returns-in-Block-clause-goes g c =
    let p : Question → Option Answer = both (g.E.Evaluation.promised c.args.evaluation.now) (g.H.Host.promised c.args.host.now) in
    let L = interactions_of (scene_in (g.S.Syntax.answers c.args.scopes.now.syntax.now) c.args.scopes.now c.args.recipes.now) in
    let old : Log = log_of (g.H.Host.entries c.args.host.now) (g.E.Evaluation.requests c.args.evaluation.now) in
    let new : Log = log_of (g.H.Host.entries c.run_block.new.host) (g.E.Evaluation.requests c.run_block.new.evaluation) in
    subst (λ (x : Frame). Simulates p (continuation_with L x c.args.run.now) old (continuation_of L c.run_block.new.run) new c.run_block.result) (sym c.in-Block.is)
    c.run_block.ensures.goes

pub returns-in-Back-clause-goes : goal.returns-in-Back-clause-goes
returns-in-Back-clause-goes g c = λ new r t.
    let p : Question → Option Answer = both (g.E.Evaluation.promised c.args.evaluation.now) (g.H.Host.promised c.args.host.now) in
    let L = interactions_of (scene_in (g.S.Syntax.answers c.args.scopes.now.syntax.now) c.args.scopes.now c.args.recipes.now) in
    let old : Log = log_of (g.H.Host.entries c.args.host.now) (g.E.Evaluation.requests c.args.evaluation.now) in
    subst (λ (x : Frame). HasTrace p (continuation_with L x c.args.run.now) old new r) (sym c.in-Back.is)
    (subst (λ u. HasTrace p u old new r) (sym (back-left L c.args.run.now.frames.items c.in-Back.outer (state_of c.args.run.now))) t)

pub returns-in-Back-clause-lighter : goal.returns-in-Back-clause-lighter
returns-in-Back-clause-lighter g c = taken-lighter _ c.args.run.now.frames.items c.args.frame

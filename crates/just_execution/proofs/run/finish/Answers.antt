use Rattle.std.proofs.Common.{◌≡◌, List, [], Option, Err, sym, subst, rules}
use Rattle.std.specs.Prelude.{Result}
use Rattle.just_errors.specs.declared.halt.Halt.{Halt}
use Rattle.just_run_layers.specs.Host.{Answer}
use Rattle.just_run_layers.specs.Interactions.{Log, Question, HasTrace, both, log_of}
use Rattle.just_run_layers.proofs.InteractionLemmas.{keeps-both, keeps-then, took-kept}
use Rattle.just_execution.specs.declared.frame.Frame.{Frame}
use Rattle.just_execution.specs.loops.Frames.{continuation_from, continuation_of, state_of}
use Rattle.just_execution.specs.TaskInteractions.{interactions_of}
use Rattle.just_execution.specs.Walking.{TaskInteractions, State}
use Rattle.just_tasks.specs.Scene.{scene_in}
use Rattle.just_execution.proofs.Goings.{ended-took, none-took}
use Rattle.just_execution.proofs.run.finish.Goals as goal

pub loop-frame-preserved : goal.loop-frame-preserved
loop-frame-preserved g c =
    let p : Question → Option Answer = both (g.E.Evaluation.promised c.loop-frame.evaluation) (g.H.Host.promised c.loop-frame.host) in
    let q : Question → Option Answer = both (g.E.Evaluation.promised c.take.new.evaluation) (g.H.Host.promised c.take.new.host) in
    let L : TaskInteractions = interactions_of (scene_in (g.S.Syntax.answers c.args.scopes.now.syntax.now) c.args.scopes.now c.args.recipes.now) in
    let old : Log = log_of (g.H.Host.entries c.loop-frame.host) (g.E.Evaluation.requests c.loop-frame.evaluation) in
    let mid : Log = log_of (g.H.Host.entries c.take.new.host) (g.E.Evaluation.requests c.take.new.evaluation) in
    let s : State = state_of c.loop-frame.run in
    record {
      keeps = keeps-then _ _ _ c.loop-frame.invariant.keeps c.take.ensures.keeps;
      keeps_host = keeps-then _ _ _ c.loop-frame.invariant.keeps_host c.take.ensures.keeps_host;
      sound = c.in_ok-take.ensures.sound;
      rest = λ new r t. c.loop-frame.invariant.rest new r (subst (λ xs. HasTrace p (continuation_from L xs s) old new r) (sym {A = List Frame} c.in-Some.ensures.items)
          (c.in_ok-take.ensures.goes new r (took-kept p q (keeps-both _ _ _ _ c.take.ensures.keeps c.take.ensures.keeps_host) (continuation_of L c.take.new.run) mid new r t)));
    }

pub returns-in_err-take-clause-took : goal.returns-in_err-take-clause-took
returns-in_err-take-clause-took g c =
    let p : Question → Option Answer = both (g.E.Evaluation.promised c.loop-frame.evaluation) (g.H.Host.promised c.loop-frame.host) in
    let first : Question → Option Answer = both (g.E.Evaluation.promised c.args.evaluation.now) (g.H.Host.promised c.args.host.now) in
    let L : TaskInteractions = interactions_of (scene_in (g.S.Syntax.answers c.args.scopes.now.syntax.now) c.args.scopes.now c.args.recipes.now) in
    let old : Log = log_of (g.H.Host.entries c.loop-frame.host) (g.E.Evaluation.requests c.loop-frame.evaluation) in
    let mid : Log = log_of (g.H.Host.entries c.take.new.host) (g.E.Evaluation.requests c.take.new.evaluation) in
    let s : State = state_of c.loop-frame.run in
    let r : Result State Halt = Err c.in_err-take.field-0.0 in
    ended-took first (continuation_of L c.args.run.now) (log_of (g.H.Host.entries c.args.host.now) (g.E.Evaluation.requests c.args.evaluation.now)) mid c.in_err-take.field-0.0 (state_of c.take.new.run) c.from_residual.result (search rules)
    (c.loop-frame.invariant.rest mid r (subst (λ xs. HasTrace p (continuation_from L xs s) old mid r) (sym {A = List Frame} c.in-Some.ensures.items) c.in_err-take.ensures.goes))

pub returns-clause-took : goal.returns-clause-took
returns-clause-took g c =
    let p : Question → Option Answer = both (g.E.Evaluation.promised c.loop-frame.evaluation) (g.H.Host.promised c.loop-frame.host) in
    let L : TaskInteractions = interactions_of (scene_in (g.S.Syntax.answers c.args.scopes.now.syntax.now) c.args.scopes.now c.args.recipes.now) in
    let none : c.loop-frame.run.frames.items ≡ [] = search rules in
    c.loop-frame.invariant.rest _ _ (none-took L p c.loop-frame.run.frames.items (state_of c.loop-frame.run) (log_of (g.H.Host.entries c.loop-frame.host) (g.E.Evaluation.requests c.loop-frame.evaluation)) none)

pub returns-in_err-take-clause-keeps : goal.returns-in_err-take-clause-keeps
returns-in_err-take-clause-keeps g c = keeps-then _ _ _ c.loop-frame.invariant.keeps c.in_err-take.ensures.keeps

pub returns-in_err-take-clause-keeps_host : goal.returns-in_err-take-clause-keeps_host
returns-in_err-take-clause-keeps_host g c = keeps-then _ _ _ c.loop-frame.invariant.keeps_host c.in_err-take.ensures.keeps_host

use Rattle.std.proofs.Common.{◌≡◌, ◌++◌, ◌+◌, ◌∷◌, List, [], sym, subst, ◌∙◌, arith, rules}
use Rattle.just_errors.specs.declared.halt.Halt.TheVariants.{Memory}
use Rattle.just_names.specs.Texts.{Text}
use Rattle.just_run_layers.specs.Covering.{module_of}
use Rattle.just_run_layers.specs.Evaluation.{surroundings}
use Rattle.just_run_layers.proofs.InteractionLemmas.{exited, keeps-self, keeps-then}
use Rattle.just_execution.specs.Arguments.{argument_group_steps, argument_groups_steps}
use Rattle.just_execution.specs.loops.Arguments.{AreReadableArguments}
use Rattle.just_run_layers.specs.loops.Interactions.{AsksAlone}
use Rattle.just_execution.proofs.Gathered.{Continues, gathered-all, gathered-next, gathered-out, gathered-start, gathered-stop}
use Rattle.just_execution.proofs.Asked.{group-failed, group-given}
use Rattle.just_execution.proofs.arguments.ask_groups.Goals as goal

pub loop-group-init : goal.loop-group-init
loop-group-init g c =
    let step = argument_group_steps (surroundings c.args.context.now c.args.scope.now c.args.is_dependency []) in
    let none : c.new-groups.result ≡ [] = search rules in
    record {
      keeps = keeps-self (g.E.Evaluation.promised c.args.evaluation.now);
      rest = subst (λ (groups : List (List Text)). Continues step c.args.given.now (g.E.Evaluation.promised c.args.evaluation.now) (g.E.Evaluation.requests c.args.evaluation.now) (g.E.Evaluation.promised c.args.evaluation.now) (g.E.Evaluation.requests c.args.evaluation.now) groups 0) (sym none) (gathered-start step c.args.given.now (g.E.Evaluation.promised c.args.evaluation.now) (g.E.Evaluation.requests c.args.evaluation.now));
    }

pub ask_group-requires : goal.ask_group-requires
ask_group-requires g c = subst (AreReadableArguments (module_of c.args.context.now) c.args.scope.now) (sym (c.as_slice-arguments.ensures ∙ c.group-item.is)) (c.requires c.loop-group.group-index c.group-item.result c.loop-group-test.true)

pub loop-group-preserved : goal.loop-group-preserved
loop-group-preserved g c =
    let s = surroundings c.args.context.now c.args.scope.now c.args.is_dependency [] in
    let e = g.E.Evaluation.promised c.args.evaluation.now in
    let before = g.E.Evaluation.requests c.args.evaluation.now in
    let d = g.E.Evaluation.promised c.loop-group.evaluation in
    let o = g.E.Evaluation.promised c.ask_group.new.evaluation in
    let pushed : c.push.new.self ≡ c.loop-group.groups ++ c.in_ok-texts.texts ∷ [] = search rules in
    record {
      keeps = keeps-then _ _ _ c.loop-group.invariant.keeps c.in_ok-texts.ensures.keeps;
      rest = subst (λ (groups : List (List Text)). Continues (argument_group_steps s) c.args.given.now e before o (g.E.Evaluation.requests c.ask_group.new.evaluation) groups (c.loop-group.group-index + 1)) (sym pushed)
          (gathered-next (argument_group_steps s) c.args.given.now e before d _ _ c.loop-group.groups c.loop-group.group-index c.group-item.result c.loop-group-test.true c.group-item.is c.loop-group.invariant.rest o
          c.in_ok-texts.ensures.keeps (c.in_ok-texts.texts ∷ []) (group-given s c.group-item.result c.as_slice-arguments.result.now c.as_slice-arguments.ensures d _ _ c.in_ok-texts.texts c.in_ok-texts.ensures.took));
    }

pub returns-in_err-texts-clause-keeps : goal.returns-in_err-texts-clause-keeps
returns-in_err-texts-clause-keeps g c = keeps-then _ _ _ c.loop-group.invariant.keeps c.in_err-texts.ensures.keeps

pub returns-in_err-push-clause-keeps : goal.returns-in_err-push-clause-keeps
returns-in_err-push-clause-keeps g c = keeps-then _ _ _ c.loop-group.invariant.keeps c.in_ok-texts.ensures.keeps

pub returns-in_err-texts-clause-took : goal.returns-in_err-texts-clause-took
returns-in_err-texts-clause-took g c =
    let s = surroundings c.args.context.now c.args.scope.now c.args.is_dependency [] in
    let e = g.E.Evaluation.promised c.args.evaluation.now in
    let before = g.E.Evaluation.requests c.args.evaluation.now in
    let d = g.E.Evaluation.promised c.loop-group.evaluation in
    subst (AsksAlone e (argument_groups_steps s c.args.given.now) before _) (sym (exited c.from_residual.result c.in_err-texts.field-0.0 (search rules)))
    (gathered-stop (argument_group_steps s) c.args.given.now e before d _ _ c.loop-group.groups c.loop-group.group-index c.group-item.result c.loop-group-test.true c.group-item.is c.loop-group.invariant.rest
    c.in_err-texts.field-0.0 (group-failed s c.group-item.result c.as_slice-arguments.result.now c.as_slice-arguments.ensures d _ _ c.in_err-texts.field-0.0 c.in_err-texts.ensures.took))

pub returns-in_err-push-clause-took : goal.returns-in_err-push-clause-took
returns-in_err-push-clause-took g c =
    let s = surroundings c.args.context.now c.args.scope.now c.args.is_dependency [] in
    let e = g.E.Evaluation.promised c.args.evaluation.now in
    let before = g.E.Evaluation.requests c.args.evaluation.now in
    let d = g.E.Evaluation.promised c.loop-group.evaluation in
    let o = g.E.Evaluation.promised c.ask_group.new.evaluation in
    subst (AsksAlone e (argument_groups_steps s c.args.given.now) before _) (sym (exited c.from_residual-in_err-push.result Memory (search rules)))
    (gathered-out (argument_group_steps s) c.args.given.now e before d _ _ c.loop-group.groups c.loop-group.group-index c.group-item.result c.loop-group-test.true c.group-item.is c.loop-group.invariant.rest o
    c.in_ok-texts.ensures.keeps (c.in_ok-texts.texts ∷ []) (group-given s c.group-item.result c.as_slice-arguments.result.now c.as_slice-arguments.ensures d _ _ c.in_ok-texts.texts c.in_ok-texts.ensures.took))

pub returns-clause-took : goal.returns-clause-took
returns-clause-took g c =
    let s = surroundings c.args.context.now c.args.scope.now c.args.is_dependency [] in
    gathered-all (argument_group_steps s) c.args.given.now (g.E.Evaluation.promised c.args.evaluation.now) (g.E.Evaluation.requests c.args.evaluation.now) (g.E.Evaluation.promised c.loop-group.evaluation)
    (g.E.Evaluation.requests c.loop-group.evaluation) c.loop-group.groups c.loop-group.group-index (omega arith) c.loop-group.invariant.rest

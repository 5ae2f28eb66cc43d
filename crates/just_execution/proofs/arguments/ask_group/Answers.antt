use Rattle.std.proofs.Common.{◌≡◌, ◌++◌, ◌+◌, List, [], sym, subst, arith, rules}
use Rattle.just_errors.specs.declared.halt.Halt.TheVariants.{Memory}
use Rattle.just_names.specs.Texts.{Text}
use Rattle.just_run_layers.specs.Covering.{module_of}
use Rattle.just_run_layers.specs.Evaluation.{surroundings}
use Rattle.just_run_layers.proofs.InteractionLemmas.{exited, keeps-self, keeps-then}
use Rattle.just_execution.specs.Arguments.{argument_steps, argument_texts_steps}
use Rattle.just_execution.specs.loops.Arguments.{IsReadableArgument}
use Rattle.just_run_layers.specs.loops.Interactions.{AsksAlone}
use Rattle.just_execution.proofs.Gathered.{Continues, gathered-all, gathered-next, gathered-out, gathered-start, gathered-stop}
use Rattle.just_execution.proofs.arguments.ask_group.Goals as goal

pub loop-argument-init : goal.loop-argument-init
loop-argument-init g c =
    let step = argument_steps (surroundings c.args.context.now c.args.scope.now c.args.is_dependency []) in
    let none : c.new-texts.result ≡ [] = search rules in
    record {
      keeps = keeps-self (g.E.Evaluation.promised c.args.evaluation.now);
      rest = subst (λ (texts : List Text). Continues step c.args.arguments.now (g.E.Evaluation.promised c.args.evaluation.now) (g.E.Evaluation.requests c.args.evaluation.now) (g.E.Evaluation.promised c.args.evaluation.now) (g.E.Evaluation.requests c.args.evaluation.now) texts 0) (sym none) (gathered-start step c.args.arguments.now (g.E.Evaluation.promised c.args.evaluation.now) (g.E.Evaluation.requests c.args.evaluation.now));
    }

pub ask_argument-requires : goal.ask_argument-requires
ask_argument-requires g c = subst (IsReadableArgument (module_of c.args.context.now) c.args.scope.now) (sym c.argument-item.is) (c.requires c.loop-argument.argument-index c.argument-item.result c.loop-argument-test.true)

pub loop-argument-preserved : goal.loop-argument-preserved
loop-argument-preserved g c =
    let step = argument_steps (surroundings c.args.context.now c.args.scope.now c.args.is_dependency []) in
    let e = g.E.Evaluation.promised c.args.evaluation.now in
    let before = g.E.Evaluation.requests c.args.evaluation.now in
    let d = g.E.Evaluation.promised c.loop-argument.evaluation in
    let o = g.E.Evaluation.promised c.ask_argument.new.evaluation in
    let pushed : c.append.new.self ≡ c.loop-argument.texts ++ c.in_ok-more.more = search rules in
    record {
      keeps = keeps-then _ _ _ c.loop-argument.invariant.keeps c.in_ok-more.ensures.keeps;
      rest = subst (λ (texts : List Text). Continues step c.args.arguments.now e before o (g.E.Evaluation.requests c.ask_argument.new.evaluation) texts (c.loop-argument.argument-index + 1)) (sym pushed)
          (gathered-next step c.args.arguments.now e before d _ _ c.loop-argument.texts c.loop-argument.argument-index c.argument-item.result c.loop-argument-test.true c.argument-item.is c.loop-argument.invariant.rest o
          c.in_ok-more.ensures.keeps c.in_ok-more.more c.in_ok-more.ensures.took);
    }

pub returns-in_err-more-clause-keeps : goal.returns-in_err-more-clause-keeps
returns-in_err-more-clause-keeps g c = keeps-then _ _ _ c.loop-argument.invariant.keeps c.in_err-more.ensures.keeps

pub returns-in_err-append-clause-keeps : goal.returns-in_err-append-clause-keeps
returns-in_err-append-clause-keeps g c = keeps-then _ _ _ c.loop-argument.invariant.keeps c.in_ok-more.ensures.keeps

pub returns-in_err-more-clause-took : goal.returns-in_err-more-clause-took
returns-in_err-more-clause-took g c =
    let step = argument_steps (surroundings c.args.context.now c.args.scope.now c.args.is_dependency []) in
    let e = g.E.Evaluation.promised c.args.evaluation.now in
    let before = g.E.Evaluation.requests c.args.evaluation.now in
    let d = g.E.Evaluation.promised c.loop-argument.evaluation in
    subst (AsksAlone e (argument_texts_steps (surroundings c.args.context.now c.args.scope.now c.args.is_dependency []) c.args.arguments.now) before _) (sym (exited c.from_residual.result c.in_err-more.field-0.0 (search rules)))
    (gathered-stop step c.args.arguments.now e before d _ _ c.loop-argument.texts c.loop-argument.argument-index c.argument-item.result c.loop-argument-test.true c.argument-item.is c.loop-argument.invariant.rest
    c.in_err-more.field-0.0 c.in_err-more.ensures.took)

pub returns-in_err-append-clause-took : goal.returns-in_err-append-clause-took
returns-in_err-append-clause-took g c =
    let step = argument_steps (surroundings c.args.context.now c.args.scope.now c.args.is_dependency []) in
    let e = g.E.Evaluation.promised c.args.evaluation.now in
    let before = g.E.Evaluation.requests c.args.evaluation.now in
    let d = g.E.Evaluation.promised c.loop-argument.evaluation in
    let o = g.E.Evaluation.promised c.ask_argument.new.evaluation in
    subst (AsksAlone e (argument_texts_steps (surroundings c.args.context.now c.args.scope.now c.args.is_dependency []) c.args.arguments.now) before _) (sym (exited c.from_residual-in_err-append.result Memory (search rules)))
    (gathered-out step c.args.arguments.now e before d _ _ c.loop-argument.texts c.loop-argument.argument-index c.argument-item.result c.loop-argument-test.true c.argument-item.is c.loop-argument.invariant.rest o
    c.in_ok-more.ensures.keeps c.in_ok-more.more c.in_ok-more.ensures.took)

pub returns-clause-took : goal.returns-clause-took
returns-clause-took g c =
    let step = argument_steps (surroundings c.args.context.now c.args.scope.now c.args.is_dependency []) in
    gathered-all step c.args.arguments.now (g.E.Evaluation.promised c.args.evaluation.now) (g.E.Evaluation.requests c.args.evaluation.now) (g.E.Evaluation.promised c.loop-argument.evaluation)
    (g.E.Evaluation.requests c.loop-argument.evaluation) c.loop-argument.texts c.loop-argument.argument-index (omega arith) c.loop-argument.invariant.rest

use Rattle.std.proofs.Common.{[], sym, subst, rules}
use Rattle.just_errors.specs.declared.halt.Halt.TheVariants.{Memory}
use Rattle.just_run_layers.specs.Evaluation.{surroundings}
use Rattle.just_run_layers.specs.Interactions.{Return}
use Rattle.just_run_layers.proofs.InteractionLemmas.{exited}
use Rattle.just_execution.specs.Arguments.{argument_steps, texts_given, value_steps}
use Rattle.just_run_layers.specs.loops.Interactions.{AsksAlone}
use Rattle.just_execution.proofs.Gathered.{alone-give, alone-out, alone-stop, alone-then}
use Rattle.just_execution.proofs.arguments.ask_argument.Goals as goal

pub returns-in_err-value-clause-took : goal.returns-in_err-value-clause-took
returns-in_err-value-clause-took g c =
    let s = surroundings c.args.context.now c.args.scope.now c.args.is_dependency [] in
    let e = g.E.Evaluation.promised c.args.evaluation.now in
    subst (AsksAlone e (argument_steps s c.args.argument.now) (g.E.Evaluation.requests c.args.evaluation.now) _) (sym (exited c.from_residual.result c.in_err-value.field-0.0 (search rules)))
    (alone-stop e (value_steps s c.args.argument.now.expression) (λ value. Return (texts_given s.context.settings.lists value)) _ _ c.in_err-value.field-0.0 c.in_err-value.ensures.took)

pub returns-in_err-texts_given-clause-took : goal.returns-in_err-texts_given-clause-took
returns-in_err-texts_given-clause-took g c =
    let s = surroundings c.args.context.now c.args.scope.now c.args.is_dependency [] in
    let e = g.E.Evaluation.promised c.args.evaluation.now in
    let d = g.E.Evaluation.promised c.ask_value.new.evaluation in
    subst (AsksAlone e (argument_steps s c.args.argument.now) (g.E.Evaluation.requests c.args.evaluation.now) _) (sym (exited c.from_residual-in_err-texts_given.result Memory (search rules)))
    (alone-then e d c.in_ok-value.ensures.keeps (value_steps s c.args.argument.now.expression) (λ value. Return (texts_given s.context.settings.lists value)) _ _ _ c.in_ok-value.value _ c.in_ok-value.ensures.took
    (alone-out d (Return (texts_given s.context.settings.lists c.in_ok-value.value)) _))

pub returns-clause-took : goal.returns-clause-took
returns-clause-took g c =
    let s = surroundings c.args.context.now c.args.scope.now c.args.is_dependency [] in
    let e = g.E.Evaluation.promised c.args.evaluation.now in
    let d = g.E.Evaluation.promised c.ask_value.new.evaluation in
    alone-then e d c.in_ok-value.ensures.keeps (value_steps s c.args.argument.now.expression) (λ value. Return (texts_given s.context.settings.lists value)) _ _ _ c.in_ok-value.value _ c.in_ok-value.ensures.took
    (alone-give d (texts_given s.context.settings.lists c.in_ok-value.value) c.in_ok-texts_given.field-0 _ c.in_ok-texts_given.ensures)

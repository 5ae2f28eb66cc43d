use Rattle.std.proofs.Common.{◌∙◌, sym, ap, subst, arith, rules, refl, ◌∷◌, []}
use Rattle.std.specs.List.{Contains}
use Rattle.std.specs.Prelude.{map}
use Rattle.std.proofs.lemmas.List.Elements.{Contains-append_right}
use Rattle.just_parts.specs.Evaluator.{functions_by_name, interpreter_expressions, scope_values}
use Rattle.just_bench_values.specs.Settings.{text_with}
use Rattle.just_bench_values.specs.Values.{all_of, value_among_constants}
use Rattle.just_bench_values.proofs.Interpreted.{no_arguments, no_command}
use Rattle.just_bench_values.proofs.Places.{in_element, in_more}
use Rattle.just_bench_values.proofs.Told.{tells_fault}
use Rattle.just_bench_values.proofs.settings.interpreter.Goals as goal

pub returns-in_err-command : goal.returns-in_err-command
returns-in_err-command c =
    let value = value_among_constants (functions_by_name c.args.functions.now) (scope_values c.args.constants.now) in
    let i = c.args.interpreter.now in
    tells_fault (no_command value i) (in_element c.args.functions.now (interpreter_expressions i) i.command (0, omega arith, refl))
    c.in_err-command.field-0.0 c.in_err-command.ensures.0 c.in_err-command.ensures.1 c.from_residual.result (search rules)

pub returns-in_err-arguments : goal.returns-in_err-arguments
returns-in_err-arguments c =
    let value = value_among_constants (functions_by_name c.args.functions.now) (scope_values c.args.constants.now) in
    let i = c.args.interpreter.now in
    tells_fault (λ none. no_arguments value i (ap (λ es. all_of (map (text_with value) es)) (sym c.as_slice.ensures) ∙ none))
    (in_more c.args.functions.now c.as_slice.result.now (interpreter_expressions i) (λ e h. Contains-append_right (i.command ∷ []) i.arguments e (subst (λ es. Contains es e) c.as_slice.ensures h)))
    c.in_err-arguments.field-0.0 c.in_err-arguments.ensures.0 c.in_err-arguments.ensures.1 c.from_residual-in_err-arguments.result (search rules)

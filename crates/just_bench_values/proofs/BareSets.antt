-- Numbers make no difference to settings.
use Rattle.std.proofs.Common.{◌≡◌, refl, ap, List, [], ◌∷◌, map, Some}
use Rattle.std.specs.Option.{option_and_then, option_map}
use Rattle.just_parts.specs.Evaluator.{bare_interpreter, bare_set, bare_setting}
use Rattle.just_ast_expressions.specs.declared.expression.Expression.{Expression}
use Rattle.just_ast_expressions.specs.declared.interpreter.Interpreter.{Interpreter}
use Rattle.just_ast_definitions.specs.declared.setting.Set.{Set}
use Rattle.just_ast_definitions.specs.declared.setting.Setting.{Setting}
use Rattle.just_ast_definitions.specs.declared.setting.Setting.TheVariants as setting
use Rattle.just_ast_expressions.specs.declared.settings.Settings.{Settings}
use Rattle.just_ast_references.specs.Numbers.{bare}
use Rattle.just_bench_values.specs.Settings.{interpreter_with, setting_with, settings_with, text_with}
use Rattle.just_bench_values.specs.Values.{Outcome, all_of, one_text}

module _ (value : Expression → Outcome) (same : (e : Expression) → value (bare e) ≡ value e) where
  bare_text : (e : Expression) → text_with value (bare e) ≡ text_with value e
  bare_text e = ap (option_map one_text) (same e)

  bare_texts : (es : List Expression) → all_of (map (text_with value) (map bare es)) ≡ all_of (map (text_with value) es)
  bare_texts [] = refl
  bare_texts (e ∷ es) = λ i. option_and_then (λ x. option_map (λ xs. x ∷ xs) (bare_texts es i)) (bare_text e i)

  bare_program : (p : Interpreter Expression) → interpreter_with value (bare_interpreter p) ≡ interpreter_with value p
  bare_program p = λ i. option_and_then (λ command. option_map (λ arguments. record { command = command; arguments = arguments }) (bare_texts p.arguments i)) (bare_text p.command i)

  bare_one : (x : Setting) (s : Settings) → setting_with value (bare_setting x) s ≡ setting_with value x s
  bare_one (setting.ScriptInterpreter p) s = ap (option_map (λ made. record s { script_interpreter = Some made })) (bare_program p)
  bare_one (setting.Shell p) s = ap (option_map (λ made. record s { shell = Some made })) (bare_program p)
  bare_one _ s = refl

  pub bare_sets : (xs : List Set) (s : Settings) → settings_with value (map bare_set xs) s ≡ settings_with value xs s
  bare_sets [] s = refl
  bare_sets (x ∷ xs) s = λ i. option_and_then (λ made. bare_sets xs made i) (bare_one x.value s i)

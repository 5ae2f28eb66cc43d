-- What runs lines and scripts is always set.
use Rattle.std.proofs.Common.{◌≡◌, refl, subst, List, [], ◌∷◌, Option, None, Some}
use Rattle.std.specs.Option.{option_and_then, option_map}
use Rattle.just_names.specs.Texts.{Text}
use Rattle.just_ast_expressions.specs.declared.expression.Expression.{Expression}
use Rattle.just_ast_expressions.specs.declared.interpreter.Interpreter.{Interpreter}
use Rattle.just_ast_expressions.specs.declared.settings.Settings.{Settings}
use Rattle.just_ast_definitions.specs.declared.setting.Set.{Set}
use Rattle.just_ast_definitions.specs.declared.setting.Setting.{Setting}
use Rattle.just_ast_definitions.specs.declared.setting.Setting.TheVariants as setting
use Rattle.just_bench_values.specs.Settings.{HasPrograms, interpreter_with, plain_settings, setting_with, settings_with}
use Rattle.just_bench_values.specs.Values.{Outcome}

-- settings that are there have programs
abbrev Have : Option Settings → Type 0
Have None = Unit {0}
Have (Some s) = HasPrograms s

module _ (value : Expression → Outcome) where
  script_set : (s : Settings) (made : Option (Interpreter Text)) → HasPrograms s → Have (option_map (λ made. record s { script_interpreter = Some made }) made)
  script_set s None has = tt
  script_set s (Some made) has = (has.0, refl)

  shell_set : (s : Settings) (made : Option (Interpreter Text)) → HasPrograms s → Have (option_map (λ made. record s { shell = Some made }) made)
  shell_set s None has = tt
  shell_set s (Some made) has = (refl, has.1)

  one_has : (x : Setting) (s : Settings) → HasPrograms s → Have (setting_with value x s)
  one_has (setting.ScriptInterpreter i) s has = script_set s (interpreter_with value i) has
  one_has (setting.Shell i) s has = shell_set s (interpreter_with value i) has
  one_has _ s has = has

  then_has : (xs : List Set) (o : Option Settings) → Have o → ((s : Settings) → HasPrograms s → Have (settings_with value xs s)) → Have (option_and_then (settings_with value xs) o)
  then_has xs None has rest = tt
  then_has xs (Some s) has rest = rest s has

  all_have : (xs : List Set) (s : Settings) → HasPrograms s → Have (settings_with value xs s)
  all_have [] s has = has
  all_have (x ∷ xs) s has = then_has xs (setting_with value x.value s) (one_has x.value s has) (all_have xs)

  pub made_has : (xs : List Set) (made : Settings) → settings_with value xs plain_settings ≡ Some made → HasPrograms made
  made_has xs made is = subst Have is (all_have xs plain_settings (refl, refl))

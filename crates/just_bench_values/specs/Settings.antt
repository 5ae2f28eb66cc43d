-- What settings come to.
use Rattle.std.specs.Prelude.{List, [], ◌∷◌, codes, map, Option, Some, IsSome}
use Rattle.std.specs.Option.{option_and_then, option_map}
use Rattle.just_names.specs.Texts.{Text}
use Rattle.just_parts.specs.Evaluator.{Functions, Values}
use Rattle.just_ast_expressions.specs.declared.expression.Expression.{Expression}
use Rattle.just_ast_expressions.specs.declared.interpreter.Interpreter.{Interpreter}
use Rattle.just_ast_definitions.specs.declared.setting.Set.{Set}
use Rattle.just_ast_definitions.specs.declared.setting.Setting.{Setting}
use Rattle.just_ast_definitions.specs.declared.setting.Setting.TheVariants as setting
use Rattle.just_ast_expressions.specs.declared.settings.Settings.{Settings}
use Rattle.just_ast_expressions.specs.Settings.{default_settings}
use Rattle.just_bench_values.specs.Values.{Outcome, all_of, one_text, value_among_constants}

-- What is set, where expressions come to these values.
module _ (value : Expression → Outcome) where
  -- the text of an expression
  abbrev pub text_with : Expression → Option Text
  text_with e = option_map one_text (value e)

  -- the texts of a program and of its arguments
  abbrev pub interpreter_with : Interpreter Expression → Option (Interpreter Text)
  interpreter_with i =
      option_and_then (λ command. option_map (λ arguments. record { command = command; arguments = arguments }) (all_of (map text_with i.arguments))) (text_with i.command)

  -- settings with one more that is set
  abbrev pub setting_with : Setting → Settings → Option Settings
  setting_with (setting.AllowDuplicateRecipes on) s = Some (record s { allow_duplicate_recipes = on })
  setting_with (setting.AllowDuplicateVariables on) s = Some (record s { allow_duplicate_variables = on })
  setting_with (setting.DefaultScript on) s = Some (record s { default_script = on })
  setting_with (setting.Export on) s = Some (record s { export = on })
  setting_with (setting.IgnoreComments on) s = Some (record s { ignore_comments = on })
  setting_with (setting.Lazy on) s = Some (record s { lazy = on })
  setting_with (setting.Lists on) s = Some (record s { lists = on })
  setting_with (setting.NoCd on) s = Some (record s { no_cd = on })
  setting_with (setting.NoExitMessage on) s = Some (record s { no_exit_message = on })
  setting_with (setting.PositionalArguments on) s = Some (record s { positional_arguments = on })
  setting_with (setting.Quiet on) s = Some (record s { quiet = on })
  setting_with (setting.Unstable on) s = Some (record s { unstable = on })
  setting_with (setting.ScriptInterpreter i) s = option_map (λ made. record s { script_interpreter = Some made }) (interpreter_with i)
  setting_with (setting.Shell i) s = option_map (λ made. record s { shell = Some made }) (interpreter_with i)

  -- settings after each of these in turn
  abbrev pub settings_with : List Set → Settings → Option Settings
  settings_with [] s = Some s
  settings_with (x ∷ xs) s = option_and_then (settings_with xs) (setting_with x.value s)

-- `sh` with an option
abbrev pub shell_with : Text → Interpreter Text
shell_with option = record { command = codes "sh"; arguments = option ∷ [] }

-- Settings before any is set: none is on, `sh -cu` runs lines, and `sh -eu` runs scripts.
abbrev pub plain_settings : Settings
plain_settings = record default_settings { script_interpreter = Some (shell_with (codes "-eu")); shell = Some (shell_with (codes "-cu")) }

-- something runs lines, and something runs scripts
abbrev pub HasPrograms : Settings → Type 0
HasPrograms s = IsSome s.shell × IsSome s.script_interpreter

-- the settings of a module
abbrev pub settings_of : Functions → Values → List Set → Option Settings
settings_of functions constants sets = settings_with (value_among_constants functions constants) sets plain_settings

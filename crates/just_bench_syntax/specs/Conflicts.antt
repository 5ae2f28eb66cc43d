-- Settings that may not stand beside one another.
use Rattle.std.specs.Prelude.{ℕ, List, [], ◌∷◌, codes, if◌then◌else◌}
use Rattle.std.specs.Str.{bytes_eq}
use Rattle.just_ast_expressions.specs.declared.keyword.Keyword.{Keyword}
use Rattle.just_ast_definitions.specs.declared.setting.Setting.{Setting}
use Rattle.just_ast_definitions.specs.declared.setting.Setting.TheVariants as setting

abbrev pub name_of_setting : Setting → List ℕ
name_of_setting (setting.AllowDuplicateRecipes b) = codes "allow-duplicate-recipes"
name_of_setting (setting.AllowDuplicateVariables b) = codes "allow-duplicate-variables"
name_of_setting (setting.DefaultScript b) = codes "default-script"
name_of_setting (setting.Export b) = codes "export"
name_of_setting (setting.IgnoreComments b) = codes "ignore-comments"
name_of_setting (setting.Lazy b) = codes "lazy"
name_of_setting (setting.Lists b) = codes "lists"
name_of_setting (setting.NoCd b) = codes "no-cd"
name_of_setting (setting.NoExitMessage b) = codes "no-exit-message"
name_of_setting (setting.PositionalArguments b) = codes "positional-arguments"
name_of_setting (setting.Quiet b) = codes "quiet"
name_of_setting (setting.ScriptInterpreter i) = codes "script-interpreter"
name_of_setting (setting.Shell i) = codes "shell"
name_of_setting (setting.Unstable b) = codes "unstable"

-- the second of each pair whose first is a name
abbrev pub beside : List ℕ → List (Keyword × Keyword) → List Keyword
beside name [] = []
beside name (p ∷ rest) = if bytes_eq p.0.lexeme name then p.1 ∷ beside name rest else beside name rest

abbrev pub conflicts : List (Keyword × Keyword) → Setting → List Keyword
conflicts pairs it = beside (name_of_setting it) pairs

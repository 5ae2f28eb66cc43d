-- What the rules read of the settings that a module sets.
use Rattle.std.specs.Prelude.{ℕ, Bool, false, ◌&&◌, List, [], map, get_or}
use Rattle.std.specs.List.{list_any}
use Rattle.std.specs.Str.{bytes_eq}
use Rattle.just_names.specs.Texts.{Text}
use Rattle.just_names.specs.Name.{text_of_name}
use Rattle.just_names.specs.Token.{Place}
use Rattle.just_ast_expressions.specs.declared.keyword.Keyword.{Keyword}
use Rattle.just_ast_definitions.specs.declared.setting.Set.{Set}
use Rattle.just_ast_definitions.specs.declared.setting.Setting.{Setting}
use Rattle.just_ast_definitions.specs.declared.setting.Setting.TheVariants as setting

-- a setting lets variables be assigned twice
abbrev pub allows : Setting → Bool
allows (setting.AllowDuplicateVariables on) = on
allows _ = false

-- the settings that may not be set beside one
abbrev pub Conflicts : Type 0
Conflicts = Setting → List Keyword

-- variables may be assigned twice
abbrev pub is_allowing : Set → Bool
is_allowing s = allows s.value

abbrev pub allows_variables : List Set → Bool
allows_variables = list_any is_allowing

-- the names of settings
abbrev pub setting_names : List Set → List Text
setting_names = map (λ (s : Set). text_of_name s.name)

-- what is read where nothing is set
abbrev pub no_set : Set
no_set = record { name = record { token = record { line = 0; column = 0; offset = 0; length = 0; path = []; src = [] } }; value = setting.Quiet false }

-- what is set at a place
abbrev pub set_at : List Set → ℕ → Set
set_at sets i = get_or sets i no_set

-- the name of a setting, where it is set, and on which line
abbrev pub setting_at : List Set → ℕ → Text
setting_at sets i = text_of_name (set_at sets i).name

abbrev pub place_at : List Set → ℕ → Place
place_at sets i = (set_at sets i).name.token

abbrev pub line_at : List Set → ℕ → ℕ
line_at sets i = (set_at sets i).name.token.line

-- a name stands among keywords
abbrev pub stands_in : Text → List Keyword → Bool
stands_in name keywords = list_any (λ (k : Keyword). bytes_eq k.lexeme name) keywords

-- the first of two settings may not be set beside the second
abbrev pub excludes : Conflicts → List Set → ℕ → ℕ → Bool
excludes conflicts sets i j = stands_in (setting_at sets i) (conflicts (set_at sets j).value)

-- neither of two settings may be set beside the other
abbrev pub are_incompatible : Conflicts → List Set → ℕ → ℕ → Bool
are_incompatible conflicts sets i j = excludes conflicts sets i j && excludes conflicts sets j i

-- What a parameter takes.
use Rattle.std.specs.Prelude.{ℕ, Bool, true, false, ◌||◌, ◌&&◌, not, is_some, List, length, count_by, if◌then◌else◌}
use Rattle.std.specs.List.{list_any}
use Rattle.just_ast_definitions.specs.declared.parameter.ParameterKind.{ParameterKind}
use Rattle.just_ast_definitions.specs.declared.parameter.ParameterKind.TheVariants.{Singular, Plus, Star}
use Rattle.just_ast_definitions.specs.declared.parameter.Parameter.{Parameter}

-- it takes all words from its place on
abbrev pub is_variadic : ParameterKind → Bool
is_variadic Singular = false
is_variadic Plus = true
is_variadic Star = true

-- its words are given by an option
abbrev pub is_option : Parameter → Bool
is_option parameter = is_some parameter.long || is_some parameter.short

abbrev pub is_singular : ParameterKind → Bool
is_singular Singular = true
is_singular _ = false

-- a name alone, without a mark, a default, a value and an option
abbrev pub is_name : Parameter → Bool
is_name parameter = (is_singular parameter.kind && not (is_some parameter.default)) && (not (is_some parameter.value) && not (is_option parameter))

abbrev needs_word : ParameterKind → Bool
needs_word Singular = true
needs_word Plus = true
needs_word Star = false

-- its group may not be empty: it has no default, takes a word, and is no flag
abbrev pub is_required : Parameter → Bool
is_required parameter = not parameter.flag && (not (is_some parameter.default) && needs_word parameter.kind)

-- a word for each required parameter
abbrev pub least_arguments : List Parameter → ℕ
least_arguments parameters = count_by is_required parameters

-- a word for each parameter, or without end where one is variadic: the greatest `usize` but one
abbrev pub most_words : List Parameter → ℕ
most_words parameters = if list_any (λ (p : Parameter). is_variadic p.kind) parameters then 18446744073709551614 else length parameters

-- an argument for each parameter where values are lists, and else as many as words
abbrev pub most_arguments : Bool → List Parameter → ℕ
most_arguments lists parameters = if lists then length parameters else most_words parameters

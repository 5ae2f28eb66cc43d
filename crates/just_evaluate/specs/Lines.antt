-- What is written of values.
use Rattle.std.specs.Prelude.{ℕ, ◌-◌, ◌||◌, ◌==◌, if◌then◌else◌, max, codes, length, replicate, Bool, List, [], ◌∷◌, ◌++◌, map, Option, Some, None}
use Rattle.std.specs.List.{filter_map, flat_map}
use Rattle.std.specs.Option.{option_map, option_map_or}
use Rattle.just_ast_definitions.specs.declared.assignment.Assignment.{Assignment}
use Rattle.just_ast_expressions.specs.declared.scope.Scope.{Scope}
use Rattle.just_names.specs.Name.{text_of_name}
use Rattle.just_names.specs.Texts.{Text, joined}
use Rattle.just_parts.specs.Evaluator.{scope_values}
use Rattle.just_parts.specs.declared.layers.config.EvaluateFormat.{EvaluateFormat}
use Rattle.just_parts.specs.declared.layers.config.EvaluateFormat.TheVariants as format
use Rattle.just_justfile.specs.declared.justfile.Justfile.{Justfile, out-Justfile}
use Rattle.just_evaluate.specs.Asked.{public_variables}

-- a variable with the value to which a scope binds it
abbrev pub bound_in : Scope → Assignment → Option (Assignment × List Text)
bound_in scope a = option_map {U = Assignment × List Text} (λ value. (a, value)) (scope_values scope (text_of_name a.name))

-- the variables of a module that are not private and that a scope binds, each with its value, in byte order of their names
abbrev pub bound_variables : Scope → Justfile → List (Assignment × List Text)
bound_variables scope j = filter_map (bound_in scope) (public_variables j)

-- how many bytes the longest of their names has; a name is ASCII, so that its bytes are its characters
abbrev pub name_width : List (Assignment × List Text) → ℕ
name_width [] = 0
name_width (v ∷ vs) = max (length (text_of_name v.0.name)) (name_width vs)

-- a text that is filled up with blanks to a width
abbrev pub with_blanks : ℕ → Text → Text
with_blanks width text = text ++ replicate (width - length text) 32

-- a line that assigns a value as a justfile does, in which it stands as it is shown
abbrev pub just_line : (List Text → Text) → ℕ → Assignment × List Text → Text
just_line displayed width v = with_blanks width (text_of_name v.0.name) ++ codes " := " ++ displayed v.1 ++ codes "\n"

-- `_` for `-`, and any other byte itself
abbrev pub undashed : ℕ → ℕ
undashed b = if b == 45 then 95 else b

-- a name as shells allow it: with `_` for each `-`
abbrev pub underscored : Text → Text
underscored = map undashed

-- the bytes that mean something in double quotes of a shell: `!`, `"`, `$`, a backslash and a backtick
abbrev pub is_special : ℕ → Bool
is_special b = b == 33 || (b == 34 || (b == 36 || (b == 92 || b == 96)))

-- such a byte after a backslash, and any other one itself
abbrev pub escape : ℕ → Text
escape b = if is_special b then 92 ∷ b ∷ [] else b ∷ []

-- a text with a backslash before each of them
abbrev pub escaped : Text → Text
escaped = flat_map escape

-- the texts of a value, with a blank between them
abbrev pub joined_value : List Text → Text
joined_value = joined (codes " ")

-- a line that assigns a value in a shell, which exports all where a module says so
abbrev pub shell_line : Bool → Assignment × List Text → Text
shell_line all v =
    (if v.0.export || all then codes "export " else [])
    ++ underscored (text_of_name v.0.name) ++ codes "=\"" ++ escaped (joined_value v.1) ++ codes "\"\n"

-- the line of a variable in a format
abbrev pub line_in : (List Text → Text) → EvaluateFormat → Bool → ℕ → Assignment × List Text → Text
line_in displayed format.Just all width v = just_line displayed width v
line_in displayed format.Shell all width v = shell_line all v

-- the lines of variables
abbrev pub lines_in : (List Text → Text) → EvaluateFormat → Bool → List (Assignment × List Text) → Text
lines_in displayed format all vs = flat_map (line_in displayed format all (name_width vs)) vs

-- What is written of a target in a scope: the value of its one variable, if it is bound there, and without a line end; or a line for each of the variables of its module that are not private and are bound.
abbrev pub evaluated_text : (List Text → Text) → EvaluateFormat → Justfile → Option Assignment → Scope → Text
evaluated_text displayed format j (Some variable) scope = option_map_or joined_value (scope_values scope (text_of_name variable.name)) []
evaluated_text displayed format j None scope = lines_in displayed format (out-Justfile j).settings.export (bound_variables scope j)

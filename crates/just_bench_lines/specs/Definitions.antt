-- The lines of settings, variables and functions.
use Rattle.std.specs.Prelude.{ℕ, ◌+◌, ◌==◌, Bool, true, false, if◌then◌else◌, List, [], ◌∷◌, length, drop, codes, Option, Some, None}
use Rattle.std.specs.Option.{option_map}
use Rattle.std.specs.Str.{bytes_eq}
use Rattle.just_names.specs.Token.{lexeme}
use Rattle.just_names.specs.declared.name.Name.{Name}
use Rattle.just_names.specs.Number.{no_number}
use Rattle.just_ast_definitions.specs.declared.assignment.Assignment.{Assignment}
use Rattle.just_ast_expressions.specs.declared.expression.Expression.{Expression}
use Rattle.just_ast_expressions.specs.declared.expression.Shape.{Shape, out-Shape}
use Rattle.just_ast_expressions.specs.declared.expression.Shape.TheOpen.{Shape-F}
use Rattle.just_ast_definitions.specs.declared.function_definition.FunctionDefinition.{FunctionDefinition}
use Rattle.just_ast_definitions.specs.declared.function_definition.FunctionParameter.{FunctionParameter}
use Rattle.just_ast_expressions.specs.declared.interpreter.Interpreter.{Interpreter}
use Rattle.just_ast_definitions.specs.declared.setting.Set.{Set}
use Rattle.just_ast_definitions.specs.declared.setting.Setting.{Setting}
use Rattle.just_ast_definitions.specs.declared.setting.Setting.TheVariants as settings
use Rattle.just_bench_expressions.specs.declared.expressions.Found.{Found}
use Rattle.just_bench_expressions.specs.declared.lexer.Lexeme.{Lexeme}
use Rattle.just_bench_expressions.specs.Expressions.{expression}
use Rattle.just_bench_lines.specs.Places.{read_name_at, stands, word_at, is_assign, is_comma, is_name_kind, is_paren_close, is_paren_open}

-- a name that begins with `_`
abbrev pub begins_low : List ℕ → Bool
begins_low [] = false
begins_low (b ∷ rest) = b == 95

abbrev pub has_low_name : Name → Bool
has_low_name name = begins_low (lexeme name.token)

-- an expression that ends where the line does
abbrev pub ends_line : List Lexeme → Option Found → Option Expression
ends_line all None = None
ends_line all (Some found) = if found.end == length all then Some found.made else None

unfoldable pub whole_expression : List Lexeme → ℕ → Option Expression
whole_expression all at = ends_line all (expression true all at)

-- the place after a part between parentheses: after its comma, behind which another part stands, or before the `)`
abbrev pub after_part : List Lexeme → ℕ → Option ℕ
after_part all at =
    if stands is_comma all at then (if stands is_paren_close all (at + 1) then None else Some (at + 1))
    else (if stands is_paren_close all at then Some at else None)

-- the setting of a name that is on or off
abbrev pub setting : List ℕ → Bool → Option Setting
setting name value =
    if bytes_eq name (codes "allow-duplicate-recipes") then Some (settings.AllowDuplicateRecipes value)
    else (if bytes_eq name (codes "allow-duplicate-variables") then Some (settings.AllowDuplicateVariables value)
    else (if bytes_eq name (codes "export") then Some (settings.Export value)
    else (if bytes_eq name (codes "ignore-comments") then Some (settings.IgnoreComments value)
    else (if bytes_eq name (codes "lazy") then Some (settings.Lazy value)
    else (if bytes_eq name (codes "lists") then Some (settings.Lists value)
    else (if bytes_eq name (codes "positional-arguments") then Some (settings.PositionalArguments value)
    else (if bytes_eq name (codes "quiet") then Some (settings.Quiet value)
    else None)))))))

-- `true` or `false` at a place
abbrev pub truth_at : List Lexeme → ℕ → Option Bool
truth_at all at = if word_at (codes "true") all at then Some true else (if word_at (codes "false") all at then Some false else None)

-- after the name stands nothing, or `:=` and what it is set to
abbrev pub set_to : List Lexeme → Option Bool
set_to all = if length all == 2 then Some true else (if length all == 4 then (if stands is_assign all 2 then truth_at all 3 else None) else None)

abbrev pub switched : List ℕ → Option Bool → Option Setting
switched name None = None
switched name (Some value) = setting name value

-- the first of some expressions is a program, the others are its arguments
abbrev pub program_of : List Expression → Option (Interpreter Expression)
program_of [] = None
program_of (command ∷ arguments) = Some (record { command = command; arguments = arguments })

-- the program that a list is
abbrev pub listed_layer : Shape-F Shape Expression → Option (Interpreter Expression)
listed_layer (Shape-F.List elements) = program_of elements
listed_layer _ = None

unfoldable pub listed : Shape → Option (Interpreter Expression)
listed shape = listed_layer (out-Shape shape)

abbrev pub listed_by : Option Expression → Option (Interpreter Expression)
listed_by None = None
listed_by (Some e) = listed e.shape

-- after the name stands `:=` and such a list
abbrev pub program : List Lexeme → Option (Interpreter Expression)
program all = if stands is_assign all 2 then listed_by (whole_expression all 3) else None

-- the setting of a name, to what stands after it
abbrev pub setting_by : List Lexeme → List ℕ → Option Setting
setting_by all name =
    if bytes_eq name (codes "shell") then option_map settings.Shell (program all)
    else (if bytes_eq name (codes "script-interpreter") then option_map settings.ScriptInterpreter (program all)
    else switched name (set_to all))

abbrev pub named_set : Name → Option Setting → Option Set
named_set name None = None
named_set name (Some value) = Some (record { name = name; value = value })

abbrev pub set_in_line : List Lexeme → Option Name → Option Set
set_in_line all None = None
set_in_line all (Some name) = named_set name (setting_by all (lexeme name.token))

-- `set NAME` or `set NAME := ..`
abbrev pub set : List Lexeme → Option Set
set all = if word_at (codes "set") all 0 then set_in_line all (read_name_at all 1) else None

-- `unexport NAME`
abbrev pub unexport : List Lexeme → Option Name
unexport all = if length all == 2 then (if word_at (codes "unexport") all 0 then read_name_at all 1 else None) else None

-- a variable without a number
abbrev pub assigned : Name → Bool → Bool → Option Expression → Option Assignment
assigned name eager export None = None
assigned name eager export (Some value) =
    Some (record { name = name; number = no_number; value = value; eager = eager; export = export; private = has_low_name name; file_depth = 0 })

abbrev pub assignment_in_line : List Lexeme → ℕ → Bool → Bool → Option Name → Option Assignment
assignment_in_line all at eager export None = None
assignment_in_line all at eager export (Some name) = if stands is_assign all (at + 1) then assigned name eager export (whole_expression all (at + 2)) else None

-- NAME := E, from a place on
unfoldable pub assignment_at : List Lexeme → ℕ → Bool → Bool → Option Assignment
assignment_at all at eager export = assignment_in_line all at eager export (read_name_at all at)

-- `export` or `eager` or nothing before it
abbrev pub assignment : List Lexeme → Option Assignment
assignment all =
    if stands is_assign all 1 then assignment_at all 0 false false
    else (if word_at (codes "export") all 0 then assignment_at all 1 false true
    else (if word_at (codes "eager") all 0 then assignment_at all 1 true false
    else None))

-- a parameter of a function, without a number
abbrev pub function_parameter : Lexeme → FunctionParameter
function_parameter l = record { name = record { token = l.token }; number = no_number }

abbrev pub and_parameter : Lexeme → Option (List FunctionParameter × ℕ) → Option (List FunctionParameter × ℕ)
and_parameter l = option_map {U = List FunctionParameter × ℕ} (λ more. (function_parameter l ∷ more.0, more.1))

-- a `)` is at the front
abbrev pub closes : List Lexeme → Bool
closes [] = false
closes (l ∷ rest) = is_paren_close l.kind

-- the parameters of a function, with commas between them, up to the `)`, and the place after it
abbrev pub parameters_from : ℕ → List Lexeme → Option (List FunctionParameter × ℕ)
parameters_from at [] = None
parameters_from at (l ∷ []) = if is_paren_close l.kind then Some ([], at + 1) else None
parameters_from at (l ∷ m ∷ rest) =
    if is_name_kind l.kind then (if is_comma m.kind then (if closes rest then None else and_parameter l (parameters_from (at + 2) rest))
    else (if is_paren_close m.kind then Some (function_parameter l ∷ [], at + 2) else None))
    else (if is_paren_close l.kind then Some ([], at + 1) else None)

unfoldable pub parameters : List Lexeme → ℕ → Option (List FunctionParameter × ℕ)
parameters all start = parameters_from start (drop start all)

abbrev pub with_body : Name → List FunctionParameter → Option Expression → Option FunctionDefinition
with_body name parameters None = None
with_body name parameters (Some body) = Some (record { name = name; parameters = parameters; body = body })

abbrev pub with_parameters : List Lexeme → Name → Option (List FunctionParameter × ℕ) → Option FunctionDefinition
with_parameters all name None = None
with_parameters all name (Some found) = if stands is_assign all found.1 then with_body name found.0 (whole_expression all (found.1 + 1)) else None

abbrev pub function_in_line : List Lexeme → Option Name → Option FunctionDefinition
function_in_line all None = None
function_in_line all (Some name) = if stands is_paren_open all 1 then with_parameters all name (parameters all 2) else None

-- NAME(A, ..) := E
abbrev pub function : List Lexeme → Option FunctionDefinition
function all = function_in_line all (read_name_at all 0)

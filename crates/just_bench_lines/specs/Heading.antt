-- The line that a recipe begins with.
use Rattle.std.specs.Prelude.{ℕ, ◌+◌, ◌==◌, Bool, false, if◌then◌else◌, List, [], ◌∷◌, ◌++◌, length, Option, Some, None}
use Rattle.just_names.specs.Token.{lexeme}
use Rattle.just_names.specs.declared.name.Name.{Name}
use Rattle.just_names.specs.Number.{no_number}
use Rattle.just_ast_expressions.specs.declared.expression.Expression.{Expression}
use Rattle.just_ast_definitions.specs.declared.parameter.Parameter.{Parameter}
use Rattle.just_ast_definitions.specs.declared.parameter.ParameterKind.{ParameterKind}
use Rattle.just_ast_definitions.specs.declared.parameter.ParameterKind.TheVariants as parameter_kind
use Rattle.just_recipe.specs.declared.dependency.UnresolvedDependency.{UnresolvedDependency}
use Rattle.just_bench_expressions.specs.declared.expressions.Found.{Found}
use Rattle.just_bench_expressions.specs.declared.lexer.Lexeme.{Lexeme}
use Rattle.just_bench_expressions.specs.Expressions.{expression}
use Rattle.just_bench_lines.specs.declared.heading.Heading.{Heading}
use Rattle.just_bench_lines.specs.Dependencies.{dependency_list}
use Rattle.just_bench_lines.specs.Parts.{read_parts}
use Rattle.just_bench_lines.specs.Places.{read_name_at, stands, is_at_sign, is_colon, is_equals, is_plus, is_star}

-- what is written before the name of a parameter
abbrev pub mark : ParameterKind → List ℕ
mark parameter_kind.Singular = []
mark parameter_kind.Plus = 43 ∷ []
mark parameter_kind.Star = 42 ∷ []

-- what is written after it
abbrev pub default_text : Option Expression → List ℕ
default_text None = []
default_text (Some value) = 61 ∷ value.text

abbrev pub parameter_text : Name → ParameterKind → Option Expression → List ℕ
parameter_text name kind default = mark kind ++ lexeme name.token ++ default_text default

-- a parameter without a number
abbrev pub made_of : Name → ParameterKind → Option Expression → Parameter
made_of name kind default = record {
  name = name;
  number = no_number;
  kind = kind;
  default = default;
  value = None;
  long = None;
  short = None;
  flag = false;
  pattern = None;
  help = None;
  text = parameter_text name kind default;
}

-- a parameter with this default, and the place after it
abbrev pub with_default : Name → ParameterKind → Option Found → Option (Parameter × ℕ)
with_default name kind None = None
with_default name kind (Some found) = Some (made_of name kind (Some found.made), found.end)

-- a parameter whose name stands at a place, and the place after it
abbrev pub parameter_by_name : List Lexeme → ℕ → ParameterKind → Option Name → Option (Parameter × ℕ)
parameter_by_name all at kind None = None
parameter_by_name all at kind (Some name) =
    if stands is_equals all (at + 1) then with_default name kind (expression false all (at + 2))
    else Some (made_of name kind None, at + 1)

unfoldable pub named_parameter : List Lexeme → ℕ → ParameterKind → Option (Parameter × ℕ)
named_parameter all at kind = parameter_by_name all at kind (read_name_at all at)

-- a parameter: its mark, its name and its default
unfoldable pub parameter : List Lexeme → ℕ → Option (Parameter × ℕ)
parameter all at =
    if stands is_star all at then named_parameter all (at + 1) parameter_kind.Star
    else (if stands is_plus all at then named_parameter all (at + 1) parameter_kind.Plus
    else named_parameter all at parameter_kind.Singular)

-- the parameters up to a `:`, and its place
abbrev pub parameters : List Lexeme → ℕ → Option (List Parameter × ℕ)
parameters = read_parts false is_colon parameter

-- those that run after it end the line, and there is one
abbrev pub with_subsequents : List Lexeme → List UnresolvedDependency → Option (List UnresolvedDependency × ℕ) → Option (List UnresolvedDependency × List UnresolvedDependency)
with_subsequents all priors None = None
with_subsequents all priors (Some found) = if found.1 == length all then (if length found.0 == 0 then None else Some (priors, found.0)) else None

-- after those that run before it stands nothing, or `&&` and those that run after it
abbrev pub with_priors : List Lexeme → Option (List UnresolvedDependency × ℕ) → Option (List UnresolvedDependency × List UnresolvedDependency)
with_priors all None = None
with_priors all (Some found) = if found.1 == length all then Some (found.0, []) else with_subsequents all found.0 (dependency_list all (found.1 + 1))

unfoldable pub dependencies : List Lexeme → ℕ → Option (List UnresolvedDependency × List UnresolvedDependency)
dependencies all start = with_priors all (dependency_list all start)

abbrev pub with_dependencies : Bool → Name → List Parameter → Option (List UnresolvedDependency × List UnresolvedDependency) → Option Heading
with_dependencies quiet name parameters None = None
with_dependencies quiet name parameters (Some all) = Some (record { quiet = quiet; name = name; parameters = parameters; priors = all.0; subsequents = all.1 })

abbrev pub with_parameters : List Lexeme → Bool → Name → Option (List Parameter × ℕ) → Option Heading
with_parameters all quiet name None = None
with_parameters all quiet name (Some found) = with_dependencies quiet name found.0 (dependencies all (found.1 + 1))

unfoldable pub after_name : List Lexeme → Bool → Name → ℕ → Option Heading
after_name all quiet name at = with_parameters all quiet name (parameters all at)

-- a heading whose name stands at a place
abbrev pub heading_at : List Lexeme → Bool → ℕ → Option Name → Option Heading
heading_at all quiet at None = None
heading_at all quiet at (Some name) = after_name all quiet name (at + 1)

-- `@` or nothing, a name, parameters, `:`, and dependencies
unfoldable pub heading_in_line : List Lexeme → Option Heading
heading_in_line all =
    if stands is_at_sign all 0 then heading_at all (stands is_at_sign all 0) 1 (read_name_at all 1)
    else heading_at all (stands is_at_sign all 0) 0 (read_name_at all 0)

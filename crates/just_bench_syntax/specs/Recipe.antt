-- The recipe that a heading begins.
use Rattle.std.specs.Prelude.{◌≡◌, ℕ, ◌||◌, Bool, true, false, not, if◌then◌else◌, List, [], ◌∷◌, ◌++◌, map, length, Option, Some, None, is_some, Result, Ok, Err}
use Rattle.std.specs.List.{find, list_any, slice_get}
use Rattle.std.specs.Option.{option_and_then}
use Rattle.std.specs.Str.{bytes_eq}
use Rattle.just_names.specs.Token.{Place, lexeme}
use Rattle.just_names.specs.Number.{no_number}
use Rattle.just_recipe.specs.declared.dependency.UnresolvedDependency.{UnresolvedDependency}
use Rattle.just_recipe.specs.declared.recipe.Recipe.{Recipe}
use Rattle.just_ast_definitions.specs.declared.attribute.Attribute.{Attribute}
use Rattle.just_ast_definitions.specs.declared.attribute.Attribute.TheVariants as attribute
use Rattle.just_ast_definitions.specs.declared.attribute.NamedAttribute.{NamedAttribute}
use Rattle.just_ast_expressions.specs.declared.expression.Expression.{Expression}
use Rattle.just_ast_definitions.specs.declared.parameter.Parameter.{Parameter}
use Rattle.just_bench_lines.specs.declared.heading.Heading.{Heading}
use Rattle.just_bench_lines.specs.Definitions.{has_low_name}
use Rattle.just_bench_syntax.specs.declared.recipe.Spoken.{Spoken}

-- what attributes say of the parameter of a name
abbrev pub options_of : List Spoken → List ℕ → Option Spoken
options_of spoken name = find (λ (s : Spoken). bytes_eq s.options.parameter name) spoken

abbrev pub names_parameter : List Parameter → List ℕ → Bool
names_parameter parameters name = list_any (λ (p : Parameter). bytes_eq (lexeme p.name.token) name) parameters

-- the names of parameters, and those that attributes speak of
abbrev pub parameter_names_of : List Parameter → List (List ℕ)
parameter_names_of = map (λ (p : Parameter). lexeme p.name.token)

-- for the private functions: what is said of each name stands at the place that is found for it
abbrev pub AreFoundNames : List Spoken → (List ℕ → Option ℕ) → Type 0
AreFoundNames spoken place = (name : List ℕ) → options_of spoken name ≡ option_and_then (slice_get spoken) (place name)

-- an attribute fits that speaks of a parameter, of which none before it does
abbrev pub fits : List Parameter → List Spoken → List ℕ → Bool
fits parameters before name = if names_parameter parameters name then not (is_some (options_of before name)) else false

-- the first attribute that does not fit, after those before it
abbrev pub misfit_from : List Parameter → List Spoken → List Spoken → Option Place
misfit_from parameters before [] = None
misfit_from parameters before (s ∷ rest) = if fits parameters before s.options.parameter then misfit_from parameters (before ++ s ∷ []) rest else Some s.at

abbrev pub misfit : List Parameter → List Spoken → Option Place
misfit parameters spoken = misfit_from parameters [] spoken

-- a parameter with what is said of it
abbrev pub with_spoken : Option Spoken → Parameter → Parameter
with_spoken None p = p
with_spoken (Some s) p = record p { long = s.options.long; short = s.options.short; flag = s.options.flag }

abbrev pub with_options : List Spoken → Parameter → Parameter
with_options spoken p = with_spoken (options_of spoken (lexeme p.name.token)) p

-- the attribute `private`
abbrev pub is_private_mark : Attribute Expression → Bool
is_private_mark attribute.Private = true
is_private_mark _ = false

abbrev pub says_private : NamedAttribute Expression → Bool
says_private named = is_private_mark named.attribute

-- a recipe without a number and without a body
abbrev pub made_of : Heading → List (NamedAttribute Expression) → List Spoken → Recipe UnresolvedDependency
made_of h attributes spoken = record {
  attributes = attributes;
  body = [];
  dependencies = h.priors ++ h.subsequents;
  doc = None;
  file_depth = 0;
  import_offsets = [];
  name = h.name;
  number = no_number;
  parameters = map (with_options spoken) h.parameters;
  priors = length h.priors;
  private = has_low_name h.name || list_any says_private attributes;
  quiet = h.quiet;
  shebang = false;
  module_path = None;
  recipe_path = None;
  variable_references = [];
}

-- the recipe of a heading after these attributes, or the first of them that does not fit
abbrev pub recipe_after : Heading → List (NamedAttribute Expression) → List Spoken → Option Place → Result (Recipe UnresolvedDependency) Place
recipe_after h attributes spoken None = Ok (made_of h attributes spoken)
recipe_after h attributes spoken (Some at) = Err at

unfoldable pub recipe : Heading → List (NamedAttribute Expression) → List Spoken → Result (Recipe UnresolvedDependency) Place
recipe h attributes spoken = recipe_after h attributes spoken (misfit h.parameters spoken)

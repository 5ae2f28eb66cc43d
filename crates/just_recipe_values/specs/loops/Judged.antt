-- What is evaluated of the attributes of a recipe, and what is found out of it.
use Rattle.std.specs.Prelude.{◌≡◌, ◌++◌, List, flat_map, Option, None, Some, IsSome}
use Rattle.std.specs.List.{Contains}
use Rattle.std.specs.Option.{option_or}
use Rattle.just_names.specs.Name.{text_of_name}
use Rattle.just_names.specs.Texts.{Text}
use Rattle.just_names.specs.Token.{Place}
use Rattle.just_ast_definitions.specs.declared.attribute.ArgumentAttribute.{ArgumentAttribute}
use Rattle.just_ast_definitions.specs.declared.attribute.ArgumentProperty.{ArgumentProperty}
use Rattle.just_ast_definitions.specs.declared.attribute.NamedAttribute.{NamedAttribute}
use Rattle.just_ast_definitions.specs.declared.parameter.Parameter.{Parameter}
use Rattle.just_ast_expressions.specs.declared.expression.Expression.{Expression}
use Rattle.just_errors.specs.Causes.{Broken, Cause}
use Rattle.just_errors.specs.declared.compile_error.CompileErrorKind.TheVariants as kind
use Rattle.just_errors.specs.declared.fault.Fault.{Fault}
use Rattle.just_module_contents.specs.RecipeValues.{patterns_in, text_said}
use Rattle.just_parts.specs.Evaluator.{Covers, scope_values}
use Rattle.just_parts.specs.Known.{sources}
use Rattle.just_parts.specs.Scopes.{compiled_expressions, property_expressions}
use Rattle.just_patterns.specs.Pattern.{IsRefused, reading}
use Rattle.just_recipe_values.specs.declared.among.Among.{Among}

-- whatever these expressions read has a value
abbrev pub CoversEach : {E : Type 0} → Among E → List Expression → Type 0
CoversEach it es = (e : Expression) → Contains es e → Covers (sources it.assignments.now it.functions.now) (scope_values it.constants.now) e

-- the expressions of the docs, helps and patterns of attributes, and the properties that are patterns
abbrev pub expressions_among : List (NamedAttribute Expression) → List Expression
expressions_among = flat_map (λ (named : NamedAttribute Expression). compiled_expressions named.attribute)

abbrev pub patterns_among : List (NamedAttribute Expression) → List (ArgumentProperty Expression)
patterns_among = flat_map (λ (named : NamedAttribute Expression). patterns_in named.attribute)

-- the same of what one says of a parameter
abbrev pub argument_expressions : ArgumentAttribute Expression → List Expression
argument_expressions a = property_expressions a.help_property ++ property_expressions a.pattern_property

-- a parameter with the help and the pattern that are said under its name
abbrev pub informed_by : (Text → Option Text) → (Text → Option Text) → Parameter → Parameter
informed_by helps patterns p = record p { help = option_or (helps (text_of_name p.name)) p.help; pattern = option_or (patterns (text_of_name p.name)) p.pattern }

-- expressions may have values
module _ (value : Expression → Option (List Text)) where
  -- Each of these expressions has a value, and each text that one of these properties says is a regular expression.
  pub record AreSound (es : List Expression) (ps : List (ArgumentProperty Expression)) : Type 0 where
    pub values : (e : Expression) → Contains es e → IsSome (value e)
    pub patterns : (p : ArgumentProperty Expression) → Contains ps p → (text : Text) → text_said value p ≡ Some text → IsSome (reading text)

  -- One of these expressions has no value, or the text that one of these properties says is refused as a pattern.
  pub data Faults (es : List Expression) (ps : List (ArgumentProperty Expression)) : Cause → Type 0 where
    no_value : {e : Expression} {place : Place} {fault : Fault} → Contains es e → value e ≡ None → Faults es ps (Broken place (kind.Evaluate fault))
    refused : {p : ArgumentProperty Expression} {text : Text} → Contains ps p → text_said value p ≡ Some text → IsRefused text → Faults es ps (Broken p.key.token kind.ArgumentPatternRegex)

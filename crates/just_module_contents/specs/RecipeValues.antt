-- The rule of the docs, helps and patterns of a recipe, and all rules of one recipe.
use Rattle.std.specs.Prelude.{◌≡◌, List, [], flat_map, Option, None, Some, IsSome, option_to_list}
use Rattle.std.specs.List.{Contains}
use Rattle.std.specs.Option.{option_and_then}
use Rattle.just_names.specs.Texts.{Text}
use Rattle.just_names.specs.Token.{Place}
use Rattle.just_errors.specs.Causes.{Broken, Cause}
use Rattle.just_errors.specs.declared.compile_error.CompileErrorKind.TheVariants as kind
use Rattle.just_errors.specs.declared.fault.Fault.{Fault}
use Rattle.just_patterns.specs.Pattern.{IsRefused, reading}
use Rattle.just_ast_definitions.specs.declared.attribute.ArgumentProperty.{ArgumentProperty}
use Rattle.just_ast_definitions.specs.declared.attribute.Attribute.{Attribute}
use Rattle.just_ast_definitions.specs.declared.attribute.Attribute.TheVariants as attribute
use Rattle.just_ast_definitions.specs.declared.attribute.NamedAttribute.{NamedAttribute}
use Rattle.just_ast_expressions.specs.declared.expression.Expression.{Expression}
use Rattle.just_ast_expressions.specs.declared.settings.Settings.{Settings}
use Rattle.just_parts.specs.Known.{Known}
use Rattle.just_parts.specs.Syntax.{SyntaxAnswers}
use Rattle.just_recipe.specs.declared.dependency.UnresolvedDependency.{UnresolvedDependency}
use Rattle.just_recipe.specs.declared.recipe.Recipe.{Recipe}
use Rattle.just_module_contents.specs.Constants.{recipe_expressions, text_of_value}
use Rattle.just_module_contents.specs.RecipeNames.{BreaksRecipeNames}

-- the patterns that attributes say
abbrev pub patterns_in : Attribute Expression → List (ArgumentProperty Expression)
patterns_in (attribute.Arg a) = option_to_list a.pattern_property
patterns_in _ = []

abbrev pub patterns_of : Recipe UnresolvedDependency → List (ArgumentProperty Expression)
patterns_of r = flat_map (λ (named : NamedAttribute Expression). patterns_in named.attribute) r.attributes

-- expressions may have values
module _ (value : Expression → Option (List Text)) where
  -- the text that a property says; none where its value is empty, or where it has none
  abbrev pub text_said : ArgumentProperty Expression → Option Text
  text_said property = option_and_then text_of_value (value property.value)

  -- A recipe has a pattern of this text, with its key at a place.
  pub record HasPattern (r : Recipe UnresolvedDependency) (at : Place) (text : Text) : Type 0 where
    pub property : ArgumentProperty Expression
    pub there : Contains (patterns_of r) property
    pub at_is : at ≡ property.key.token
    pub says : text_said property ≡ Some text

  -- A doc, a help or a pattern of a recipe has no value, or a pattern is no regular expression.
  pub data Unvalued (r : Recipe UnresolvedDependency) : Cause → Type 0 where
    of_value : {e : Expression} {place : Place} {fault : Fault} → Contains (recipe_expressions r) e → value e ≡ None → Unvalued r (Broken place (kind.Evaluate fault))
    of_pattern : {at : Place} {text : Text} → HasPattern r at text → reading text ≡ None → Unvalued r (Broken at kind.ArgumentPatternRegex)

  -- A pattern of a recipe is a regular expression, and is refused all the same: it is past the size or the nesting that these may have.
  pub data IsPastLimits (r : Recipe UnresolvedDependency) : Cause → Type 0 where
    past_limits : {at : Place} {text : Text} → HasPattern r at text → IsSome (reading text) → IsRefused text → IsPastLimits r (Broken at kind.ArgumentPatternRegex)

  -- A rule of one recipe is broken: that of the names in what it reads, or that of its docs, helps and patterns.
  pub data BreaksRecipe (answers : SyntaxAnswers) (m : Known) (settings : Settings) (r : Recipe UnresolvedDependency) : Cause → Type 0 where
    of_names : {c : Cause} → BreaksRecipeNames answers m settings r c → BreaksRecipe answers m settings r c
    of_values : {c : Cause} → Unvalued r c → BreaksRecipe answers m settings r c

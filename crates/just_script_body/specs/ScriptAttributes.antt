-- What the attributes of a recipe say of its script.
use Rattle.std.specs.Prelude.{List, Option, None, Some}
use Rattle.just_ast_definitions.specs.declared.attribute.Attribute.{Attribute}
use Rattle.just_ast_definitions.specs.declared.attribute.Attribute.TheVariants as attribute
use Rattle.just_ast_definitions.specs.declared.attribute.NamedAttribute.{NamedAttribute}
use Rattle.just_ast_expressions.specs.declared.expression.Expression.{Expression}
use Rattle.just_ast_expressions.specs.declared.interpreter.Interpreter.{Interpreter}
use Rattle.just_ast_expressions.specs.declared.string_literal.StringLiteral.{StringLiteral}
use Rattle.just_names.specs.Texts.{Text}
use Rattle.just_recipe_body.specs.Attributes.{first_said}

-- what runs the script, which may be left to the settings: of the first attribute that says that the recipe is one
abbrev pub script_in : Attribute Expression → Option (Option (Interpreter StringLiteral))
script_in (attribute.Script interpreter) = Some interpreter
script_in _ = None

abbrev pub script_of : List (NamedAttribute Expression) → Option (Option (Interpreter StringLiteral))
script_of = first_said script_in

-- what the name of the script's file ends with: of the first attribute that says it
abbrev pub extension_in : Attribute Expression → Option Text
extension_in (attribute.Extension literal) = Some literal.cooked
extension_in _ = None

abbrev pub extension_of : List (NamedAttribute Expression) → Option Text
extension_of = first_said extension_in

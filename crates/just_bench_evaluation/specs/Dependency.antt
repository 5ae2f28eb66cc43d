-- The built-in function.
use Rattle.std.specs.Prelude.{Bool, [], codes, if◌then◌else◌}
use Rattle.just_names.specs.Texts.{Text}
use Rattle.just_ast_definitions.specs.declared.function_definition.FunctionDefinition.{FunctionDefinition}
use Rattle.just_ast_expressions.specs.declared.expression.Shape.TheVariants as shape

-- the text of its value
abbrev pub told : Bool → Text
told is_dependency = if is_dependency then codes "true" else codes "false"

-- It has no parameters, and tells whether the recipe that runs is a dependency. It stands in no file.
abbrev pub dependency_function : Bool → FunctionDefinition
dependency_function is_dependency = record {
  name = record { token = record { line = 0; column = 0; offset = 0; length = 13; path = []; src = codes "is_dependency" } };
  parameters = [];
  body = record { shape = shape.StringLiteral (told is_dependency); text = [] };
}

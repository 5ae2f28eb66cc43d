-- The variables and functions of a module, resolved.
use Rattle.std.specs.Prelude.{◌≡◌, List, Option}
use Rattle.std.specs.HashMap.{get}
use Rattle.std.specs.Option.{option_map}
use Rattle.std.specs.Str.{bytes_eq}
use Rattle.just_module_contents.specs.Contents.{Contents}
use Rattle.just_module_contents.specs.Known.{functions_under, variables_under}
use Rattle.just_module_variables.specs.declared.variables.Variables.{Variables}
use Rattle.just_names.specs.Texts.{Text}
use Rattle.just_names.specs.declared.name.Name.{Name}
use Rattle.just_names.specs.declared.number.Number.{Number}
use Rattle.just_parts.specs.Syntax.{SyntaxAnswers}
use Rattle.just_ast_definitions.specs.declared.assignment.Assignment.{Assignment}
use Rattle.just_ast_definitions.specs.declared.function_definition.FunctionDefinition.{FunctionDefinition}
use Rattle.just_module_variables.specs.Numbered.{name_of_assignment, name_of_function, numbered_assignments, numbered_functions}
use Rattle.just_module_variables.specs.Resolved.{AreInOrder}
use Rattle.just_parts.specs.Known.{Known, known, sources}
use Rattle.just_parts.specs.Needs.{HaveNumbersApart}
use Rattle.just_table.specs.Entries.{IsKeyed, find}

-- what names stand for in a module, with the numbers of its definitions
abbrev pub known_with_numbers : SyntaxAnswers → Contents → Known
known_with_numbers answers m = known answers (variables_under m.variables) (functions_under m.functions)

-- The variables of a module, those that are kept, and its functions, each with the numbers of what the names in it mean, and the names of the variables in an evaluation order.
pub record AreVariables (answers : SyntaxAnswers) (m : Contents) (assignments : List (Text × Assignment)) (functions : List (Text × FunctionDefinition)) (order : List Name) : Type 0 where
  pub assignments_are : assignments ≡ numbered_assignments (known_with_numbers answers m)
  pub functions_are : functions ≡ numbered_functions (known_with_numbers answers m)
  pub evaluation_order : AreInOrder (known_with_numbers answers m) order

-- Tables of variables and functions: each stands under its own name, and no two variables have one number.
pub record AreTables (assignments : List (Text × Assignment)) (functions : List (Text × FunctionDefinition)) : Type 0 where
  pub variables_keyed : IsKeyed name_of_assignment assignments
  pub functions_keyed : IsKeyed name_of_function functions
  pub apart : HaveNumbersApart (sources assignments functions)

abbrev pub AreVariablesOf : SyntaxAnswers → Contents → Variables → Type 0
AreVariablesOf answers m it = AreVariables answers m it.assignments it.functions it.evaluation_order

-- the number of the variable that has a name in a table
abbrev pub variable_number : List (Text × Assignment) → Text → Option Number
variable_number assignments name = option_map (λ (a : Assignment). a.number) (find name assignments)

-- the numbers of variables are told by their names
abbrev pub HasNumbers : Variables → Type 0
HasNumbers it = (name : Text) → get bytes_eq it.numbers name ≡ variable_number it.assignments name

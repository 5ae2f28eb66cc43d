-- What names stand for in a module.
use Rattle.std.specs.Prelude.{List, [], map}
use Rattle.just_table.specs.Entries.{put_all}
use Rattle.just_names.specs.Texts.{Text}
use Rattle.just_names.specs.Name.{text_of_name}
use Rattle.just_ast_definitions.specs.declared.assignment.Assignment.{Assignment}
use Rattle.just_ast_definitions.specs.declared.function_definition.FunctionDefinition.{FunctionDefinition}
use Rattle.just_parts.specs.Bare.{bare_function}
use Rattle.just_parts.specs.Known.{Known, known}
use Rattle.just_parts.specs.Located.{located_assignment}
use Rattle.just_parts.specs.Syntax.{SyntaxAnswers}
use Rattle.just_module_contents.specs.Contents.{Contents}
use Rattle.just_module_contents.specs.Kept.{kept_variables}

-- functions under their names
abbrev pub functions_under : List FunctionDefinition → List (Text × FunctionDefinition)
functions_under = put_all (λ f. text_of_name f.name) []

-- variables under their names, those that are kept
abbrev pub variables_under : List Assignment → List (Text × Assignment)
variables_under assignments = put_all (λ (a : Assignment). text_of_name a.name) [] (kept_variables assignments)

-- what names stand for in the expressions of a module, whatever its definitions have for numbers
abbrev pub known_of : SyntaxAnswers → Contents → Known
known_of answers m = known answers (variables_under (map located_assignment m.variables)) (functions_under (map bare_function m.functions))

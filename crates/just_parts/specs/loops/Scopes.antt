-- What private functions say beside `Scopes.antt`.
use Rattle.just_ast_definitions.specs.declared.assignment.Assignment.{Assignment}
use Rattle.just_ast_definitions.specs.declared.function_definition.FunctionDefinition.{FunctionDefinition}
use Rattle.just_parts.specs.Known.{hides, none_hidden}
use Rattle.just_parts.specs.Scopes.{Scoped, scoped}

abbrev pub value_scoped : Assignment → Scoped
value_scoped a = scoped none_hidden a.value

abbrev pub body_scoped : FunctionDefinition → Scoped
body_scoped f = scoped (hides f.parameters) f.body

-- For the private functions: what references lead to.
use Rattle.std.specs.Prelude.{List}
use Rattle.just_ast_definitions.specs.declared.assignment.Assignment.{Assignment}
use Rattle.just_names.specs.Texts.{Text}
use Rattle.just_evaluate.specs.declared.bindings.BoundVariable.{BoundVariable}

-- a variable and its value
abbrev pub bound_behind : BoundVariable → Assignment × List Text
bound_behind v = (v.assignment.now, v.value.now)

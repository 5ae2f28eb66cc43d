-- What private functions say beside `Bound.antt`.
use Rattle.std.specs.Prelude.{◌≡◌, true, Some}
use Rattle.just_ast_definitions.specs.declared.assignment.Assignment.{Assignment}
use Rattle.just_ast_expressions.specs.declared.scope.Scope.{Scope}
use Rattle.just_names.specs.Texts.{Text}
use Rattle.just_run_layers.specs.Covering.{binds}
use Rattle.just_run_layers.specs.declared.context.Context.{Context}
use Rattle.just_table.specs.Entries.{find}

-- a scope binds each variable of a module
abbrev pub BindsAll : Context → Scope → Type 0
BindsAll context scope = (name : Text) (a : Assignment) → find name context.assignments.now ≡ Some a → binds scope a.number ≡ true

-- Expressions on a stack.
use Rattle.std.specs.Prelude.{List, map, reverse}
use Rattle.std.specs.Borrow.{Bor}
use Rattle.just_ast_expressions.specs.declared.expression.Expression.{Expression}

-- borrowed expressions
abbrev pub borrowed : List (Bor Expression) → List Expression
borrowed places = map (λ r. r.now) places

-- those on a stack, that which is popped next first
abbrev pub waiting : List (Bor Expression) → List Expression
waiting stack = reverse (borrowed stack)

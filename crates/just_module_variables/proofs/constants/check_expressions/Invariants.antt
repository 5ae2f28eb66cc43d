use Rattle.std.proofs.Common.{take}
use Rattle.std.specs.Borrow.{Bor}
use Rattle.std.specs.List.{All}
use Rattle.just_errors.specs.Causes.{Keeps}
use Rattle.just_parts.specs.Known.{none_hidden}
use Rattle.just_ast_expressions.specs.declared.expression.Expression.{Expression}
use Rattle.just_name_resolution.specs.Lent.{known_in}
use Rattle.just_parts.specs.Misnaming.{Misnames}
use Rattle.just_module_variables.proofs.constants.check_expressions.Given as goal

abbrev pub invariant-loop-place : goal.invariant-loop-place
invariant-loop-place g l =
    All (λ (e : Bor Expression). Keeps (Misnames (known_in (g.S.Syntax.answers l.known.syntax.now) l.known) none_hidden e.now)) (take l.place l.expressions.items)

use Rattle.std.specs.Map.{values_of}
use Rattle.just_ast_definitions.specs.declared.assignment.Assignment.{Assignment}
use Rattle.just_parts.specs.Known.{none_hidden}
use Rattle.just_name_resolution.specs.Lent.{known_in}
use Rattle.just_parts.specs.Misnaming.{Misnames}
use Rattle.just_name_resolution.proofs.Checked.{Walked}
use Rattle.just_name_resolution.proofs.name_checks.check_values.Given as goal

abbrev pub invariant-loop-assignment : goal.invariant-loop-assignment
invariant-loop-assignment g l =
    Walked (λ (a : Assignment). Misnames (known_in (g.S.Syntax.answers l.known.syntax.now) l.known) none_hidden a.value) (values_of l.known.assignments.now) l.assignment-iterator

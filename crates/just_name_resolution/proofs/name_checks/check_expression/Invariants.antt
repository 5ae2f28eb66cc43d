use Rattle.std.specs.HashSet.{contains}
use Rattle.std.specs.Str.{bytes_eq}
use Rattle.just_ast_references.specs.References.{references}
use Rattle.just_name_resolution.specs.Lent.{known_in}
use Rattle.just_parts.specs.Misnaming.{MisnamesAt}
use Rattle.just_name_resolution.proofs.Checked.{Walked}
use Rattle.just_name_resolution.proofs.name_checks.check_expression.Given as goal

abbrev pub invariant-loop-reference : goal.invariant-loop-reference
invariant-loop-reference g l =
    Walked (MisnamesAt (known_in (g.S.Syntax.answers l.known.syntax.now) l.known) (contains bytes_eq l.hidden)) (references l.expression) l.reference-iterator

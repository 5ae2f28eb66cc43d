use Rattle.std.proofs.Common.{length}
use Rattle.just_name_resolution.specs.Numbers.{number_in}
use Rattle.just_ast_references.specs.Parts.{waiting}
use Rattle.just_name_resolution.proofs.Nodes.{IsMade}
use Rattle.just_name_resolution.proofs.numbers.numbered.Given as goal

abbrev pub invariant-loop-next : goal.invariant-loop-next
invariant-loop-next g l =
    IsMade (number_in (g.S.Syntax.answers l.numbers.syntax.now) l.numbers) l.expression (waiting l.left.items) l.built.items

abbrev pub decreases-loop-next : goal.decreases-loop-next
decreases-loop-next g l = length l.left.items

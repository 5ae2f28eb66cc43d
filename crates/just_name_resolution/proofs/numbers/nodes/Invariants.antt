use Rattle.std.specs.List.{sum_by}
use Rattle.just_name_resolution.specs.loops.Nodes.{LeadsBack}
use Rattle.just_ast_references.specs.Parts.{waiting}
use Rattle.just_ast_expressions.proofs.Sizes.{size}
use Rattle.just_name_resolution.proofs.numbers.nodes.Given as goal

abbrev pub invariant-loop-next : goal.invariant-loop-next
invariant-loop-next l = LeadsBack l.expression (waiting l.found.items) (waiting l.stack.items)

abbrev pub decreases-loop-next : goal.decreases-loop-next
decreases-loop-next l = sum_by size (waiting l.stack.items)

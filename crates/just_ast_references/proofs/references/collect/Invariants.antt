use Rattle.std.proofs.Common.{◌≡◌, ◌++◌, All}
use Rattle.std.specs.List.{flat_map, sum_by}
use Rattle.just_ast_references.specs.Parts.{borrowed, waiting}
use Rattle.just_ast_references.specs.References.{IsReference, mention, references}
use Rattle.just_ast_expressions.proofs.Sizes.{size}
use Rattle.just_ast_references.proofs.references.collect.Given as goal

abbrev pub invariant-loop-next : goal.invariant-loop-next
invariant-loop-next l = All IsReference (borrowed l.found.items)
    × (flat_map mention (borrowed l.found.items) ++ flat_map references (waiting l.stack.items) ≡ references l.expression)

abbrev pub decreases-loop-next : goal.decreases-loop-next
decreases-loop-next l = sum_by size (waiting l.stack.items)

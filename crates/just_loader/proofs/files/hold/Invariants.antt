use Rattle.std.proofs.Common.{length}
use Rattle.std.specs.HashMap.{get}
use Rattle.just_parts.specs.Asts.{same_ast_key}
use Rattle.just_loader.proofs.HeldAsts.{HeldFrom}
use Rattle.just_loader.proofs.files.hold.Given as goal

abbrev pub invariant-loop-ast : goal.invariant-loop-ast
invariant-loop-ast l = HeldFrom l.scan l.nodes l.initial.asts.items l.asts.items (get same_ast_key l.held)

abbrev pub decreases-loop-ast : goal.decreases-loop-ast
decreases-loop-ast l = length l.asts.items

use Rattle.std.proofs.Common.{◌≡◌, ◌++◌, drop}
use Rattle.just_ast_references.specs.Parts.{waiting}
use Rattle.just_ast_references.proofs.parts.push_all.Given as goal

abbrev pub invariant-loop-place : goal.invariant-loop-place
invariant-loop-place l = waiting l.stack.items ≡ drop l.place l.all ++ waiting l.initial.stack.items

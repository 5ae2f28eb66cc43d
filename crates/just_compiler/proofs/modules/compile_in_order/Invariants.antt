use Rattle.just_parts.specs.Layers.{given_by}
use Rattle.just_compiler.specs.loops.Steps.{HaveCompiledSoFar, made_in}
use Rattle.just_compiler.proofs.modules.compile_in_order.Given as goal

abbrev pub invariant-loop-place : goal.invariant-loop-place
invariant-loop-place g l = HaveCompiledSoFar (given_by g.S.Syntax.answers g.E.ConstantEvaluation.answers l.given) l.files l.joined l.loaded l.order l.place-index l.slots.items (made_in l.gathered)

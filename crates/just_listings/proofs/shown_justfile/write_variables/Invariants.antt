use Rattle.std.proofs.Common.{map}
use Rattle.just_ast_definitions.specs.DefinitionTexts.{assignment_text}
use Rattle.just_ast_definitions.specs.declared.assignment.Assignment.{Assignment}
use Rattle.just_listings.proofs.Gaps.{AreWritten}
use Rattle.just_listings.proofs.shown_justfile.write_variables.Given as goal

abbrev pub invariant-loop-assignment : goal.invariant-loop-assignment
invariant-loop-assignment g l = AreWritten g.W.Write.write_str_gives l.initial.f l.initial.begun (map (λ (a : Assignment). assignment_text a) (map (λ a. a.now) l.yielded)) l.f l.begun

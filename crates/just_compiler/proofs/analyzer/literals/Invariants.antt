use Rattle.std.proofs.Common.{◌≡◌, take}
use Rattle.just_compiler.proofs.analyzer.literals.Given as goal

abbrev pub invariant-loop-text : goal.invariant-loop-text
invariant-loop-text l = l.copies ≡ take l.text-index l.texts

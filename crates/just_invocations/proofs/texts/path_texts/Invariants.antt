use Rattle.std.proofs.Common.{◌≡◌, map}
use Rattle.just_invocations.specs.Meaning.{module_path_text}
use Rattle.just_invocations.proofs.texts.path_texts.Given as goal

abbrev pub invariant-loop-path : goal.invariant-loop-path
invariant-loop-path l = l.texts ≡ map module_path_text (map (λ p. p.now) l.yielded)

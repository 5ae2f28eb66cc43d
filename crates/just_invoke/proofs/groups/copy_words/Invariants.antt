use Rattle.std.proofs.Common.{◌≡◌, map, take}
use Rattle.just_invoke.proofs.groups.copy_words.Given as goal

abbrev pub invariant-loop-word : goal.invariant-loop-word
invariant-loop-word l = l.texts ≡ map (λ word. word.now) (take l.word-index l.words)

use Rattle.std.proofs.Common.{◌≡◌, map, take}
use Rattle.just_invoke.proofs.groups.copy_groups.Given as goal

abbrev pub invariant-loop-words : goal.invariant-loop-words
invariant-loop-words l = l.groups ≡ map (λ words. map (λ word. word.now) words.items) (take l.words-index l.arguments)

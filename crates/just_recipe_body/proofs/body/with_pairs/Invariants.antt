use Rattle.std.proofs.Common.{◌≡◌, drop}
use Rattle.just_recipe_body.specs.Body.{with_pairs}
use Rattle.just_recipe_body.proofs.body.with_pairs.Given as goal

abbrev pub invariant-loop-pair : goal.invariant-loop-pair
invariant-loop-pair l = with_pairs l.initial.all l.pairs ≡ with_pairs l.all (drop l.pair-index l.pairs)

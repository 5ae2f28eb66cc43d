use Rattle.std.proofs.Common.{map}
use Rattle.just_listings.specs.Public.{recipes_named}
use Rattle.just_listings.specs.Shown.{recipe_shown}
use Rattle.just_listings.proofs.Gaps.{AreWritten}
use Rattle.just_listings.proofs.shown_justfile.write_recipes.Given as goal

abbrev pub invariant-loop-key : goal.invariant-loop-key
invariant-loop-key g l = AreWritten g.W.Write.write_str_gives l.initial.f l.initial.begun (map recipe_shown (recipes_named l.recipes (map (λ key. key.now) l.yielded))) l.f l.begun

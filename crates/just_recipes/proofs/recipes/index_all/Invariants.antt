use Rattle.std.proofs.Common.{nat_eq, ◌≡◌, ℕ, ◌+◌, ◌<◌, slice_index, Some}
use Rattle.std.specs.HashMap.{get}
use Rattle.just_recipe.specs.Recipes.{numbers, IsNew}
use Rattle.just_recipes.proofs.recipes.index_all.Given as goal

abbrev pub invariant-loop-place : goal.invariant-loop-place
invariant-loop-place l = record {
  placed : (k : ℕ) → k < l.place → get nat_eq l.places (slice_index (numbers l.recipes) k) ≡ Some (l.start + k);
  kept : (n : ℕ) → IsNew l.recipes n → get nat_eq l.places n ≡ get nat_eq l.initial.places n;
}

use Rattle.std.proofs.Common.{nat_eq, ◌≡◌, List, ℕ, length, slice_index, ◌+◌, ◌<◌, Some, is_ok, subst, sym, ◌∙◌, ap, arith}
use Rattle.std.proofs.lemmas.Grind.{common_steps}
use Rattle.std.specs.HashMap.{get}
use Rattle.just_recipe.specs.declared.dependency.Dependency.{Dependency}
use Rattle.just_recipe.specs.declared.recipe.Recipe.{Recipe}
use Rattle.just_recipe.specs.Recipes.{numbers, IsNew, ShareNoNumber}
use Rattle.just_recipes.proofs.RecipeLemmas.{all_once, index-others, joined, left}
use Rattle.just_recipes.proofs.recipes.Recipes.append.Goals as goal

pub index_all-requires-clause-once : goal.index_all-requires-clause-once
index_all-requires-clause-once c = all_once c.other.inside.recipes.items c.as_slice.result.now (get nat_eq c.other.inside.places) (sym c.as_slice.ensures.value) c.other.invariant.1

pub invariant_of-self : goal.invariant_of-self
invariant_of-self c = (
  c.self.invariant.0,
  index-others c.self.inside.recipes.items c.args.self.now c.as_slice.result.now (get nat_eq c.self.inside.places) (get nat_eq c.index_all.new.places) c.self.view_is c.self.invariant.1
      (subst (λ (xs : List (Recipe Dependency)). ShareNoNumber c.args.self.now xs) (sym (c.as_slice.ensures.value ∙ c.other.view_is)) c.requires) c.index_all.ensures.kept,
)

pub invariant_of-self-2 : goal.invariant_of-self-2
invariant_of-self-2 c =
    let count : c.len-start.result ≡ length c.self.inside.recipes.items = grind (arith, common_steps) in
    let apart : ShareNoNumber c.args.self.now c.other.inside.recipes.items = subst (λ (xs : List (Recipe Dependency)). ShareNoNumber c.args.self.now xs) (sym c.other.view_is) c.requires in
    joined c.self.inside.recipes.items c.args.self.now c.other.inside.recipes.items c.append.new.self.items (is_ok c.append.result) (get nat_eq c.index_all.new.places) c.self.view_is c.append.ensures.items c.self.invariant.0 c.other.invariant.0 apart
    (index-others c.self.inside.recipes.items c.args.self.now c.other.inside.recipes.items (get nat_eq c.self.inside.places) (get nat_eq c.index_all.new.places) c.self.view_is c.self.invariant.1 apart
    (subst (λ (xs : List (Recipe Dependency)). (n : ℕ) → IsNew xs n → get nat_eq c.index_all.new.places n ≡ get nat_eq c.self.inside.places n) c.as_slice.ensures.value c.index_all.ensures.kept))
    (subst (λ (xs : List (Recipe Dependency)). (k : ℕ) → k < length xs → get nat_eq c.index_all.new.places (slice_index (numbers xs) k) ≡ Some (length c.self.inside.recipes.items + k)) c.as_slice.ensures.value
    (λ k h. c.in_ok-index_all.ensures.placed k h ∙ ap (λ n. Some (n + k)) count))

pub invariant_of-other : goal.invariant_of-other
invariant_of-other c = left c.other.inside.recipes.items c.append.new.other.items (is_ok c.append.result) (get nat_eq c.other.inside.places) c.append.ensures.other_items c.other.invariant.0 c.other.invariant.1

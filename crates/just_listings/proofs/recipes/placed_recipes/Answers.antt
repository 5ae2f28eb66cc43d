use Rattle.std.proofs.Common.{◌≡◌, Bor, None, Some, true, false, refl, rules}
use Rattle.just_justfile.specs.declared.justfile.RecipeKey.{RecipeKey}
use Rattle.just_recipe.specs.Recipes.{find_number}
use Rattle.just_recipe.specs.declared.dependency.Dependency.{Dependency}
use Rattle.just_recipe.specs.declared.recipe.Recipe.{Recipe}
use Rattle.just_recipe_run.specs.Calls.{is_public}
use Rattle.just_listings.specs.loops.Order.{item_behind}
use Rattle.just_listings.specs.Public.{recipe_place}
use Rattle.just_listings.specs.declared.order.Placed.{Placed}
use Rattle.just_listings.proofs.Listed.{all_pushed, next_kept, next_left, next_missing}
use Rattle.just_listings.proofs.recipes.placed_recipes.Goals as goal

pub loop-key-preserved-in_default : goal.loop-key-preserved-in_default
loop-key-preserved-in_default c =
    let leads : find_number c.args.recipes.now c.in-Some.key.now.number.0 ≡ None = search rules in
    record {
      public = next_missing item_behind is_public (λ (key : RecipeKey). find_number c.args.recipes.now key.number.0) (λ (key : Bor RecipeKey). key.now) c.loop-key.yielded c.in-Some.key c.loop-key.placed.items leads c.loop-key.invariant.public;
      places = c.loop-key.invariant.places;
    }

pub loop-key-preserved-in_ok-push : goal.loop-key-preserved-in_ok-push
loop-key-preserved-in_ok-push c =
    let leads : find_number c.args.recipes.now c.in-Some.key.now.number.0 ≡ Some c.in-Some-get.recipe.now = search rules in
    let passes : is_public c.in-Some-get.recipe.now ≡ true = search rules in
    record {
      public = next_kept item_behind is_public (λ (key : RecipeKey). find_number c.args.recipes.now key.number.0) (λ (key : Bor RecipeKey). key.now) c.loop-key.yielded c.in-Some.key c.in-Some-get.recipe.now
          c.loop-key.placed.items c.push.new.self.items _ leads passes refl c.in_ok-push.ensures.items c.loop-key.invariant.public;
      places = all_pushed (λ (it : Placed (Bor (Recipe Dependency))). it.place ≡ recipe_place it.item.now) c.loop-key.placed.items c.push.new.self.items _ c.in_ok-push.ensures.items c.loop-key.invariant.places c.in_ok-place_of_recipe.ensures;
    }

pub loop-key-preserved : goal.loop-key-preserved
loop-key-preserved c =
    let leads : find_number c.args.recipes.now c.in-Some.key.now.number.0 ≡ Some c.in-Some-get.recipe.now = search rules in
    let fails : is_public c.in-Some-get.recipe.now ≡ false = search rules in
    record {
      public = next_left item_behind is_public (λ (key : RecipeKey). find_number c.args.recipes.now key.number.0) (λ (key : Bor RecipeKey). key.now) c.loop-key.yielded c.in-Some.key c.in-Some-get.recipe.now c.loop-key.placed.items leads fails
          c.loop-key.invariant.public;
      places = c.loop-key.invariant.places;
    }

-- The places of recipes that are held.
use Rattle.std.proofs.Common.{◌≡◌, ℕ, ◌<◌, List, length, Option, Some, None, refl, subst}
use Rattle.std.specs.Prelude.{IsSome, IfSome, IfNone}
use Rattle.std.specs.List.{Contains}
use Rattle.just_recipe.specs.declared.dependency.Dependency.{Dependency}
use Rattle.just_recipe.specs.declared.recipe.Recipe.{Recipe}
use Rattle.just_recipes.specs.Places.{place_of}
use Rattle.just_recipe.specs.Recipes.{numbers, IsNew, IsPlaceOf}

pub placed-some : (rs : List (Recipe Dependency)) (n : ℕ) (o : Option ℕ) → Contains (numbers rs) n → IfNone o (IsNew rs n) → IsSome o
placed-some rs n (Some k) c h = refl
placed-some rs n None c h = absurd (h c)

pub placed : (rs : List (Recipe Dependency)) (n : ℕ) (o : Option ℕ) (k : ℕ) → o ≡ Some k → IfSome o (IsPlaceOf rs n) → IfSome o (λ place. place ≡ place_of rs n) → (k < length rs) × (k ≡ place_of rs n)
placed rs n o k is at first = ((subst (λ o. IfSome o (IsPlaceOf rs n)) is at).0, subst (λ o. IfSome o (λ place. place ≡ place_of rs n)) is first)

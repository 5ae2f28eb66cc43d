-- Recipes that stand, among the others.
use Rattle.std.proofs.Common.{◌≡◌, List, [], ◌∷◌, inl, inr, subst, sym}
use Rattle.just_graph.proofs.Members.{In}
use Rattle.just_module_contents.specs.Recipes.{name_of_recipe}
use Rattle.just_module_contents.specs.Standing.{AreStanding, falls, none, stands}
use Rattle.just_names.specs.Texts.{Text}
use Rattle.just_recipe.specs.declared.dependency.UnresolvedDependency.{UnresolvedDependency}
use Rattle.just_recipe.specs.declared.recipe.Recipe.{Recipe}

-- one that stands is one of them
pub standing_in : {Stands : Text → Type 0} {rs standing : List (Recipe UnresolvedDependency)} → AreStanding Stands rs standing → (r : Recipe UnresolvedDependency) → In r standing → In r rs × Stands (name_of_recipe r)
standing_in none r h = absurd h
standing_in {Stands} (stands is all) r (inl e) = (inl e, subst (λ (y : Recipe UnresolvedDependency). Stands (name_of_recipe y)) (sym e) is)
standing_in (stands is all) r (inr h) = let i = standing_in all r h in (inr i.0, i.1)
standing_in (falls is all) r h = let i = standing_in all r h in (inr i.0, i.1)

-- and one of them whose name stands is one that stands
pub stays : {Stands : Text → Type 0} {rs standing : List (Recipe UnresolvedDependency)} → AreStanding Stands rs standing → (r : Recipe UnresolvedDependency) → In r rs → Stands (name_of_recipe r) → In r standing
stays none r h is = absurd h
stays (stands at more) r (inl e) is = inl e
stays (stands at more) r (inr h) is = inr (stays more r h is)
stays {Stands} (falls isnt more) r (inl e) is = absurd (isnt (subst (λ (x : Recipe UnresolvedDependency). Stands (name_of_recipe x)) e is))
stays (falls isnt more) r (inr h) is = stays more r h is

-- A rule of one recipe, by the places that nothing disables and by the recipes that stand.
use Rattle.std.proofs.Common.{◌≡◌, ◌∙◌, ℕ, ◌<◌, List, [], length, subst, sym}
use Rattle.std.specs.BTreeSet.{BTreeSet}
use Rattle.std.proofs.lemmas.List.{get_or_default}
use Rattle.just_errors.specs.Causes.{Cause, Keeps}
use Rattle.just_graph.proofs.Members.{contained, is_in}
use Rattle.just_module_contents.proofs.StandingOnes.{standing_in, stays}
use Rattle.just_module_contents.specs.Recipes.{name_of_recipe, no_recipe, recipe_at}
use Rattle.just_module_contents.specs.Standing.{AreStanding, InStanding, in_recipe, of_standing}
use Rattle.just_module_recipes.specs.loops.Completed.{OfUndisabled, of_one}
use Rattle.just_module_recipes.specs.Links.{Around, Stands}
use Rattle.just_module_recipes.specs.Making.{standing}
use Rattle.just_module_recipes.specs.loops.Making.{AreExact}
use Rattle.just_module_recipes.specs.Rows.{keys_at}
use Rattle.just_module_recipes.proofs.Finished.{empty_stands, stands_empty}
use Rattle.just_module_recipes.proofs.Splits.{standing_exact}
use Rattle.just_paths.specs.declared.modulepath.Modulepath.{Modulepath}
use Rattle.just_recipe.specs.declared.dependency.UnresolvedDependency.{UnresolvedDependency}
use Rattle.just_recipe.specs.declared.recipe.Recipe.{Recipe}

module _ (rs : List (Recipe UnresolvedDependency)) (it : Around) (sets : List (BTreeSet Modulepath)) (exact : AreExact rs it sets) (rule : Recipe UnresolvedDependency → Cause → Type 0) where
  -- where the places that nothing disables keep it, those that stand do
  pub own_kept : ((i : ℕ) → i < length rs → keys_at sets i ≡ [] → Keeps (rule (recipe_at rs i))) → Keeps (InStanding (Stands rs it) rule rs)
  own_kept each c (of_standing ss are (in_recipe k h b)) =
      let r = recipe_at ss k in
      let s = standing_in are r (is_in r ss (k, h, get_or_default ss k r no_recipe h)) in
      let i = contained r rs s.0 in
      let is : recipe_at rs i.0 ≡ r = get_or_default rs i.0 no_recipe r i.1 ∙ i.2 in
      each i.0 i.1 (stands_empty rs it sets exact i.0 i.1 (subst (λ (x : Recipe UnresolvedDependency). Stands rs it (name_of_recipe x)) (sym is) s.1)) c (subst (λ x. rule x c) (sym is) b)

  -- what is told of such a place is told of one that stands
  pub own_told : (c : Cause) → OfUndisabled rule rs sets c → InStanding (Stands rs it) rule rs c
  own_told c (of_one i h empty b) =
      let ss = standing sets rs in
      let are : AreStanding (Stands rs it) rs ss = standing_exact rs it sets exact in
      let r = recipe_at rs i in
      let in_ss = stays are r (is_in r rs (i, h, get_or_default rs i r no_recipe h)) (empty_stands rs it sets exact i h empty) in
      let k = contained r ss in_ss in
      let is : recipe_at ss k.0 ≡ r = get_or_default ss k.0 no_recipe r k.1 ∙ k.2 in
      of_standing ss are (in_recipe k.0 k.1 (subst (λ x. rule x c) (sym is) b))

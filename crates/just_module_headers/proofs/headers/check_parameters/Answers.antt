use Rattle.std.proofs.Common.{◌≡◌, ℕ, length, subst, arith, inl, inr}
use Rattle.std.proofs.lemmas.Bool.{cases_lt}
use Rattle.just_module_contents.specs.Definitions.{recipes_in}
use Rattle.just_names.specs.Index.{AreDifferent}
use Rattle.just_module_contents.specs.Recipes.{parameter_names, recipe_at}
use Rattle.just_module_contents.specs.loops.Recipes.{NoneFollows}
use Rattle.just_module_contents.proofs.RecipePlaces.{length-lent, parameters_kept}
use Rattle.just_module_headers.proofs.headers.check_parameters.Goals as goal

pub loop-place-preserved : goal.loop-place-preserved
loop-place-preserved c = λ k l. elim (cases_lt k c.loop-place.place) [
  | inl b ↦ c.loop-place.invariant k b
  | inr b ↦
      let same : c.loop-place.place ≡ k = omega (arith, l, b) in
      subst (λ (i : ℕ). AreDifferent (parameter_names (recipe_at (recipes_in c.args.definitions.now) i)) × NoneFollows (recipe_at (recipes_in c.args.definitions.now) i).parameters) same
      (c.in_ok-check_names_at.ensures.kept, c.in_ok-check_defaults_at.ensures.kept)
]

pub returns-clause-kept : goal.returns-clause-kept
returns-clause-kept c = λ _ h.
    let long : length (recipes_in c.args.definitions.now) ≡ length c.args.definitions.now.recipes.items = length-lent c.args.definitions.now.recipes.items in
    parameters_kept (recipes_in c.args.definitions.now) (λ k l. (c.loop-place.invariant k (omega arith)).0) (λ k l. (c.loop-place.invariant k (omega arith)).1) h

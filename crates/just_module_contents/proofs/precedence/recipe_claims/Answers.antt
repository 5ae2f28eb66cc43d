use Rattle.std.proofs.Common.{◌≡◌, ◌≤◌, ◌∙◌, length, subst, sym}
use Rattle.just_module_contents.specs.Definitions.{recipes_in}
use Rattle.just_module_contents.specs.Kept.{claim_of_recipe}
use Rattle.just_module_contents.specs.declared.precedence.Claim.{Claim}
use Rattle.just_module_contents.proofs.Mapping.{mapped_all, mapped_more}
use Rattle.just_module_contents.proofs.RecipePlaces.{length-lent}
use Rattle.just_module_contents.proofs.precedence.recipe_claims.Goals as goal

pub loop-place-preserved : goal.loop-place-preserved
loop-place-preserved c =
    let depth = c.recipe_at-recipe.result.now.file_depth in
    let made : Claim = record { name = c.new.result; depth = depth } in
    let is : made ≡ claim_of_recipe c.recipe_at-recipe.result.now = λ i. record { name = (c.new.ensures ∙ c.lexeme.ensures) i; depth = depth } in
    mapped_more claim_of_recipe (recipes_in c.args.definitions.now) c.loop-place.claims.items c.push.new.self.items c.loop-place.place c.recipe_at-recipe.result.now made c.loop-place.invariant c.recipe_at-recipe.ensures.recipe is c.in_ok-push.ensures.items

pub returns : goal.returns
returns c =
    let count : c.len-place-end.result ≡ length (recipes_in c.args.definitions.now) =
    c.len-place-end.ensures ∙ c.args.definitions.now.recipes.ok.0 ∙ sym (length-lent c.args.definitions.now.recipes.items) in
    mapped_all claim_of_recipe (recipes_in c.args.definitions.now) c.loop-place.claims.items c.loop-place.place
    (subst (λ n. n ≤ c.loop-place.place) count c.loop-place-test.false) c.loop-place.invariant

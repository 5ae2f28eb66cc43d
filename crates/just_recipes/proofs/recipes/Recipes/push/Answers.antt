use Rattle.std.proofs.Common.{nat_eq, ◌≡◌, ◌∙◌, ap, Some, is_ok, length, arith}
use Rattle.std.proofs.lemmas.Grind.{common_steps}
use Rattle.std.specs.HashMap.{get}
use Rattle.just_recipes.proofs.RecipeLemmas.{numbers_apart, pushed}
use Rattle.just_recipes.proofs.recipes.Recipes.push.Goals as goal

pub invariant_of-self : goal.invariant_of-self
invariant_of-self c =
    let count : c.len.result ≡ length c.self.inside.recipes.items = grind (arith, common_steps) in
    let here : get nat_eq c.insert.new.self c.args.recipe.number.0 ≡ Some c.len.result = c.in-Ok.ensures.updates.1 in
    pushed c.self.inside.recipes.items c.args.self.now c.push.new.self.items c.args.recipe (is_ok c.push.result) (get nat_eq c.self.inside.places) (get nat_eq c.insert.new.self) c.self.view_is c.push.ensures.items c.self.invariant.0 c.self.invariant.1
    c.requires.is_new c.requires.there (here ∙ ap Some count) (λ n ne. c.in-Ok.ensures.updates.2 n (numbers_apart c.args.recipe.number.0 n ne))

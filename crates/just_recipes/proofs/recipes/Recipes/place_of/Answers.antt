use Rattle.std.proofs.Common.{◌≡◌, ◌<◌, ◌∙◌, nat_eq, length, eqb-true, rules, sym}
use Rattle.std.specs.HashMap.{get}
use Rattle.just_recipes.proofs.Places.{place-is, read-place}
use Rattle.just_recipes.proofs.recipes.Recipes.place_of.Goals as goal

pub returns-then-eq-clause-first : goal.returns-then-eq-clause-first
returns-then-eq-clause-first c =
    let within : c.in-Some.place < length c.self.inside.recipes.items = search rules in
    let is : c.index.result.now.number.0 ≡ c.args.number.0 = eqb-true _ _ (sym c.eq.ensures ∙ c.if-eq.true) in
    place-is c.self.inside.recipes.items c.args.self.now (get nat_eq c.self.inside.places) c.args.number.0 c.in-Some.place c.self.view_is c.self.invariant.1
    (read-place c.self.inside.recipes.items c.args.self.now c.args.number.0 c.in-Some.place c.index.result.now c.self.view_is within c.index.ensures is)

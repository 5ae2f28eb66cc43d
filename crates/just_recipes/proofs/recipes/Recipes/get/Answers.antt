use Rattle.std.proofs.Common.{nat_eq, sym}
use Rattle.std.specs.HashMap.{get}
use Rattle.just_recipes.proofs.RecipeLemmas.{found_in, not_found}
use Rattle.just_recipes.proofs.recipes.Recipes.get.Goals as goal

pub returns-in-Some : goal.returns-in-Some
returns-in-Some c = found_in c.self.inside.recipes.items c.args.self.now (get nat_eq c.self.inside.places) c.args.number.0 c.in-Some.place c.index.result.now c.self.view_is c.self.invariant.1 c.in-Some.ensures.found c.index.ensures

pub returns-in-None : goal.returns-in-None
returns-in-None c = sym (not_found c.args.self.now c.args.number.0 c.in-None.ensures.missing)

use Rattle.just_justfile.proofs.Holding.{held_found}
use Rattle.just_justfile.proofs.justfile.Justfile.own_recipe.Goals as goal

pub returns-in-Some-clause-held : goal.returns-in-Some-clause-held
returns-in-Some-clause-held c = held_found c.args.recipes.now c.in-Some.key.now.number.0 c.get-in-Some.result c.get-in-Some.ensures

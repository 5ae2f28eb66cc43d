use Rattle.just_module_contents.specs.Definitions.{recipes_in}
use Rattle.just_module_contents.proofs.RecipePlaces.{recipe_read}
use Rattle.just_module_contents.proofs.definitions.Definitions.recipe_at.Goals as goal

pub returns-clause-there : goal.returns-clause-there
returns-clause-there c = recipe_read (recipes_in c.args.self.now) c.args.place c.lent_at.result.now c.lent_at.ensures

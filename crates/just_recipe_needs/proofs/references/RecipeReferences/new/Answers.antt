use Rattle.just_recipe_needs.proofs.Keeping.{known_none}
use Rattle.just_recipe_needs.proofs.references.RecipeReferences.new.Goals as goal

pub returns-clause-right : goal.returns-clause-right
returns-clause-right c = known_none (record { tables = c.args.tables; overrides = c.args.overrides }) c.new.result c.new.ensures.empty

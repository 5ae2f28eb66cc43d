use Rattle.just_module_contents.specs.RecipeNames.{written_scopes}
use Rattle.just_name_resolution.specs.Lent.{tables_in}
use Rattle.just_parts.specs.Needs.{has_number}
use Rattle.just_recipe_needs.proofs.Walked.{right_for}
use Rattle.just_recipe_needs.proofs.references.RecipeReferences.references_of.Goals as goal

pub returns-clause-needed : goal.returns-clause-needed
returns-clause-needed g c =
    right_for (tables_in c.args.self.now.sources.tables) (written_scopes (g.S.Syntax.answers c.args.syntax.now) c.args.settings.now c.args.recipe.now)
    c.in_ok-names.names c.in_ok-names.ensures (has_number c.args.self.now.sources.overrides.now) c.in_ok-numbers.numbers c.in_ok-numbers.ensures.right

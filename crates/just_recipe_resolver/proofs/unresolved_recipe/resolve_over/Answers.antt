use Rattle.std.proofs.Common.{◌∙◌, ap}
use Rattle.just_module_contents.specs.Recipes.{lent}
use Rattle.just_recipe_resolution.specs.Basis.{basis_of, completion_on}
use Rattle.just_recipe_resolver.specs.Resolved.{links_to}
use Rattle.just_recipe_resolver.proofs.Placed.{placed_so}
use Rattle.just_recipe_resolver.proofs.unresolved_recipe.resolve_over.Goals as goal

pub returns-clause-made : goal.returns-clause-made
returns-clause-made g c =
    let by = c.args.resolving in
    let completed = completion_on (g.S.Syntax.answers by.meanings.syntax.now) (g.E.ConstantEvaluation.answers by.among.evaluation.now) (basis_of by) in
    let lists = by.meanings.settings.now.lists in
    let targets = lent c.args.beside.now.recipes.items in
    let links = c.in_ok-links.ensures ∙ ap (λ ds. links_to lists ds targets) c.as_slice-2.ensures in
    placed_so completed lists c.args.module_path.now c.args.recipe.now targets c.in_ok-made.made c.in_ok-links.links c.in_ok-placed.field-0 c.in_ok-made.ensures.made links c.in_ok-placed.ensures

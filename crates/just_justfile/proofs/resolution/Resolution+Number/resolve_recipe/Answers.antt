use Rattle.just_justfile.proofs.Resolving.{recipe_absent}
use Rattle.just_justfile.proofs.resolution.Resolution+Number.resolve_recipe.Goals as goal

pub returns-in_ok-alone-in-Absent : goal.returns-in_ok-alone-in-Absent
returns-in_ok-alone-in-Absent c =
    recipe_absent c.args.absent_modules.now c.args.disabled_recipes.now c.args.modules.now c.args.recipes.now c.args.path.now c.split_last.result.1.now c.in-Absent.count c.in_ok-walked-in-Absent.walked c.in_ok-alone-in-Absent.field-0
    c.split_last.ensures.front c.in-Absent.ensures.1 c.in_ok-walked-in-Absent.ensures c.in_ok-alone-in-Absent.ensures

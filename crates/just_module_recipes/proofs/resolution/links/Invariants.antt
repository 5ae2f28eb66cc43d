use Rattle.std.proofs.Common.{◌≡◌, take}
use Rattle.just_module_contents.specs.Definitions.{recipes_in}
use Rattle.just_module_recipes.specs.loops.Making.{links_of}
use Rattle.just_module_recipes.proofs.resolution.links.Given as goal

abbrev pub invariant-loop-at : goal.invariant-loop-at
invariant-loop-at l = l.made.items ≡ links_of l.settings.lists (recipes_in l.kept) l.recipes (take l.at l.dependencies) (take l.at l.row)

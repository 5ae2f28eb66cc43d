-- What is kept of the recipes of a module.
use Rattle.just_errors.specs.Causes.{Keeps}
use Rattle.just_parts.specs.Layers.{Layers}
use Rattle.just_module_contents.specs.Constants.{Evaluated}
use Rattle.just_module_contents.specs.Contents.{Contents}
use Rattle.just_module_contents.specs.Groups.{Links, OfAliases, OfDependencies, OfRecipes}
use Rattle.just_module_contents.specs.Rules.{BreaksBodies}
use Rattle.just_module_recipes.specs.loops.Broken.{BreaksRecipes, in_aliases, in_bodies, in_dependencies, in_recipes}

pub recipes_kept : (layers : Layers) (it : Evaluated) (links : Links) (m : Contents)
    → Keeps (BreaksBodies layers.syntax it.settings m) → Keeps (links layers it OfDependencies) → Keeps (links layers it OfRecipes) → Keeps (links layers it OfAliases) → Keeps (BreaksRecipes layers it links links m)
recipes_kept layers it links m bodies dependencies recipes aliases c (in_bodies b) = bodies c b
recipes_kept layers it links m bodies dependencies recipes aliases c (in_dependencies kept b) = dependencies c b
recipes_kept layers it links m bodies dependencies recipes aliases c (in_recipes kept also b) = recipes c b
recipes_kept layers it links m bodies dependencies recipes aliases c (in_aliases kept also after b) = aliases c b

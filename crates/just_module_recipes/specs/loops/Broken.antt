-- What is broken of the recipes of a module.
use Rattle.just_errors.specs.Causes.{Cause, Keeps}
use Rattle.just_parts.specs.Layers.{Layers}
use Rattle.just_module_contents.specs.Constants.{Evaluated}
use Rattle.just_module_contents.specs.Contents.{Contents}
use Rattle.just_module_contents.specs.Groups.{Links, OfAliases, OfDependencies, OfRecipes}
use Rattle.just_module_contents.specs.Rules.{BreaksBodies}

-- What is broken of the recipes of a module as it is evaluated: in their bodies, or where these are kept in their dependencies, then in those that stand, and then in the aliases and in which recipe is the default. Of each an error may tell more than what is broken.
pub data BreaksRecipes (layers : Layers) (it : Evaluated) (links told : Links) (m : Contents) : Cause → Type 0 where
  in_bodies : {c : Cause} → BreaksBodies layers.syntax it.settings m c → BreaksRecipes layers it links told m c
  in_dependencies : {c : Cause} → Keeps (BreaksBodies layers.syntax it.settings m) → told layers it OfDependencies c → BreaksRecipes layers it links told m c
  in_recipes : {c : Cause} → Keeps (BreaksBodies layers.syntax it.settings m) → Keeps (links layers it OfDependencies) → told layers it OfRecipes c → BreaksRecipes layers it links told m c
  in_aliases : {c : Cause} → Keeps (BreaksBodies layers.syntax it.settings m) → Keeps (links layers it OfDependencies) → Keeps (links layers it OfRecipes) → told layers it OfAliases c → BreaksRecipes layers it links told m c

-- What private functions say beside `Links.antt`.
use Rattle.std.specs.Prelude.{◌⊎◌, List}
use Rattle.just_justfile.specs.declared.justfile.Justfile.{Justfile, out-Justfile}
use Rattle.just_module_contents.specs.Contents.{Contents}
use Rattle.just_module_contents.specs.Groups.{Links, OfAliases, OfDependencies, OfRecipes}
use Rattle.just_module_contents.specs.Kept.{kept_recipes}
use Rattle.just_recipe.specs.declared.dependency.Dependency.{Dependency}
use Rattle.just_recipe.specs.declared.recipe.Recipe.{Recipe}
use Rattle.just_module_recipes.specs.Links.{Around, BreaksAliases, BreaksLinks, BreaksStanding, IsPastLimitsBy, around_recipes}

-- what is around the recipes of a compiled module
abbrev pub around_of : Justfile → List (Recipe Dependency) → Around
around_of j held = around_recipes (out-Justfile j).absent_modules (out-Justfile j).modules held

-- what is broken of the last groups
abbrev pub links_by : Contents → Around → Links
links_by m it layers evaluated OfDependencies = BreaksLinks evaluated.settings.lists (kept_recipes m.recipes) it
links_by m it layers evaluated OfRecipes = BreaksStanding layers evaluated m it
links_by m it layers evaluated OfAliases = BreaksAliases (kept_recipes m.recipes) m.aliases it
links_by m it layers evaluated _ = λ c. ⊥

-- what an error may tell of them: what is broken, or a pattern that is past those limits
abbrev pub told_by : Contents → Around → Links
told_by m it layers evaluated OfRecipes = λ c. BreaksStanding layers evaluated m it c ⊎ IsPastLimitsBy layers evaluated m it c
told_by m it layers evaluated g = links_by m it layers evaluated g

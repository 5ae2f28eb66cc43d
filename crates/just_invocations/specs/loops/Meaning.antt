-- What private functions say beside `Meaning.antt`.
use Rattle.just_recipe.specs.declared.recipe.Recipe.{Recipe}
use Rattle.just_invocations.specs.declared.lookup.Found.{Found}
use Rattle.just_invocations.specs.declared.lookup.Found.TheVariants as found
use Rattle.just_invocations.specs.Meaning.{Meaning, a_module, a_recipe, absent_module, disabled_alias, disabled_recipe, nothing, path_texts}

-- what a look-up has found
abbrev pub meaning_of : Found → Meaning
meaning_of (found.Module m) = a_module m.now
meaning_of (found.Recipe r) = a_recipe r.now
meaning_of (found.DisabledRecipe modules) = disabled_recipe (path_texts modules.now)
meaning_of (found.DisabledAlias modules) = disabled_alias (path_texts modules.now)
meaning_of found.AbsentModule = absent_module
meaning_of found.Nothing = nothing

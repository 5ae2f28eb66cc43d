-- What is asked for the numbers of what recipes need.
use Rattle.just_recipe_needs.specs.Known.{IsRight}
use Rattle.just_recipe_needs.specs.declared.references.RecipeReferences.{RecipeReferences}

-- what it knows already is right
abbrev pub KnowsRight : RecipeReferences → Type 0
KnowsRight r = IsRight r.sources r.known

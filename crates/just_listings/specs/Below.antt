-- What listings show of a module and of the public modules below it.
use Rattle.std.specs.Prelude.{◌≡◌, Bool, List, [], ◌∷◌, flat_map}
use Rattle.just_ast_definitions.specs.declared.alias.Alias.{Alias}
use Rattle.just_names.specs.declared.number.Number.{Number}
use Rattle.just_paths.specs.declared.modulepath.Modulepath.{Modulepath}
use Rattle.just_justfile.specs.Closed.{HeldRecipes}
use Rattle.just_justfile.specs.declared.justfile.Justfile.{Justfile}
use Rattle.just_listings.specs.Joined.{AreHadInTurn}
use Rattle.just_listings.specs.Preorder.{AreInPreorder, choice_of}
use Rattle.just_listings.specs.Public.{ArePublicRecipes, aliases_shown}

-- The public recipes of a module and of those below it that are reached through public ones, a module before those in it.
pub record ArePublicRecipesBelow (unsorted : Bool) (recipes : HeldRecipes) (root : Justfile) (found : HeldRecipes) : Type 0 where
  pub modules : List Justfile
  pub walked : AreInPreorder (choice_of unsorted) (root ∷ []) modules
  pub joined : AreHadInTurn (ArePublicRecipes unsorted recipes) modules found

-- The public aliases of recipes of these modules, each with the path of its module, in the same order.
pub record ArePublicAliasesBelow (unsorted : Bool) (root : Justfile) (found : List (Alias Number × Modulepath)) : Type 0 where
  pub modules : List Justfile
  pub walked : AreInPreorder (choice_of unsorted) (root ∷ []) modules
  pub joined : found ≡ flat_map aliases_shown modules

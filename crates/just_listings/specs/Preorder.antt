-- Modules in preorder: each before those in it.
use Rattle.std.specs.Prelude.{◌≡◌, Bool, true, false, List, [], ◌∷◌, ◌++◌}
use Rattle.just_justfile.specs.declared.justfile.Justfile.{Justfile, out-Justfile}
use Rattle.just_listings.specs.Public.{ArePublicModules}
use Rattle.just_listings.specs.declared.walk.Choice.{Choice}
use Rattle.just_listings.specs.declared.walk.Choice.TheVariants as choice

-- the modules of a module that are chosen, in order
abbrev pub AreChosen : Choice → Justfile → List Justfile → Type 0
AreChosen choice.All j modules = modules ≡ (out-Justfile j).modules
AreChosen choice.Public j modules = ArePublicModules false j modules
AreChosen choice.PublicUnsorted j modules = ArePublicModules true j modules

-- the choice of the public modules
abbrev pub choice_of : Bool → Choice
choice_of true = choice.PublicUnsorted
choice_of false = choice.Public

-- Modules, one after another: each, and after it the chosen ones of its modules, each followed by its own.
pub data AreInPreorder (which : Choice) : List Justfile → List Justfile → Type 0 where
  none : AreInPreorder which [] []
  next : {j : Justfile} {js inner below rest : List Justfile} → AreChosen which j inner → AreInPreorder which inner below → AreInPreorder which js rest → AreInPreorder which (j ∷ js) (j ∷ (below ++ rest))

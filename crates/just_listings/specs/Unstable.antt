-- The features of modules that are not stable, and which of them is refused.
use Rattle.std.specs.Prelude.{◌≡◌, ◌||◌, Bool, List, [], ◌∷◌, ◌++◌, Option, None, Some, if◌then◌else◌}
use Rattle.std.specs.List.{All}
use Rattle.std.specs.Map.{values_of}
use Rattle.just_errors.specs.declared.error.Error.{Error}
use Rattle.just_errors.specs.declared.error.Error.TheVariants.{Memory, Run}
use Rattle.just_errors.specs.declared.run_error.RunError.TheVariants.{UnstableFeature}
use Rattle.just_names.specs.Texts.{Text}
use Rattle.just_justfile.specs.declared.justfile.Justfile.{Justfile, out-Justfile}
use Rattle.just_listings.specs.Preorder.{AreInPreorder}
use Rattle.just_listings.specs.declared.walk.Choice.TheVariants as choice

-- the first of some texts
abbrev pub first_text : List Text → Option Text
first_text [] = None
first_text (x ∷ xs) = Some x

-- the least feature of a module that is not stable
abbrev pub least_feature : Justfile → Option Text
least_feature j = first_text (values_of (out-Justfile j).unstable_features)

-- the feature of a module that is refused: its least, unless all are allowed, or the module allows them
abbrev pub refused : Bool → Justfile → Option Text
refused allowed j = if allowed || (out-Justfile j).settings.unstable then None else least_feature j

-- Nothing is refused of the module and of those below it.
pub record AreAllAllowed (allowed : Bool) (root : Justfile) : Type 0 where
  pub modules : List Justfile
  pub walked : AreInPreorder choice.All (root ∷ []) modules
  pub none : All (λ j. refused allowed j ≡ None) modules

-- Why the module is refused: want of memory, or the feature of the first of the module and of those below it of which one is refused.
pub data IsUnstableRefusal (allowed : Bool) (root : Justfile) : Error → Type 0 where
  no_memory : IsUnstableRefusal allowed root Memory
  unstable : (before after : List Justfile) (j : Justfile) (feature : Text) → AreInPreorder choice.All (root ∷ []) (before ++ j ∷ after) → All (λ k. refused allowed k ≡ None) before → refused allowed j ≡ Some feature →
      IsUnstableRefusal allowed root (Run (UnstableFeature feature))

-- What items lead to.
use Rattle.std.proofs.Common.{◌≡◌, ℕ, ◌<◌, Bool, List, [], ◌∷◌, length, map, ◌⊎◌, inl, inr, Result, Ok, Err, IfErr, refl, arith}
use Rattle.just_names.specs.declared.name.Name.{Name}
use Rattle.just_errors.specs.declared.load_error.LoadError.TheVariants as load
use Rattle.just_errors.specs.declared.error.Error.{Error}
use Rattle.just_errors.specs.declared.error.Error.TheVariants as error
use Rattle.just_loader.specs.ModuleFile.{relative}
use Rattle.just_loader.specs.Links.{AtFault, choice}
use Rattle.just_errors.specs.Causes.{Reports, SeveralFiles}

several : (folder : List ℕ) (name : Name) (optional : Bool) (found : List (List ℕ)) → 1 < length found → choice folder name optional found ≡ AtFault (SeveralFiles name (map (relative folder) found))
several folder name optional [] h = absurd (omega arith)
several folder name optional (p ∷ []) h = absurd (omega arith)
several folder name optional (p ∷ q ∷ more) h = refl

-- several files of a module are its fault
pub several_named : {A : Type 0} (folder : List ℕ) (name : Name) (optional : Bool) (found : List (List ℕ)) (r : Result A Error)
    → IfErr r (λ e. (e ≡ error.Memory) ⊎ ((1 < length found) × (e ≡ error.Load (load.AmbiguousModuleFile name (map (relative folder) found))))) → IfErr r (Reports (λ c. choice folder name optional found ≡ AtFault c))
several_named folder name optional found (Ok a) h = tt
several_named folder name optional found (Err e) (inl m) = rw m tt
several_named folder name optional found (Err e) (inr s) = rw s.1 (several folder name optional found s.0)

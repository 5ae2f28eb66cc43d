-- A group's errors as those of a larger group.
use Rattle.std.proofs.Common.{Result, Ok, Err, IfErr}
use Rattle.just_errors.specs.declared.load_error.LoadError.TheVariants as load
use Rattle.just_errors.specs.declared.error.Error.{Error}
use Rattle.just_errors.specs.declared.error.Error.TheVariants as error
use Rattle.just_errors.specs.Causes.{Cause, NoFile, NoHome, NoImport, NoModule, SeveralFiles, LeadsBack, NoVariables, Broken, NoNumber, Reports}

pub reports_by : (G H : Cause → Type 0) → ((c : Cause) → G c → H c) → (e : Error) → Reports G e → Reports H e
reports_by G H f (error.Load (load.Load path)) g = f (NoFile path) g
reports_by G H f (error.Load load.Homedir) g = f NoHome g
reports_by G H f (error.Load (load.MissingImportFile path)) g = f (NoImport path) g
reports_by G H f (error.Load (load.MissingModuleFile name)) g = f (NoModule name) g
reports_by G H f (error.Load (load.AmbiguousModuleFile name found)) g = f (SeveralFiles name found) g
reports_by G H f (error.Load (load.CircularImport current next)) g = f (LeadsBack current next) g
reports_by G H f (error.Load (load.UnknownOverrides overrides)) g = f (NoVariables overrides) g
reports_by G H f (error.Compile e) g = f (Broken e.token e.kind) g
reports_by G H f (error.Invocation e) g = g
reports_by G H f (error.Run e) g = g
reports_by G H f error.Exhausted g = f NoNumber g
reports_by G H f error.Memory g = tt

pub lifted : {A : Type 0} (G H : Cause → Type 0) → ((c : Cause) → G c → H c) → (r : Result A Error) → IfErr r (Reports G) → IfErr r (Reports H)
lifted G H f (Ok a) h = tt
lifted G H f (Err e) h = reports_by G H f e h

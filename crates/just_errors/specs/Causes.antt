-- What reports a broken rule, and groups of rules.
use Rattle.std.specs.Prelude.{ℕ, List}
use Rattle.just_names.specs.Token.{Place}
use Rattle.just_names.specs.declared.name.Name.{Name}
use Rattle.just_errors.specs.declared.load_error.LoadError.TheVariants as load
use Rattle.just_errors.specs.declared.compile_error.CompileErrorKind.{CompileErrorKind}
use Rattle.just_errors.specs.declared.error.Error.{Error}
use Rattle.just_errors.specs.declared.error.Error.TheVariants as error

-- What reports a broken rule: an error; of a rule of compilation, where it is told, and its kind. That there are not as many numbers as wanted counts as one.
pub data Cause : Type 0 where
  NoFile : List ℕ → Cause
  NoHome : Cause
  NoImport : Place → Cause
  NoModule : Name → Cause
  SeveralFiles : Name → List (List ℕ) → Cause
  LeadsBack : List ℕ → List ℕ → Cause
  NoVariables : List (List ℕ) → Cause
  Broken : Place → CompileErrorKind → Cause
  NoNumber : Cause

-- a group of rules is kept where no cause is named
abbrev pub Keeps : (Cause → Type 0) → Type 0
Keeps group = (c : Cause) → group c → ⊥

-- what an error names is in the group; want of memory aside
abbrev pub Reports : (Cause → Type 0) → Error → Type 0
Reports group (error.Load (load.Load path)) = group (NoFile path)
Reports group (error.Load load.Homedir) = group NoHome
Reports group (error.Load (load.MissingImportFile path)) = group (NoImport path)
Reports group (error.Load (load.MissingModuleFile name)) = group (NoModule name)
Reports group (error.Load (load.AmbiguousModuleFile name found)) = group (SeveralFiles name found)
Reports group (error.Load (load.CircularImport current next)) = group (LeadsBack current next)
Reports group (error.Load (load.UnknownOverrides overrides)) = group (NoVariables overrides)
Reports group (error.Compile e) = group (Broken e.token e.kind)
Reports group (error.Invocation e) = ⊥
Reports group (error.Run e) = ⊥
Reports group error.Exhausted = group NoNumber
Reports group error.Memory = Unit {0}

-- What the program does with its input.
use Rattle.std.specs.Prelude.{◌≡◌, ℕ, List, [], ◌∷◌, Option, None, Result, Ok, Err, IfSome, IsOk}
use Rattle.std.specs.Borrow.{Bor}
use Rattle.std.specs.Io.KnownBytes.{Appends}
use Rattle.just_names.specs.Texts.{Text}
use Rattle.just_paths.specs.Clean.{IsClean}
use Rattle.just_errors.specs.declared.error.Error.{Error}
use Rattle.just_parts.specs.declared.layers.config.Config.{Config}
use Rattle.just_parts.specs.Layers.{IsByDefault}
use Rattle.just_loader.specs.Reached.{World, world_of}
use Rattle.just_loader.specs.Sources.{Files, text_at}
use Rattle.just_compiler.specs.Compiled.{Compilation, Compiles}
use Rattle.just_bench_syntax.specs.Answers.{answers}
use Rattle.just_bench_values.specs.Constants.{evaluator}
use Rattle.just_bench_bundle.specs.Bundle.{HoldsBundle, IsNoBundle}
use Rattle.just_bench_bundle.specs.Input.{IsUnread}
use Rattle.just_bench_bundle.specs.Near.{paths_like}
use Rattle.just_bench_bundle.specs.Places.{IsLineOf}
use Rattle.just_bench.specs.Entries.{entry_lines}
use Rattle.just_bench.specs.Ran.{IsRunFault, Ran, plain_setup}
use Rattle.just_bench.specs.Writing.{GetsBeginning}
use Rattle.just_bench.specs.declared.program_error.ProgramError.{ProgramError}
use Rattle.just_bench.specs.declared.program_error.ProgramError.TheVariants as program

-- the plain layers compile the file at a root to this, or name this
abbrev pub Comes : Files → Config → Text → Result Compilation Error → Type 0
Comes files config root result = Compiles evaluator config.overrides (world_of files config (answers []) root) result

-- Words are run over the file at a root, with nothing that the caller asks for: it is compiled, and this is the run.
pub record RunsOver (files : Files) (root : Text) (words : List Text) : Type 0 where
  pub config : Config
  pub plain : IsByDefault config
  pub compilation : Compilation
  pub compiled : Comes files config root (Ok compilation)
  pub ran : Ran compilation.justfile compilation.recipes config (plain_setup config compilation.overrides) words

-- they ran, and what is written is a line for each recipe that began
pub record IsDoneOver (files : Files) (root : Text) (words : List Text) (old new : Option (List ℕ)) : Type 0 where
  pub run : RunsOver files root words
  pub succeeded : IsOk run.ran.result
  pub written : Appends old new (entry_lines run.ran.entries)

-- what is told of an error of compiling: the error, and it may be a line on which stands what it tells of
abbrev pub TellsUncompiled : World → Error → ProgramError → Type 0
TellsUncompiled w e (program.Analyzer told line) = (told ≡ e) × IfSome line (IsLineOf w e)
TellsUncompiled w e _ = ⊥

-- Why they are not done, and what an output then has: there is no file at the root, and these are like it, or it is not compiled, or
-- memory is wanting, and nothing is written; or the run tells it, and a beginning of its lines is.
pub data IsFaultOver (files : Files) (root : Text) (words : List Text) (old new : Option (List ℕ)) : ProgramError → Type 0 where
  missing : (told : Bor Text) → told.now ≡ root → text_at files root ≡ None → new ≡ old → IsFaultOver files root words old new (program.NoRoot told (paths_like files root))
  uncompiled : (config : Config) (e : Error) (told : ProgramError) → IsByDefault config → Comes files config root (Err e) → TellsUncompiled (world_of files config (answers []) root) e told → new ≡ old → IsFaultOver files root words old new told
  ended : (run : RunsOver files root words) (e : ProgramError) → IsRunFault run.ran.result e → GetsBeginning old new (entry_lines run.ran.entries) → IsFaultOver files root words old new e
  refused : new ≡ old → IsFaultOver files root words old new program.Memory

-- the text is a bundle of files, and the words ran over these
pub record IsRunDone (text root : Text) (words : List Text) (old new : Option (List ℕ)) : Type 0 where
  pub files : Files
  pub bundle : HoldsBundle text files
  pub done : IsDoneOver files root words old new

-- why not: the text is no bundle, or they fail over its files
pub data IsProgramFault (text root : Text) (words : List Text) (old new : Option (List ℕ)) : ProgramError → Type 0 where
  unbundled : (e : _) → IsNoBundle text e → new ≡ old → IsProgramFault text root words old new (program.Bundle e)
  over : (files : Files) (e : ProgramError) → HoldsBundle text files → IsFaultOver files root words old new e → IsProgramFault text root words old new e

-- What success means: the first argument is a clean path, and the others were run over the bundle that was left to read, where that is known.
abbrev pub HasRun : List Text → Option (List ℕ) → Option (List ℕ) → Option (List ℕ) → Type 0
HasRun [] left old new = ⊥
HasRun (root ∷ words) left old new = IsClean root × IfSome left (λ text. IsRunDone text root words old new)

-- why the program fails, where this was left to read, if that is known: the root is no clean path; what is read is no text; or the words fail over it
pub data IsFailure (root : Text) (words : List Text) (left old new : Option (List ℕ)) : ProgramError → Type 0 where
  unclean : (told : Bor Text) → told.now ≡ root → (IsClean root → ⊥) → new ≡ old → IsFailure root words left old new (program.NotClean told)
  unread : (e : _) → IsUnread left e → new ≡ old → IsFailure root words left old new (program.Input e)
  failing : (e : ProgramError) → IsClean root → IfSome left (λ text. IsProgramFault text root words old new e) → IsFailure root words left old new e

-- what failure means: the first argument is the root, and the others the words, that fail for a reason
abbrev pub HasNotRun : List Text → Option (List ℕ) → Option (List ℕ) → Option (List ℕ) → Type 0
HasNotRun [] left old new = ⊥
HasNotRun (root ∷ words) left old new = (e : ProgramError) × IsFailure root words left old new e

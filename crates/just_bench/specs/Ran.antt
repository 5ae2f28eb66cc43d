-- A run of words by the bench, and what it comes to.
use Rattle.std.proofs.Common.{BuildHasherDefault, FoldHasher}
use Rattle.std.specs.Prelude.{◌≡◌, ◌⊎◌, ℕ, false, List, [], Option, None, Some, Result, Err, IsOk}
use Rattle.std.specs.HashMap.{HashMap}
use Rattle.just_errors.specs.declared.error.Error.{Error}
use Rattle.just_errors.specs.declared.error.Error.TheVariants.{Memory}
use Rattle.just_execution.specs.declared.run.Report.{Report}
use Rattle.just_justfile.specs.declared.justfile.Justfile.{Justfile}
use Rattle.just_names.specs.Texts.{Text}
use Rattle.just_names.specs.declared.number.Number.{Number}
use Rattle.just_parts.specs.Evaluator.{count_fault_of}
use Rattle.just_parts.specs.declared.layers.config.Config.{Config}
use Rattle.just_parts.specs.declared.layers.config.EvaluateFormat.{EvaluateFormat}
use Rattle.just_paths.specs.declared.modulepath.Modulepath.{Modulepath}
use Rattle.just_recipe.specs.declared.dependency.Dependency.{Dependency}
use Rattle.just_recipe.specs.declared.recipe.Recipe.{Recipe}
use Rattle.just_run_layers.specs.declared.host.Entry.{Entry}
use Rattle.just_run_layers.specs.Evaluation.{ScopeRequest}
use Rattle.just_run_layers.specs.Interactions.{log_of}
use Rattle.just_invoke.specs.Command.{IsProgramRun, ProgramAsked}
use Rattle.just_invoke.specs.Evaluation.{IsEvaluation, RunsRecipes, Writer, writer_of}
use Rattle.just_invoke.specs.Outcome.{IsOutcome}
use Rattle.just_scopes.specs.Opening.{Handed, Setup, setup_of}
use Rattle.just_invocations.specs.Split.{Counts}
use Rattle.just_bench_evaluation.specs.Answered.{plain_answer}
use Rattle.just_bench_evaluation.specs.Lines.{displayed}
use Rattle.just_bench_syntax.specs.Answers.{answers}
use Rattle.just_bench_values.specs.Constants.{evaluator}
use Rattle.just_bench.specs.Entries.{entry_lines}
use Rattle.just_bench.specs.Recorder.{script_promises}
use Rattle.just_bench.specs.Script.{unscripted}
use Rattle.just_bench.specs.Writing.{GetsBeginning}
use Rattle.just_bench.specs.declared.script.Script.{Script}
use Rattle.just_bench.specs.declared.program_error.ProgramError.{ProgramError}
use Rattle.just_bench.specs.declared.program_error.ProgramError.TheVariants as program

-- what a run of the bench takes beside modules and words: the plain grammar, in which all settings may stand together
abbrev pub plain_setup : Config → HashMap Number Text (BuildHasherDefault FoldHasher) → Setup
plain_setup config overrides = setup_of (answers []) config overrides

-- what the plain evaluation says of counts
abbrev pub plain_counts : Counts
plain_counts = count_fault_of evaluator

-- Words are run over a root by a plain evaluation that was asked nothing, which promises its answers, and a recorder, which promises what it does
-- by its script: where the configuration asks that recipes run, the recorder kept these calls, and keeps those; the evaluation keeps these questions for variables.
abbrev pub IsPlainOutcome : Justfile → List (Recipe Dependency) → Config → Setup → List Text → Script → List Entry → List Entry → Result Report Error → Type 0
IsPlainOutcome root recipes config setup words script old new result =
    RunsRecipes config → (requests : List ScopeRequest) ×
    IsOutcome plain_counts root recipes words config setup (λ inquiry. Some (plain_answer inquiry)) (script_promises script) (log_of old []) (log_of new requests) result

-- The same where a program is asked for in place of recipes.
abbrev pub IsPlainCommand : Justfile → Handed → Script → ProgramAsked → List Entry → List Entry → Result Report Error → Type 0
IsPlainCommand root handed script program old new result =
    (requests : List ScopeRequest) × IsProgramRun root handed (λ inquiry. Some (plain_answer inquiry)) (script_promises script) program (log_of old []) (log_of new requests) result

-- The same where values are asked for, of which the text goes to a writer without room, for which there may be no memory.
abbrev pub IsPlainEvaluation : Justfile → Handed → Script → EvaluateFormat → Option Modulepath → List Entry → List Entry → Result Report Error → Type 0
IsPlainEvaluation root handed script format path old new result =
    ((result ≡ Err Memory) × (new ≡ old)) ⊎ ((requests : List ScopeRequest) × (after : Writer) ×
    IsEvaluation displayed root handed (λ inquiry. Some (plain_answer inquiry)) (script_promises script) format path (log_of old []) (log_of new requests) (writer_of [] false) after result)

-- What a recorder without a script, which was asked nothing, is asked by a run, and what the run comes to.
pub record Ran (root : Justfile) (recipes : List (Recipe Dependency)) (config : Config) (setup : Setup) (words : List Text) : Type 0 where
  pub entries : List Entry
  pub result : Result Report Error
  pub outcome : IsPlainOutcome root recipes config setup words unscripted [] entries result

-- why a run is not told to be done: its error; or it is done, and its lines could not be written, or there was no memory for them
pub data IsRunFault (result : Result Report Error) : ProgramError → Type 0 where
  failed : (e : Error) → result ≡ Err e → IsRunFault result (program.Analyzer e None)
  unwritten : IsOk result → IsRunFault result program.Write
  refused : IsOk result → IsRunFault result program.Memory

-- A run is not told to be done, for this reason, and an output got a beginning of its lines.
pub record IsUndone (root : Justfile) (recipes : List (Recipe Dependency)) (config : Config) (setup : Setup) (words : List Text) (old new : Option (List ℕ)) (e : ProgramError) : Type 0 where
  pub run : Ran root recipes config setup words
  pub told : IsRunFault run.result e
  pub begun : GetsBeginning old new (entry_lines run.entries)

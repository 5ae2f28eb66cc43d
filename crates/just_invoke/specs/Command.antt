-- What the form Command comes to: a program runs in place of recipes.
use Rattle.std.specs.Prelude.{◌≡◌, pos, Bool, true, false, if◌then◌else◌, cond, List, [], Option, Some, None, Result, Ok, Err, IfOk}
use Rattle.std.specs.Ordering.{int_eq}
use Rattle.just_ast_expressions.specs.declared.interpreter.Interpreter.{Interpreter}
use Rattle.just_errors.specs.Halts.{come_to, error_of, discard_value}
use Rattle.just_errors.specs.declared.error.Error.{Error}
use Rattle.just_errors.specs.declared.halt.Halt.{Halt}
use Rattle.just_errors.specs.declared.halt.Halt.TheVariants.{Memory}
use Rattle.just_errors.specs.declared.run_error.RunError.{RunError}
use Rattle.just_errors.specs.declared.run_error.RunError.TheVariants as run
use Rattle.just_errors.specs.declared.signal.Signal.{Signal}
use Rattle.just_errors.specs.declared.status.Status.{Status}
use Rattle.just_errors.specs.declared.status.Status.TheVariants as status
use Rattle.just_execution.specs.declared.run.Report.{Report}
use Rattle.just_justfile.specs.declared.justfile.Justfile.{Justfile, out-Justfile}
use Rattle.just_names.specs.Texts.{Text}
use Rattle.just_parts.specs.declared.layers.config.Config.{Config}
use Rattle.just_parts.specs.declared.layers.config.Subcommand.TheVariants as subcommand
use Rattle.just_recipe_body.specs.Body.{changes_or, concluded}
use Rattle.just_run_layers.specs.Evaluation.{ConfigContents, Environment, Inquiry}
use Rattle.just_run_layers.specs.Host.{Answer, Ran}
use Rattle.just_run_layers.specs.Interactions.{Ask, Fail, ArePromised, HasTrace, IsTraceOrPrefix, Log, Question, Interaction, ToEvaluator, ToHost, and_then, both, executed_in, result_under, trace_under}
use Rattle.just_run_layers.specs.declared.calls.CommandCall.{CommandCall}
use Rattle.just_run_layers.specs.declared.environment.EnvironmentChange.{EnvironmentChange}
use Rattle.just_run_layers.specs.declared.host.Entry.{Entry}
use Rattle.just_run_layers.specs.declared.host.Entry.TheVariants as entry
use Rattle.just_run_layers.specs.declared.run_answer.RunAnswer.{RunAnswer}
use Rattle.just_scopes.specs.Need.{AreNeedsFrom, NumberSets}
use Rattle.just_scopes.specs.Open.{OpensLazily}
use Rattle.just_scopes.specs.Opening.{Handed, Inherited, Opened, all_opened, working_folder_of, hands, opened_at}
use Rattle.just_scopes.specs.Preorder.{IsPreorderUnder, Placed}
use Rattle.just_invoke.specs.Lazily.{HasOpenedLazily, no_numbers}

-- a program and its arguments
pub record ProgramAsked : Type 0 where
  pub binary : Text
  pub arguments : List Text

-- it is to run
abbrev pub AsksForProgram : Config → ProgramAsked → Type 0
AsksForProgram config program = config.subcommand ≡ subcommand.Command program.binary program.arguments

-- the shell that runs it, where the configuration asks for one: that of the settings of the root
abbrev pub shell_for : ConfigContents → Justfile → Option (Interpreter Text)
shell_for config root = cond config.shell_command (out-Justfile root).settings.shell None

-- what the host is asked: the program as it is configured, in the folder of the root, with these changes of its environment
abbrev pub command_call : ConfigContents → Justfile → ProgramAsked → List EnvironmentChange → CommandCall
command_call config root program changes = record {
  binary = program.binary;
  arguments = program.arguments;
  shell = shell_for config root;
  working_directory = Some (working_folder_of config.working_directory root);
  environment = changes;
}

-- code 0 alone is success
abbrev pub is_success : Status → Bool
is_success (status.Code code) = int_eq code (pos 0)
is_success _ = false

-- the error for an end without success, whatever the run was sent meanwhile
abbrev pub failure : CommandCall → Status → RunError
failure call (status.NotStarted reason) = run.CommandInvoke call.binary call.arguments reason
failure call ended = run.CommandStatus call.binary call.arguments ended

-- what a signal comes to that the run was sent while the program succeeded
abbrev pub after_success : Option Signal → Result (Unit {0}) RunError
after_success None = Ok tt
after_success (Some signal) = Err (run.Interrupted signal)

-- what the end of a program comes to, and so its answer; an answer of another kind does not come up
abbrev pub judged_program : CommandCall → RunAnswer → Result (Unit {0}) RunError
judged_program call answer = if is_success answer.status then after_success answer.signal else Err (failure call answer.status)

abbrev pub program_ended : CommandCall → Answer → Interaction (Unit {0})
program_ended call (Ran answer) = concluded (judged_program call answer)
program_ended call _ = Fail Memory

abbrev pub program_call_steps : CommandCall → Interaction (Unit {0})
program_call_steps call = Ask (ToHost (entry.Command call)) (program_ended call)

-- what a program has in its environment, by what the root has
abbrev pub root_environment_steps : Justfile → Inherited → Interaction (List EnvironmentChange)
root_environment_steps root has = Ask (ToEvaluator (Environment has.dotenv has.scope (out-Justfile root).settings (out-Justfile root).unexports)) changes_or

-- The program runs where modules are open: the environment is asked for, by what the root has, and then the host is called.
abbrev pub program_steps : ConfigContents → Justfile → ProgramAsked → List Opened → Interaction (Unit {0})
program_steps config root program opened =
    and_then (root_environment_steps root (hands (opened_at (out-Justfile root).module_path opened))) (λ changes. program_call_steps (command_call config root program changes))

-- For every host: the modules do not open, which is told; or they were opened lazily, from no numbers, and then the steps of the program were taken, and want of memory is told only where the host was not called. Nothing is executed, and the report is that of no once table.
pub data IsProgramRun (root : Justfile) (handed : Handed) (evaluator : Inquiry → Option Answer) (host : Entry → Option Answer) (program : ProgramAsked) (old new : Log) (result : Result Report Error) : Type 0 where
  shut : (e : Halt) → result ≡ Err (error_of e) → OpensLazily evaluator host handed root no_numbers old new (Err e) → executed_in new ≡ executed_in old →
      IsProgramRun root handed evaluator host program old new result
  ran : (opened : List Opened) (mid : Log) (ended : Result Report Halt) → result ≡ come_to ended → IfOk ended (λ report. report.calls.items ≡ []) → (discard_value ended ≡ Err Memory → new.entries ≡ mid.entries) →
      HasOpenedLazily evaluator host handed root no_numbers old mid opened → HasTrace (both evaluator host) (program_steps handed.config root program opened) mid new (discard_value ended) → executed_in new ≡ executed_in old →
      IsProgramRun root handed evaluator host program old new result

-- the steps of the form: by sets of what is needed the modules are opened in order, and then the program runs
abbrev pub whole_program_steps : NumberSets → Handed → Justfile → List Placed → ProgramAsked → Interaction (Unit {0})
whole_program_steps sets handed root ps program = and_then (all_opened sets handed ps) (program_steps handed.config root program)

-- For promised answers: where answers f are promised to all that the form asks, exactly that is logged, and the result is as they say; or a beginning of it was, and the result is a refusal, of memory or of a count.
abbrev pub IsProgramRunAsExpected : Justfile → Handed → (Inquiry → Option Answer) → (Entry → Option Answer) → ProgramAsked → Log → Log → Result Report Error → Type 0
IsProgramRunAsExpected root handed evaluator host program old new result =
    (sets : NumberSets) → AreNeedsFrom no_numbers root sets → (ps : List Placed) → IsPreorderUnder true root ps → (f : Question → Answer) →
    ArePromised (both evaluator host) f (trace_under f (whole_program_steps sets handed root ps program)) →
    (ended : Result Report Halt) × (result ≡ come_to ended) ×
    IsTraceOrPrefix (trace_under f (whole_program_steps sets handed root ps program)) (result_under f (whole_program_steps sets handed root ps program)) old new (discard_value ended)

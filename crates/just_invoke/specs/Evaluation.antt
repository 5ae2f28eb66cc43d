-- What the form Evaluate comes to: values are written, and no recipe runs.
use Rattle.std.specs.Prelude.{◌≡◌, ◌++◌, ℕ, Bool, true, false, IsTrue, List, [], Option, Result, Ok, Err}
use Rattle.std.specs.List.{list_any}
use Rattle.just_ast_definitions.specs.declared.assignment.Assignment.{Assignment}
use Rattle.just_errors.specs.Halts.{error_of}
use Rattle.just_errors.specs.declared.error.Error.{Error}
use Rattle.just_errors.specs.declared.error.Error.TheVariants as error
use Rattle.just_errors.specs.declared.halt.Halt.{Halt}
use Rattle.just_errors.specs.declared.run_error.RunError.TheVariants.{Write}
use Rattle.just_execution.specs.declared.run.Report.{Report}
use Rattle.just_justfile.specs.declared.justfile.Justfile.{Justfile, out-Justfile}
use Rattle.just_names.specs.Texts.{Text}
use Rattle.just_names.specs.declared.number.Number.{Number}
use Rattle.just_parts.specs.Needs.{same_number}
use Rattle.just_parts.specs.declared.layers.config.Config.{Config}
use Rattle.just_parts.specs.declared.layers.config.EvaluateFormat.{EvaluateFormat}
use Rattle.just_parts.specs.declared.layers.config.Subcommand.{Subcommand}
use Rattle.just_parts.specs.declared.layers.config.Subcommand.TheVariants as subcommand
use Rattle.just_paths.specs.declared.modulepath.Modulepath.{Modulepath}
use Rattle.just_run_layers.specs.Evaluation.{Inquiry}
use Rattle.just_run_layers.specs.Host.{Answer}
use Rattle.just_run_layers.specs.Interactions.{Return, ArePromised, IsTraceOrPrefix, Log, Question, Interaction, and_then, both, executed_in, result_under, trace_under}
use Rattle.just_run_layers.specs.declared.host.Entry.{Entry}
use Rattle.just_scopes.specs.Need.{AreNeedsFrom, NumberSets}
use Rattle.just_scopes.specs.Open.{OpensLazily}
use Rattle.just_scopes.specs.Opening.{Handed, Opened, all_opened, scope_at}
use Rattle.just_scopes.specs.Preorder.{IsPreorderUnder, Placed}
use Rattle.just_evaluate.specs.Asked.{variables_asked}
use Rattle.just_evaluate.specs.Destination.{TellsLack, destination, leads_to}
use Rattle.just_evaluate.specs.Lines.{evaluated_text}
use Rattle.just_evaluate.specs.Writing.{IsCutShort}
use Rattle.just_invoke.specs.Lazily.{HasOpenedLazily}

-- recipes run where neither a program is to run nor values are to be written
abbrev pub runs_recipes : Subcommand → Bool
runs_recipes subcommand.Run = true
runs_recipes (subcommand.Command binary arguments) = false
runs_recipes (subcommand.Evaluate format path) = false

abbrev pub RunsRecipes : Config → Type 0
RunsRecipes config = runs_recipes config.subcommand ≡ true

-- nothing is written where no values are to be
abbrev pub writes_nothing : Subcommand → Bool
writes_nothing subcommand.Run = true
writes_nothing (subcommand.Command binary arguments) = true
writes_nothing (subcommand.Evaluate format path) = false

abbrev pub WritesNothing : Config → Type 0
WritesNothing config = writes_nothing config.subcommand ≡ true

-- values are to be written: in a format, those to which a path leads
abbrev pub AsksForValues : Config → EvaluateFormat → Option Modulepath → Type 0
AsksForValues config format path = config.subcommand ≡ subcommand.Evaluate format path

-- What is to be written: the values of a module's variables, of one or of all that are not private, in a format.
pub record ValuesAsked : Type 0 where
  pub format : EvaluateFormat
  pub justfile : Justfile
  pub variable : Option Assignment

-- a path from the root leads to them, where this format is asked for
abbrev pub LeadsToValues : Justfile → EvaluateFormat → Option Modulepath → ValuesAsked → Type 0
LeadsToValues root format path values = (destination root path ≡ leads_to values.justfile values.variable) × (values.format ≡ format)

-- the numbers of their variables
abbrev pub numbers_of : ValuesAsked → Number → Bool
numbers_of values n = list_any (λ (a : Assignment). same_number n a.number) (variables_asked values.justfile values.variable)

-- their text where modules are open, by the values of the open one of their module's path
abbrev pub text_in : (List Text → Text) → ValuesAsked → List Opened → Text
text_in displayed values opened = evaluated_text displayed values.format values.justfile values.variable (scope_at (out-Justfile values.justfile).module_path opened)

-- what a writer has, and whether it faulted
pub record Writer : Type 0 where
  pub written : List ℕ
  pub failed : Bool

abbrev pub writer_of : List ℕ → Bool → Writer
writer_of written failed = record { written = written; failed = failed }

-- A text was written whole, and the report is that of no once table; or the writer faulted, which is told, and has a beginning of it.
pub data IsTextWritten (text : Text) (before after : Writer) (result : Result Report Error) : Type 0 where
  whole : (report : Report) → result ≡ Ok report → report.calls.items ≡ [] → after.written ≡ before.written ++ text → after.failed ≡ before.failed → IsTextWritten text before after result
  cut_short : result ≡ Err (error.Run Write) → IsCutShort before.written text after.written → IsTrue after.failed → IsTextWritten text before after result

-- The path leads nowhere, and nothing is logged; or it leads to values, and the modules are opened for them: they do not open, or there is no memory for the text; or they do, and then the text is written. In all cases but the last the writer is as it was.
pub data IsEvaluation (displayed : List Text → Text) (root : Justfile) (handed : Handed) (evaluator : Inquiry → Option Answer) (host : Entry → Option Answer)
    (format : EvaluateFormat) (path : Option Modulepath) (old new : Log) (before after : Writer) (result : Result Report Error) : Type 0 where
  refused : (e : Error) → result ≡ Err e → TellsLack (destination root path) e → new ≡ old → after ≡ before →
      IsEvaluation displayed root handed evaluator host format path old new before after result
  shut : (values : ValuesAsked) (e : Halt) → LeadsToValues root format path values → result ≡ Err (error_of e) →
      OpensLazily evaluator host handed root (numbers_of values) old new (Err e) → executed_in new ≡ executed_in old → after ≡ before →
      IsEvaluation displayed root handed evaluator host format path old new before after result
  evaluated : (values : ValuesAsked) (opened : List Opened) → LeadsToValues root format path values →
      HasOpenedLazily evaluator host handed root (numbers_of values) old new opened → IsTextWritten (text_in displayed values opened) before after result →
      IsEvaluation displayed root handed evaluator host format path old new before after result

-- the steps to the text of values: by sets of what is needed the modules are opened in order, and nothing more is asked
abbrev pub text_steps : (List Text → Text) → NumberSets → Handed → List Placed → ValuesAsked → Interaction Text
text_steps displayed sets handed ps values = and_then (all_opened sets handed ps) (λ opened. Return (text_in displayed values opened))

-- what is answered where the steps came to this: the text was written, or the error tells why there is none
abbrev pub IsAnsweredFor : Result Text Halt → Writer → Writer → Result Report Error → Type 0
IsAnsweredFor (Ok text) before after result = IsTextWritten text before after result
IsAnsweredFor (Err e) before after result = (result ≡ Err (error_of e)) × (after ≡ before)

-- For promised answers: where a path leads to values, and answers f are promised to all that the opening asks, exactly that is logged, and the text to which it leads is written; or a beginning of it was logged, nothing is written, and the result is a refusal, of memory or of a count.
abbrev pub IsEvaluationAsExpected : (List Text → Text) → Justfile → Handed → (Inquiry → Option Answer) → (Entry → Option Answer) → EvaluateFormat → Option Modulepath → Log → Log → Writer → Writer → Result Report Error → Type 0
IsEvaluationAsExpected displayed root handed evaluator host format path old new before after result =
    (values : ValuesAsked) → LeadsToValues root format path values → (sets : NumberSets) → AreNeedsFrom (numbers_of values) root sets → (ps : List Placed) → IsPreorderUnder true root ps → (f : Question → Answer) →
    ArePromised (both evaluator host) f (trace_under f (text_steps displayed sets handed ps values)) →
    (ended : Result Text Halt) × IsAnsweredFor ended before after result ×
    IsTraceOrPrefix (trace_under f (text_steps displayed sets handed ps values)) (result_under f (text_steps displayed sets handed ps values)) old new ended

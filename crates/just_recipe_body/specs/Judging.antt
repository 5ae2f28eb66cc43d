-- What the end of a program comes to.
use Rattle.std.specs.Prelude.{ℕ, ℤ, pos, ◌+◌, ◌^◌, nat_lt, Bool, true, false, ◌||◌, if◌then◌else◌, List, Option, Some, None, Result, Ok, Err}
use Rattle.std.specs.List.{list_any}
use Rattle.std.specs.Ordering.{int_eq}
use Rattle.just_ast_expressions.specs.declared.sigil.Sigil.{Sigil}
use Rattle.just_ast_expressions.specs.declared.sigil.Sigil.TheVariants as sigil
use Rattle.just_errors.specs.declared.run_error.RunError.{RunError}
use Rattle.just_errors.specs.declared.run_error.RunError.TheVariants as run
use Rattle.just_errors.specs.declared.signal.Signal.{Signal}
use Rattle.just_names.specs.Texts.{Text}
use Rattle.just_run_layers.specs.declared.run_answer.RunAnswer.{RunAnswer}
use Rattle.just_errors.specs.declared.status.Status.{Status}
use Rattle.just_errors.specs.declared.status.Status.TheVariants as status
use Rattle.just_recipe_body.specs.declared.judgement.Marks.{Marks}
use Rattle.just_recipe_body.specs.declared.judgement.Next.{Next}
use Rattle.just_recipe_body.specs.declared.judgement.Next.TheVariants.{Onward, Ended}
use Rattle.just_recipe_body.specs.declared.judgement.Program.{Program}
use Rattle.just_recipe_body.specs.declared.judgement.Program.TheVariants as program
use Rattle.just_recipe_body.specs.declared.judgement.Teller.{Teller}

-- the sigils of a line
abbrev pub is_guard : Sigil → Bool
is_guard sigil.Guard = true
is_guard _ = false

abbrev pub is_infallible : Sigil → Bool
is_infallible sigil.Infallible = true
is_infallible _ = false

abbrev pub is_quiet : Sigil → Bool
is_quiet sigil.Quiet = true
is_quiet _ = false

abbrev pub marks_of : List Sigil → Marks
marks_of sigils = record { guard = list_any is_guard sigils; infallible = list_any is_infallible sigils; quiet = list_any is_quiet sigils }

-- no sigil, as a script has none
abbrev pub no_marks : Marks
no_marks = record { guard = false; infallible = false; quiet = false }

-- the number of a line, from 1 on; none where that does not fit
abbrev pub number_from_one : ℕ → Option ℕ
number_from_one number = if nat_lt (number + 1) (2 ^ 64) then Some (number + 1) else None

-- a code, of which 0 alone is success: with a guard 1 ends the recipe, and that is success too
abbrev pub judged_code : Teller → Marks → ℤ → Result Next RunError
judged_code t marks code =
    if int_eq code (pos 0) then Ok Onward
    else if marks.guard then (if int_eq code (pos 1) then Ok Ended else Err (run.GuardCode t.recipe t.line_number code))
    else if marks.infallible then Ok Onward
    else Err (run.Code t.recipe t.line_number code t.print_message)

-- an end without a code
abbrev pub signal_error : Teller → Option ℤ → RunError
signal_error t (Some number) = run.Signal t.recipe t.line_number number t.print_message
signal_error t None = run.Unknown t.recipe t.line_number t.print_message

-- no start, whatever the sigils
abbrev pub start_error : Program → Teller → Text → RunError
start_error program.Shell t message = run.ShellIo t.recipe message
start_error program.Script t message = run.ScriptStart t.recipe message

abbrev pub judged_status : Program → Teller → Marks → Status → Result Next RunError
judged_status p t marks (status.Code code) = judged_code t marks code
judged_status p t marks (status.NoCode number) = if marks.infallible then Ok Onward else Err (signal_error t number)
judged_status p t marks (status.NotStarted message) = Err (start_error p t message)

-- a signal that the run was sent meanwhile, where nothing failed and the recipe goes on
abbrev pub judged_signal : (Signal → Bool) → Marks → Option Signal → Result Next RunError → Result Next RunError
judged_signal continues marks (Some s) (Ok Onward) = if continues s || marks.infallible then Ok Onward else Err (run.Interrupted s)
judged_signal continues marks _ result = result

-- How a program ended comes to the next group of lines, to the end of the recipe with success, or to an error. The recipe goes on after some signals.
abbrev pub judged : Program → Teller → (Signal → Bool) → Marks → RunAnswer → Result Next RunError
judged p t continues marks answer = judged_signal continues marks answer.signal (judged_status p t marks answer.status)

-- A body executes no recipe, and runs out of no counter: what it asks besides are its lines, programs and shows.
use Rattle.std.proofs.Common.{Bool, true, false, List, [], ◌∷◌, ◌++◌, Option, Some, None, Result, Ok, Err, refl, cond}
use Rattle.just_ast_definitions.specs.declared.line.Line.{Line}
use Rattle.just_ast_expressions.specs.declared.expression.Expression.{Expression}
use Rattle.just_errors.specs.declared.run_error.RunError.{RunError}
use Rattle.just_names.specs.Texts.{Text}
use Rattle.just_run_layers.specs.Host.{Answer, Done, TextGiven, Valued, ScopeGiven, Bound, Paired, Changed, Ran, Refused}
use Rattle.just_run_layers.specs.Interactions.{Return, Interaction, and_then}
use Rattle.just_recipe_body.specs.Attributes.{changes_directory, continues_on, directory_of, first_said, timestamp_of}
use Rattle.just_recipe_body.specs.Body.{BodyContents, changes_or, directory_steps, environment_steps, format_steps, concluded, joined_steps, line_steps, body_prepare_steps, prepared, said_format_steps, show_steps, string_steps, telling_steps, text_or, time_steps, evaluation_fault, untimed}
use Rattle.just_recipe_body.specs.Confirmation.{confirm_by, confirm_steps, confirmation_in, line_answered, prompt_steps, said_prompt}
use Rattle.just_recipe_body.specs.Judging.{judged}
use Rattle.just_recipe_body.specs.declared.body.Preparation.{Preparation}
use Rattle.just_recipe_body.specs.declared.judgement.Next.{Next}
use Rattle.just_recipe_body.specs.declared.judgement.Next.TheVariants.{Onward, Ended}
use Rattle.just_recipe_body.specs.declared.judgement.Program.TheVariants as program
use Rattle.just_shell_body.specs.Lines.{command_of_group, group_command_steps, groups, is_skipped, lines_text_steps, trimmed}
use Rattle.just_shell_body.specs.ShellBody.{call_steps, command_steps, group_steps, groups_steps, is_shown, lines_steps, shell_answered, shell_call, shell_call_steps, shell_steps, show_command_steps, shown_command, teller_of, timed_steps, unless_dry_steps, unless_ended}
use Rattle.just_shell_body.specs.declared.lines.GroupCommand.{GroupCommand}
use Rattle.just_run_layers.proofs.Halts.{failed-not, memory-not}
use Rattle.just_run_layers.proofs.Quiet.{Quiet, quiet-then}

pub quiet-cond : {A : Type 0} (test : Bool) (s u : Interaction A) → Quiet s → Quiet u → Quiet (cond test s u)
quiet-cond true s u h l = h
quiet-cond false s u h l = l

pub quiet-given : {A : Type 0} (o : Result A RunError) → Quiet (concluded o)
quiet-given (Ok x) = tt
quiet-given (Err e) = failed-not e

-- what answers come to
text-quiet : (fault : Text → RunError) (a : Answer) → Quiet (text_or fault a)
text-quiet fault Done = memory-not
text-quiet fault (TextGiven text) = tt
text-quiet fault (Valued value) = memory-not
text-quiet fault (ScopeGiven scope) = memory-not
text-quiet fault (Bound h) = memory-not
text-quiet fault (Paired pairs) = memory-not
text-quiet fault (Changed changes) = memory-not
text-quiet fault (Ran answer) = memory-not
text-quiet fault (Refused message) = failed-not _

changes-quiet : (a : Answer) → Quiet (changes_or a)
changes-quiet Done = memory-not
changes-quiet (TextGiven text) = memory-not
changes-quiet (Valued value) = memory-not
changes-quiet (ScopeGiven scope) = memory-not
changes-quiet (Bound h) = memory-not
changes-quiet (Paired pairs) = memory-not
changes-quiet (Changed changes) = tt
changes-quiet (Ran answer) = memory-not
changes-quiet (Refused message) = failed-not _

answered-quiet : (a : Answer) → Quiet (line_answered a)
answered-quiet Done = memory-not
answered-quiet (TextGiven text) = tt
answered-quiet (Valued value) = memory-not
answered-quiet (ScopeGiven scope) = memory-not
answered-quiet (Bound h) = memory-not
answered-quiet (Paired pairs) = memory-not
answered-quiet (Changed changes) = memory-not
answered-quiet (Ran answer) = memory-not
answered-quiet (Refused message) = failed-not _

shell-quiet : (b : BodyContents) (command : GroupCommand) (a : Answer) → Quiet (shell_answered b command a)
shell-quiet b command Done = memory-not
shell-quiet b command (TextGiven text) = memory-not
shell-quiet b command (Valued value) = memory-not
shell-quiet b command (ScopeGiven scope) = memory-not
shell-quiet b command (Bound h) = memory-not
shell-quiet b command (Paired pairs) = memory-not
shell-quiet b command (Changed changes) = memory-not
shell-quiet b command (Ran answer) = quiet-given (judged program.Shell (teller_of b command) (continues_on b.recipe) command.marks answer)
shell-quiet b command (Refused message) = memory-not

-- what all bodies ask
pub time-quiet : (o : Option Text) → Quiet (time_steps o)
time-quiet None = tt
time-quiet (Some format) = quiet-then (telling_steps format) (λ time. Return (Some time)) (refl, text-quiet untimed) (λ time. tt)

module _ (b : BodyContents) where
  string-quiet : (e : Expression) → Quiet (string_steps b e)
  string-quiet e = (refl, text-quiet evaluation_fault)

  pub line-quiet : (line : Line) (continued : Bool) → Quiet (line_steps b line continued)
  line-quiet line continued = (refl, text-quiet evaluation_fault)

  joined-quiet : (o : Option Expression) → Quiet (joined_steps b o)
  joined-quiet None = tt
  joined-quiet (Some e) = quiet-then (string_steps b e) _ (string-quiet e) (λ text. tt)

  pub directory-quiet : Quiet (directory_steps b)
  directory-quiet = quiet-cond (changes_directory b.recipe b.context.settings) (joined_steps b (directory_of b.recipe.attributes)) (Return None) (joined-quiet (directory_of b.recipe.attributes)) tt

  said-quiet : (o : Option (Option Expression)) → Quiet (said_format_steps b o)
  said-quiet None = tt
  said-quiet (Some None) = tt
  said-quiet (Some (Some e)) = quiet-then (string_steps b e) (λ text. Return (Some text)) (string-quiet e) (λ text. tt)

  pub format-quiet : Quiet (format_steps b)
  format-quiet = said-quiet (timestamp_of b.recipe.attributes)

  preparation-quiet : Quiet (body_prepare_steps b)
  preparation-quiet = quiet-then (directory_steps b) (λ directory. and_then (format_steps b) (λ format. Return (prepared directory format))) directory-quiet
      (λ directory. quiet-then (format_steps b) (λ format. Return (prepared directory format)) format-quiet (λ format. tt))

  pub environment-quiet : Quiet (environment_steps b)
  environment-quiet = (refl, changes-quiet)

  -- whether it may run
  confirmed-quiet : (o : Option (Option Expression)) → Quiet (confirm_by b o)
  confirmed-quiet None = tt
  confirmed-quiet (Some None) = (refl, answered-quiet)
  confirmed-quiet (Some (Some e)) = quiet-then (string_steps b e) (λ text. prompt_steps (said_prompt text)) (string-quiet e) (λ text. (refl, answered-quiet))

  pub confirm-quiet : Quiet (confirm_steps b)
  confirm-quiet = confirmed-quiet (first_said confirmation_in b.recipe.attributes)

  -- a shell body
  texts-quiet : (continued : Bool) (text : Text) (lines : List Line) → Quiet (lines_text_steps b continued text lines)
  texts-quiet continued text [] = tt
  texts-quiet continued text (line ∷ lines) =
      quiet-then (line_steps b line continued) (λ part. lines_text_steps b true (text ++ trimmed (b.syntax.is_continuation line) part) lines) (line-quiet line continued)
      (λ part. texts-quiet true (text ++ trimmed (b.syntax.is_continuation line) part) lines)

  group_command-quiet : (lines : List Line) → Quiet (group_command_steps b lines)
  group_command-quiet [] = tt
  group_command-quiet (line ∷ lines) =
      let made : Text → Interaction (Option GroupCommand) = λ text. Return (command_of_group (b.syntax.sigils line b.context.settings) line lines text) in
      quiet-cond (is_skipped b.syntax b.context.settings line) (Return None) (and_then (lines_text_steps b false [] (line ∷ lines)) made) tt
      (quiet-then (lines_text_steps b false [] (line ∷ lines)) made (texts-quiet false [] (line ∷ lines)) (λ text. tt))

  module _ (prep : Preparation) where
    call-quiet : (command : GroupCommand) → Quiet (call_steps b prep command)
    call-quiet command = quiet-then (environment_steps b) (λ changes. shell_call_steps b command (shell_call b prep.working_directory command.text changes)) environment-quiet
        (λ changes. (refl, shell-quiet b command))

    dry-quiet : (command : GroupCommand) → Quiet (unless_dry_steps b prep command)
    dry-quiet command = quiet-cond b.context.config.dry_run (Return Onward) (call_steps b prep command) tt (call-quiet command)

    timed-quiet : (command : GroupCommand) (time : Option Text) → Quiet (timed_steps b prep command time)
    timed-quiet command time = quiet-then (show_command_steps b command time) (λ _. unless_dry_steps b prep command)
        (quiet-cond (is_shown b command.marks time) (show_steps (shown_command time command.text)) (Return tt) (refl, λ answer. tt) tt) (λ _. dry-quiet command)

    command-quiet : (o : Option GroupCommand) → Quiet (command_steps b prep o)
    command-quiet None = tt
    command-quiet (Some command) = quiet-then (time_steps prep.timestamp_format) (timed_steps b prep command) (time-quiet prep.timestamp_format) (timed-quiet command)

    ended-quiet : (rest : Interaction (Unit {0})) → Quiet rest → (next : Next) → Quiet (unless_ended rest next)
    ended-quiet rest h Onward = h
    ended-quiet rest h Ended = tt

    groups-quiet : (gs : List (List Line)) → Quiet (groups_steps b prep gs)
    groups-quiet [] = tt
    groups-quiet (g ∷ gs) = quiet-then (group_steps b prep g) (unless_ended (groups_steps b prep gs))
        (quiet-then (group_command_steps b g) (command_steps b prep) (group_command-quiet g) command-quiet) (ended-quiet (groups_steps b prep gs) (groups-quiet gs))

  pub shell_body-quiet : Quiet (shell_steps b)
  shell_body-quiet = quiet-then (body_prepare_steps b) (λ prep. lines_steps b prep b.recipe.body) preparation-quiet (λ prep. groups-quiet prep (groups b.syntax b.context.settings b.recipe.body))

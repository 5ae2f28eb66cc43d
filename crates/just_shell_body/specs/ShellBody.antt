-- A shell body: what its lines ask, by the settings and by the answers.
use Rattle.std.specs.Prelude.{Bool, true, false, not, ◌&&◌, ◌||◌, cond, is_some, codes, List, [], ◌∷◌, Option, Some, None}
use Rattle.std.specs.List.{list_any}
use Rattle.std.specs.Option.{unwrap_or}
use Rattle.just_ast_definitions.specs.declared.line.Line.{Line}
use Rattle.just_ast_expressions.specs.declared.interpreter.Interpreter.{Interpreter}
use Rattle.just_errors.specs.declared.halt.Halt.TheVariants.{Memory}
use Rattle.just_names.specs.Texts.{Text}
use Rattle.just_run_layers.specs.declared.calls.Positional.{Positional}
use Rattle.just_run_layers.specs.declared.calls.ShellCall.{ShellCall}
use Rattle.just_run_layers.specs.declared.environment.EnvironmentChange.{EnvironmentChange}
use Rattle.just_run_layers.specs.declared.host.Entry.TheVariants.{Shell}
use Rattle.just_run_layers.specs.Host.{Answer, Ran}
use Rattle.just_run_layers.specs.Interactions.{Ask, Fail, Return, Interaction, ToHost, and_then}
use Rattle.just_recipe_body.specs.Attributes.{continues_on, is_no_quiet, prints_message, takes_positional_arguments}
use Rattle.just_recipe_body.specs.Body.{BodyContents, environment_steps, concluded, is_loquacious, is_mute, body_name, body_prepare_steps, show_steps, stamped, time_steps, with_pairs}
use Rattle.just_recipe_body.specs.Judging.{judged}
use Rattle.just_shell_body.specs.Lines.{group_command_steps, groups}
use Rattle.just_recipe_body.specs.declared.body.Preparation.{Preparation}
use Rattle.just_recipe_body.specs.declared.judgement.Marks.{Marks}
use Rattle.just_recipe_body.specs.declared.judgement.Next.{Next}
use Rattle.just_recipe_body.specs.declared.judgement.Next.TheVariants.{Onward, Ended}
use Rattle.just_recipe_body.specs.declared.judgement.Program.TheVariants as program
use Rattle.just_recipe_body.specs.declared.judgement.Teller.{Teller}
use Rattle.just_shell_body.specs.declared.lines.GroupCommand.{GroupCommand}

-- one sigil `@` turns what the other one says
abbrev pub differs : Bool → Bool → Bool
differs true second = not second
differs false second = second

-- a line is muted
abbrev pub is_muted : BodyContents → Marks → Bool
is_muted b marks =
    differs marks.quiet b.recipe.quiet
    || ((b.context.settings.quiet && not (list_any is_no_quiet b.recipe.attributes)) || is_mute b.context.config.verbosity)

-- a command is shown
abbrev pub is_shown : BodyContents → Marks → Option Text → Bool
is_shown b marks time = b.context.config.dry_run || (is_loquacious b.context.config.verbosity || (is_some time || not (is_muted b marks)))

abbrev pub shown_command : Option Text → Text → Text
shown_command None command = command
shown_command (Some time) command = stamped time command

abbrev pub show_command_steps : BodyContents → GroupCommand → Option Text → Interaction (Unit {0})
show_command_steps b command time = cond (is_shown b command.marks time) (show_steps (shown_command time command.text)) (Return tt)

-- what a shell is handed
abbrev pub usual_shell : Interpreter Text
usual_shell = record { command = codes "sh"; arguments = codes "-cu" ∷ [] }

abbrev pub shell_of : BodyContents → Interpreter Text
shell_of b = unwrap_or b.context.settings.shell usual_shell

abbrev pub positional_of : BodyContents → Option Positional
positional_of b = cond (takes_positional_arguments b.recipe b.context.settings) (Some (record { recipe = body_name b; texts = b.positional })) None

abbrev pub shell_call : BodyContents → Option Text → Text → List EnvironmentChange → ShellCall
shell_call b directory command changes = record {
  shell = shell_of b;
  command = command;
  working_directory = directory;
  positional = positional_of b;
  environment = with_pairs changes b.environment;
  is_quiet = is_mute b.context.config.verbosity;
}

-- what errors tell of a command
abbrev pub teller_of : BodyContents → GroupCommand → Teller
teller_of b command = record { recipe = body_name b; line_number = command.line_number; print_message = prints_message b.recipe b.context.settings }

-- what the answer of the shell comes to; an answer of another kind does not come up
abbrev pub shell_answered : BodyContents → GroupCommand → Answer → Interaction Next
shell_answered b command (Ran answer) = concluded (judged program.Shell (teller_of b command) (continues_on b.recipe) command.marks answer)
shell_answered b command _ = Fail Memory

abbrev pub shell_call_steps : BodyContents → GroupCommand → ShellCall → Interaction Next
shell_call_steps b command call = Ask (ToHost (Shell call)) (shell_answered b command)

-- a command runs: the environment is asked for just before
abbrev pub call_steps : BodyContents → Preparation → GroupCommand → Interaction Next
call_steps b prepared command =
    and_then (environment_steps b) (λ changes. shell_call_steps b command (shell_call b prepared.working_directory command.text changes))

-- nothing runs in a dry run
abbrev pub unless_dry_steps : BodyContents → Preparation → GroupCommand → Interaction Next
unless_dry_steps b prepared command = cond b.context.config.dry_run (Return Onward) (call_steps b prepared command)

-- a command is shown with the time, and runs
abbrev pub timed_steps : BodyContents → Preparation → GroupCommand → Option Text → Interaction Next
timed_steps b prepared command time = and_then (show_command_steps b command time) (λ _. unless_dry_steps b prepared command)

abbrev pub one_command_steps : BodyContents → Preparation → GroupCommand → Interaction Next
one_command_steps b prepared command = and_then (time_steps prepared.timestamp_format) (timed_steps b prepared command)

abbrev pub command_steps : BodyContents → Preparation → Option GroupCommand → Interaction Next
command_steps b prepared None = Return Onward
command_steps b prepared (Some command) = one_command_steps b prepared command

-- a group of lines
abbrev pub group_steps : BodyContents → Preparation → List Line → Interaction Next
group_steps b prepared group = and_then (group_command_steps b group) (command_steps b prepared)

-- groups, until one ends the recipe
abbrev pub unless_ended : Interaction (Unit {0}) → Next → Interaction (Unit {0})
unless_ended rest Onward = rest
unless_ended rest Ended = Return tt

abbrev pub groups_steps : BodyContents → Preparation → List (List Line) → Interaction (Unit {0})
groups_steps b prepared [] = Return tt
groups_steps b prepared (group ∷ rest) = and_then (group_steps b prepared group) (unless_ended (groups_steps b prepared rest))

-- A shell body: the working directory and the format of the time, and then its groups of lines.
abbrev pub lines_steps : BodyContents → Preparation → List Line → Interaction (Unit {0})
lines_steps b prepared lines = groups_steps b prepared (groups b.syntax b.context.settings lines)

abbrev pub shell_steps : BodyContents → Interaction (Unit {0})
shell_steps b = and_then (body_prepare_steps b) (λ prepared. lines_steps b prepared b.recipe.body)

-- A script body: what it asks, by the settings and by the answers.
use Rattle.std.specs.Prelude.{Bool, true, false, not, ◌&&◌, ◌||◌, cond, List, [], ◌∷◌, Option, None, Some}
use Rattle.just_ast_definitions.specs.declared.line.Line.{Line}
use Rattle.just_errors.specs.declared.halt.Halt.TheVariants.{Memory}
use Rattle.just_names.specs.Texts.{Text}
use Rattle.just_parts.specs.declared.layers.config.Verbosity.{Verbosity}
use Rattle.just_parts.specs.declared.layers.config.Verbosity.TheVariants as verbosity
use Rattle.just_run_layers.specs.declared.calls.Executor.{Executor}
use Rattle.just_run_layers.specs.declared.calls.ScriptCall.{ScriptCall}
use Rattle.just_run_layers.specs.declared.environment.EnvironmentChange.{EnvironmentChange}
use Rattle.just_run_layers.specs.declared.host.Entry.TheVariants.{Script}
use Rattle.just_run_layers.specs.Host.{Answer, Ran}
use Rattle.just_run_layers.specs.Interactions.{Ask, Fail, Return, Interaction, ToHost, and_then}
use Rattle.just_recipe_body.specs.Attributes.{continues_on, prints_message, takes_positional_arguments}
use Rattle.just_recipe_body.specs.Body.{BodyContents, directory_steps, environment_steps, format_steps, concluded, is_mute, line_steps, body_name, show_steps, stamped, time_steps, with_pairs}
use Rattle.just_recipe_body.specs.Judging.{judged, no_marks}
use Rattle.just_recipe_body.specs.declared.judgement.Program.TheVariants as program
use Rattle.just_recipe_body.specs.declared.judgement.Teller.{Teller}
use Rattle.just_script_body.specs.Executors.{executor_of}
use Rattle.just_script_body.specs.ScriptAttributes.{extension_of}

-- the name of the recipe is shown behind the time, where there is one
abbrev pub show_time_steps : BodyContents → Option Text → Interaction (Unit {0})
show_time_steps b None = Return tt
show_time_steps b (Some time) = show_steps (stamped time (body_name b))

abbrev pub heading_steps : BodyContents → Interaction (Unit {0})
heading_steps b = and_then (format_steps b) (λ format. and_then (time_steps format) (show_time_steps b))

-- lines are evaluated one after another, each by itself
abbrev pub texts_steps : BodyContents → List Line → Interaction (List Text)
texts_steps b [] = Return []
texts_steps b (line ∷ lines) = and_then (line_steps b line false) (λ text. and_then (texts_steps b lines) (λ texts. Return (text ∷ texts)))

-- texts are shown one after another, or none is
abbrev pub show_all_steps : List Text → Interaction (Unit {0})
show_all_steps [] = Return tt
show_all_steps (text ∷ texts) = and_then (show_steps text) (λ _. show_all_steps texts)

abbrev pub show_if_steps : Bool → List Text → Interaction (Unit {0})
show_if_steps is_script_shown texts = cond is_script_shown (show_all_steps texts) (Return tt)

-- the script is shown before anything runs, and as it is handed over
abbrev pub is_script_shown : BodyContents → Bool
is_script_shown b = not (is_mute b.context.config.verbosity) && (b.context.config.dry_run || b.recipe.quiet)

abbrev pub is_grandiloquent : Verbosity → Bool
is_grandiloquent verbosity.Grandiloquent = true
is_grandiloquent _ = false

-- what the host is handed
abbrev pub script_positional : BodyContents → Option (List Text)
script_positional b = cond (takes_positional_arguments b.recipe b.context.settings) (Some b.positional) None

abbrev pub script_call : BodyContents → Executor → List Text → Option Text → List EnvironmentChange → ScriptCall
script_call b executor texts directory changes = record {
  recipe = body_name b;
  executor = executor;
  lines = texts;
  extension = extension_of b.recipe.attributes;
  working_directory = directory;
  positional = script_positional b;
  environment = with_pairs changes b.environment;
}

-- what errors tell: no line
abbrev pub script_teller : BodyContents → Teller
script_teller b = record { recipe = body_name b; line_number = None; print_message = prints_message b.recipe b.context.settings }

-- what the answer comes to; an answer of another kind does not come up
abbrev pub script_answered : BodyContents → Answer → Interaction (Unit {0})
script_answered b (Ran answer) = and_then (concluded (judged program.Script (script_teller b) (continues_on b.recipe) no_marks answer)) (λ next. Return tt)
script_answered b _ = Fail Memory

abbrev pub script_call_steps : BodyContents → ScriptCall → Interaction (Unit {0})
script_call_steps b call = Ask (ToHost (Script call)) (script_answered b)

-- the script runs: the environment is asked for just before
abbrev pub call_script_steps : BodyContents → Executor → List Text → Option Text → Interaction (Unit {0})
call_script_steps b executor texts directory = and_then (environment_steps b) (λ changes. script_call_steps b (script_call b executor texts directory changes))

abbrev pub shown_call_steps : BodyContents → Executor → List Text → Option Text → Interaction (Unit {0})
shown_call_steps b executor texts directory =
    and_then (show_if_steps (is_grandiloquent b.context.config.verbosity) texts) (λ _. call_script_steps b executor texts directory)

-- what runs it, and then the working directory
abbrev pub executed_steps : BodyContents → List Text → Executor → Interaction (Unit {0})
executed_steps b texts executor = and_then (directory_steps b) (shown_call_steps b executor texts)

abbrev pub script_run_steps : BodyContents → List Text → Interaction (Unit {0})
script_run_steps b texts = and_then (concluded (executor_of b texts)) (executed_steps b texts)

-- nothing runs in a dry run
abbrev pub script_unless_dry_steps : BodyContents → List Text → Interaction (Unit {0})
script_unless_dry_steps b texts = cond b.context.config.dry_run (Return tt) (script_run_steps b texts)

abbrev pub shown_steps : BodyContents → List Text → Interaction (Unit {0})
shown_steps b texts = and_then (show_if_steps (is_script_shown b) texts) (λ _. script_unless_dry_steps b texts)

-- A script body: the time with the name of the recipe, all its lines, and then the script.
abbrev pub script_steps : BodyContents → Interaction (Unit {0})
script_steps b = and_then (heading_steps b) (λ _. and_then (texts_steps b b.recipe.body) (shown_steps b))

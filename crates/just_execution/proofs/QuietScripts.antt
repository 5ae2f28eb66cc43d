-- A script body executes no recipe, and runs out of no counter.
use Rattle.std.proofs.Common.{Bool, false, List, [], ◌∷◌, Option, Some, None, refl}
use Rattle.just_ast_definitions.specs.declared.line.Line.{Line}
use Rattle.just_names.specs.Texts.{Text}
use Rattle.just_run_layers.specs.declared.calls.Executor.{Executor}
use Rattle.just_run_layers.specs.Host.{Answer, Done, TextGiven, Valued, ScopeGiven, Bound, Paired, Changed, Ran, Refused}
use Rattle.just_run_layers.specs.Interactions.{Return, and_then}
use Rattle.just_recipe_body.specs.Attributes.{continues_on}
use Rattle.just_recipe_body.specs.Body.{BodyContents, directory_steps, environment_steps, format_steps, concluded, line_steps, time_steps}
use Rattle.just_recipe_body.specs.Judging.{judged, no_marks}
use Rattle.just_recipe_body.specs.declared.judgement.Program.TheVariants as program
use Rattle.just_script_body.specs.Executors.{executor_of}
use Rattle.just_script_body.specs.ScriptBody.{heading_steps, call_script_steps, executed_steps, is_grandiloquent, is_script_shown, script_run_steps, script_answered, script_call, script_call_steps, script_steps, show_all_steps, show_if_steps, show_time_steps, shown_call_steps, shown_steps, script_teller, texts_steps, script_unless_dry_steps}
use Rattle.just_run_layers.proofs.Quiet.{Quiet, quiet-then}
use Rattle.just_execution.proofs.QuietBodies.{directory-quiet, environment-quiet, format-quiet, line-quiet, quiet-cond, quiet-given, time-quiet}
use Rattle.just_run_layers.proofs.Halts.{memory-not}

all-quiet : (texts : List Text) → Quiet (show_all_steps texts)
all-quiet [] = tt
all-quiet (text ∷ texts) = (refl, λ answer. all-quiet texts)

shown-quiet : (test : Bool) (texts : List Text) → Quiet (show_if_steps test texts)
shown-quiet test texts = quiet-cond test (show_all_steps texts) (Return tt) (all-quiet texts) tt

module _ (b : BodyContents) where
  answered-quiet : (a : Answer) → Quiet (script_answered b a)
  answered-quiet Done = memory-not
  answered-quiet (TextGiven text) = memory-not
  answered-quiet (Valued value) = memory-not
  answered-quiet (ScopeGiven scope) = memory-not
  answered-quiet (Bound h) = memory-not
  answered-quiet (Paired pairs) = memory-not
  answered-quiet (Changed changes) = memory-not
  answered-quiet (Ran answer) =
      quiet-then (concluded (judged program.Script (script_teller b) (continues_on b.recipe) no_marks answer)) (λ next. Return tt) (quiet-given (judged program.Script (script_teller b) (continues_on b.recipe) no_marks answer)) (λ next. tt)
  answered-quiet (Refused message) = memory-not

  told-quiet : (time : Option Text) → Quiet (show_time_steps b time)
  told-quiet None = tt
  told-quiet (Some time) = (refl, λ answer. tt)

  begin-quiet : Quiet (heading_steps b)
  begin-quiet = quiet-then (format_steps b) (λ format. and_then (time_steps format) (show_time_steps b)) (format-quiet b)
      (λ format. quiet-then (time_steps format) (show_time_steps b) (time-quiet format) told-quiet)

  texts-quiet : (lines : List Line) → Quiet (texts_steps b lines)
  texts-quiet [] = tt
  texts-quiet (line ∷ lines) = quiet-then (line_steps b line false) (λ text. and_then (texts_steps b lines) (λ texts. Return (text ∷ texts))) (line-quiet b line false)
      (λ text. quiet-then (texts_steps b lines) (λ texts. Return (text ∷ texts)) (texts-quiet lines) (λ texts. tt))

  call-quiet : (texts : List Text) (executor : Executor) (directory : Option Text) → Quiet (shown_call_steps b executor texts directory)
  call-quiet texts executor directory =
      quiet-then (show_if_steps (is_grandiloquent b.context.config.verbosity) texts) (λ _. call_script_steps b executor texts directory) (shown-quiet (is_grandiloquent b.context.config.verbosity) texts)
      (λ _. quiet-then (environment_steps b) (λ changes. script_call_steps b (script_call b executor texts directory changes)) (environment-quiet b) (λ changes. (refl, answered-quiet)))

  run-quiet : (texts : List Text) → Quiet (script_run_steps b texts)
  run-quiet texts = quiet-then (concluded (executor_of b texts)) (executed_steps b texts) (quiet-given (executor_of b texts))
      (λ executor. quiet-then (directory_steps b) (shown_call_steps b executor texts) (directory-quiet b) (call-quiet texts executor))

  lines-quiet : (texts : List Text) → Quiet (shown_steps b texts)
  lines-quiet texts = quiet-then (show_if_steps (is_script_shown b) texts) (λ _. script_unless_dry_steps b texts) (shown-quiet (is_script_shown b) texts)
      (λ _. quiet-cond b.context.config.dry_run (Return tt) (script_run_steps b texts) tt (run-quiet texts))

  pub script_body-quiet : Quiet (script_steps b)
  script_body-quiet = quiet-then (heading_steps b) (λ _. and_then (texts_steps b b.recipe.body) (shown_steps b)) begin-quiet
      (λ _. quiet-then (texts_steps b b.recipe.body) (shown_steps b) (texts-quiet b.recipe.body) lines-quiet)

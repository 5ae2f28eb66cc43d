-- A recipe executes none but itself: what it asks after it began is no beginning.
use Rattle.std.proofs.Common.{Bool, true, false, Option, Some, None, refl}
use Rattle.just_errors.specs.declared.run_error.RunError.TheVariants.{NotConfirmed}
use Rattle.just_names.specs.Texts.{Text}
use Rattle.just_paths.specs.declared.modulepath.Modulepath.{Modulepath}
use Rattle.just_run_layers.specs.Interactions.{Return, and_then}
use Rattle.just_recipe.specs.Script.{is_script}
use Rattle.just_recipe_body.specs.Body.{BodyContents, is_loquacious, body_name, show_steps}
use Rattle.just_recipe_body.specs.Confirmation.{confirm_steps}
use Rattle.just_recipe_run.specs.RecipeRun.{body_steps, explain_steps, explained, explained_steps, recipe_steps, running_text, running_steps}
use Rattle.just_shell_body.specs.ShellBody.{shell_steps}
use Rattle.just_script_body.specs.ScriptBody.{script_steps}
use Rattle.just_execution.specs.TaskInteractions.{consent_steps, consented}
use Rattle.just_run_layers.proofs.Halts.{failed-not}
use Rattle.just_run_layers.proofs.Quiet.{Quiet, quiet-then}
use Rattle.just_execution.proofs.QuietBodies.{confirm-quiet, quiet-cond, shell_body-quiet}
use Rattle.just_execution.proofs.QuietScripts.{script_body-quiet}

running-quiet : (loquacious : Bool) (o : Option Modulepath) → Quiet (running_steps loquacious o)
running-quiet loquacious None = tt
running-quiet loquacious (Some path) = quiet-cond loquacious (show_steps (running_text path)) (Return tt) (refl, λ answer. tt) tt

explained-quiet : (explain : Bool) (o : Option Text) → Quiet (explained_steps explain o)
explained-quiet explain None = tt
explained-quiet explain (Some doc) = quiet-cond explain (show_steps (explained doc)) (Return tt) (refl, λ answer. tt) tt

consented-quiet : (name : Text) (yes : Bool) → Quiet (consented name yes)
consented-quiet name true = tt
consented-quiet name false = failed-not (NotConfirmed name)

module _ (b : BodyContents) where
  pub recipe-quiet : Quiet (recipe_steps b)
  recipe-quiet =
      quiet-then (running_steps (is_loquacious b.context.config.verbosity) b.recipe.recipe_path) (λ _. explain_steps b) (running-quiet (is_loquacious b.context.config.verbosity) b.recipe.recipe_path)
      (λ _. quiet-then (explained_steps b.context.config.explain b.recipe.doc) (λ _. body_steps b) (explained-quiet b.context.config.explain b.recipe.doc)
      (λ _. quiet-cond (is_script b.recipe b.context.settings) (script_steps b) (shell_steps b) (script_body-quiet b) (shell_body-quiet b)))

  pub consent-quiet : Quiet (consent_steps b)
  consent-quiet = quiet-cond b.context.config.yes (Return tt) (and_then (confirm_steps b) (consented (body_name b))) tt
      (quiet-then (confirm_steps b) (consented (body_name b)) (confirm-quiet b) (consented-quiet (body_name b)))

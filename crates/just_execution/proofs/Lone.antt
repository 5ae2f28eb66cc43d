-- Recipes without what they depend on are asked and run as they are with it, but for that.
use Rattle.std.proofs.Common.{◌≡◌, Bool, true, false, List, [], map, refl, sym, ◌∙◌, ap}
use Rattle.just_parts.specs.Syntax.{SyntaxAnswers}
use Rattle.just_recipe.specs.declared.dependency.Dependency.{Dependency}
use Rattle.just_recipe.specs.declared.recipe.Recipe.{Recipe}
use Rattle.just_run_layers.specs.declared.held.Held.{Held}
use Rattle.just_run_layers.specs.Evaluation.{Surroundings}
use Rattle.just_recipe_run.specs.RecipeRun.{recipe_steps}
use Rattle.just_tasks.specs.Scene.{ModuleContents, lone, running}
use Rattle.just_tasks.specs.declared.task.Task.{Task}
use Rattle.just_tasks.proofs.Lone.{as_run}
use Rattle.just_execution.specs.Arguments.{dependencies_steps}
use Rattle.just_execution.specs.TaskInteractions.{body_of, consent_by, consent_steps, parameters_steps}

-- the same is asked of it
module _ (r : Recipe Dependency) (t : Task) (m : ModuleContents) where
  pub same-parameters : (b : Bool) → parameters_steps (as_run b r) t m ≡ parameters_steps r t m
  same-parameters true = refl
  same-parameters false = refl

  module _ (syntax : SyntaxAnswers) (h : Held) where
    pub same-consent : (b : Bool) → consent_steps (consent_by syntax t (as_run b r) m h) ≡ consent_steps (consent_by syntax t r m h)
    same-consent true = refl
    same-consent false = refl

    pub same-run : (b : Bool) → recipe_steps (body_of syntax t (as_run b r) m h) ≡ recipe_steps (body_of syntax t r m h)
    same-run true = refl
    same-run false = refl

-- dependencies give the same tasks, where there are none of lone recipes
pub same-dependencies : (b : Bool) (rs : List (Recipe Dependency)) (s : Surroundings) (ds : List Dependency) → (b ≡ true → ds ≡ []) → dependencies_steps (running b rs) s ds ≡ dependencies_steps rs s ds
same-dependencies true rs s ds none = ap (dependencies_steps (map lone rs) s) (none refl) ∙ sym (ap (dependencies_steps rs s) (none refl))
same-dependencies false rs s ds none = refl

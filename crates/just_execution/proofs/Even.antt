-- Where the evaluator answers alike, the priors of a task do not hang on how it is called.
use Rattle.std.proofs.Common.{◌≡◌, Bool, true, false, ℕ, zero, suc, List, [], ◌∷◌, ◌++◌, take, Option, Some, None, Result, Ok, Err, refl, sym, ◌∙◌, ap, cond}
use Rattle.std.specs.List.{slice_get}
use Rattle.just_errors.specs.declared.halt.Halt.{Halt}
use Rattle.just_names.specs.Token.{lexeme}
use Rattle.just_recipe.specs.declared.dependency.Dependency.{Dependency}
use Rattle.just_recipe.specs.declared.dependency.DependencyArgument.{DependencyArgument}
use Rattle.just_recipe.specs.declared.recipe.Recipe.{Recipe}
use Rattle.just_run_layers.specs.declared.held.Held.{Held}
use Rattle.just_run_layers.specs.Evaluation.{Parameters, StringOf, Surroundings, Value}
use Rattle.just_run_layers.specs.Host.{Answer}
use Rattle.just_run_layers.specs.Interactions.{Question, ToEvaluator, Interaction, Return, Fail, Ask, and_then, result_under}
use Rattle.just_parts.specs.Syntax.{SyntaxAnswers}
use Rattle.just_ast_expressions.specs.declared.expression.Expression.{Expression}
use Rattle.just_recipe_body.specs.Attributes.{first_said}
use Rattle.just_recipe_body.specs.Body.{BodyContents, surroundings_of, body_name, string_steps, text_or, evaluation_fault}
use Rattle.just_recipe_body.specs.Confirmation.{confirm_by, confirm_steps, confirmation_in, prompt_steps, said_prompt}
use Rattle.just_execution.specs.Arguments.{argument_steps, dependencies_steps, dependency_steps, gathered, argument_group_steps, argument_groups_steps, tasks_with, texts_given, argument_texts_steps, valued_answered}
use Rattle.just_execution.specs.Expansion.{Part, Prepare, Block}
use Rattle.just_execution.specs.TaskInteractions.{IsAlike, ask_in, ask_steps, bound_answered, consent_by, consent_steps, consented, held_steps, interactions_of, prepare_steps, prior_steps, surrounded}
use Rattle.just_tasks.specs.Pairs.{task}
use Rattle.just_execution.specs.Run.{Each, PriorsIgnoreFlag, PartIgnoresFlag, run_parts, priors_in, subsequents_by}
use Rattle.just_tasks.specs.Scene.{ModuleContents, Scene}
use Rattle.just_tasks.specs.declared.pair.Pair.{Pair}
use Rattle.just_tasks.specs.declared.task.Task.{Task}

module _ (f : Question → Answer) where
  abbrev on_success : {A B : Type 0} → Result A Halt → (A → Result B Halt) → Result B Halt
  on_success (Ok x) k = k x
  on_success (Err e) k = Err e

  outcome-then : {A B : Type 0} (s : Interaction A) (k : A → Interaction B) → result_under f (and_then s k) ≡ on_success (result_under f s) (λ x. result_under f (k x))
  outcome-then (Return x) k = refl
  outcome-then (Fail e) k = refl
  outcome-then (Ask q g) k = outcome-then (g (f q)) k

  same-then : {A B : Type 0} (s u : Interaction A) (k l : A → Interaction B) → result_under f s ≡ result_under f u → ((x : A) → result_under f (k x) ≡ result_under f (l x)) → result_under f (and_then s k) ≡ result_under f (and_then u l)
  same-then s u k l e h = outcome-then s k ∙ (λ i. on_success (e i) (λ x. h x i)) ∙ sym (outcome-then u l)

  same-gathered : {A B : Type 0} (s u : A → Interaction (List B)) → ((x : A) → result_under f (s x) ≡ result_under f (u x)) → (xs : List A) → result_under f (gathered s xs) ≡ result_under f (gathered u xs)
  same-gathered s u h [] = refl
  same-gathered s u h (x ∷ xs) = same-then (s x) (u x) (λ ys. and_then (gathered s xs) (λ more. Return (ys ++ more))) (λ ys. and_then (gathered u xs) (λ more. Return (ys ++ more))) (h x)
      (λ ys. same-then (gathered s xs) (gathered u xs) (λ more. Return (ys ++ more)) (λ more. Return (ys ++ more)) (same-gathered s u h xs) (λ more. refl))

  module _ (alike : IsAlike f) where
    module _ (recipes : List (Recipe Dependency)) (p : Pair) (m : ModuleContents) (h : Held) where
      abbrev as_one : Bool → Surroundings
      as_one flag = surrounded m (task flag p) h

      argument-even : (a : DependencyArgument) → result_under f (argument_steps (as_one true) a) ≡ result_under f (argument_steps (as_one false) a)
      argument-even a = ap (λ answer. result_under f (and_then (valued_answered answer) (λ value. Return (texts_given m.context.settings.lists value)))) (alike (Value (as_one true) a.expression))

      group-even : (arguments : List DependencyArgument) → result_under f (argument_group_steps (as_one true) arguments) ≡ result_under f (argument_group_steps (as_one false) arguments)
      group-even arguments = same-then (argument_texts_steps (as_one true) arguments) (argument_texts_steps (as_one false) arguments) (λ texts. Return (texts ∷ [])) (λ texts. Return (texts ∷ []))
          (same-gathered (argument_steps (as_one true)) (argument_steps (as_one false)) argument-even arguments) (λ texts. refl)

      dependency-even : (d : Dependency) → result_under f (dependency_steps recipes (as_one true) d) ≡ result_under f (dependency_steps recipes (as_one false) d)
      dependency-even d = same-then (argument_groups_steps (as_one true) d.arguments) (argument_groups_steps (as_one false) d.arguments) (λ groups. Return (tasks_with recipes d groups)) (λ groups. Return (tasks_with recipes d groups))
          (same-gathered (argument_group_steps (as_one true)) (argument_group_steps (as_one false)) group-even d.arguments) (λ groups. refl)

      priors-even : (r : Recipe Dependency) → result_under f (prior_steps recipes (task true p) r m h) ≡ result_under f (prior_steps recipes (task false p) r m h)
      priors-even r = same-then (dependencies_steps recipes (as_one true) (take r.priors r.dependencies)) (dependencies_steps recipes (as_one false) (take r.priors r.dependencies))
          (λ ps. Return (record { held = h; priors = ps })) (λ ps. Return (record { held = h; priors = ps }))
          (same-gathered (dependency_steps recipes (as_one true)) (dependency_steps recipes (as_one false)) dependency-even (take r.priors r.dependencies)) (λ ps. refl)

    -- and so does its confirmation
    module _ (syntax : SyntaxAnswers) (p : Pair) (r : Recipe Dependency) (m : ModuleContents) (h : Held) where
      abbrev by : Bool → BodyContents
      by flag = consent_by syntax (task flag p) r m h

      prompt-even : (e : Expression) → result_under f (string_steps (by true) e) ≡ result_under f (string_steps (by false) e)
      prompt-even e = ap (λ answer. result_under f (text_or evaluation_fault answer)) (alike (StringOf (surroundings_of (by true)) e))

      confirmed-even : (o : Option (Option Expression)) → result_under f (confirm_by (by true) o) ≡ result_under f (confirm_by (by false) o)
      confirmed-even None = refl
      confirmed-even (Some None) = refl
      confirmed-even (Some (Some e)) = same-then (string_steps (by true) e) (string_steps (by false) e) (λ text. prompt_steps (said_prompt text)) (λ text. prompt_steps (said_prompt text)) (prompt-even e) (λ text. refl)

      asked-even : (yes : Bool) → result_under f (cond yes (Return tt) (and_then (confirm_steps (by true)) (consented (body_name (by true))))) ≡ result_under f (cond yes (Return tt) (and_then (confirm_steps (by false)) (consented (body_name (by false)))))
      asked-even true = refl
      asked-even false = same-then (confirm_steps (by true)) (confirm_steps (by false)) (consented (body_name (by true))) (consented (body_name (by false)))
          (confirmed-even (first_said confirmation_in r.attributes)) (λ yes. refl)

      consent-even : result_under f (consent_steps (by true)) ≡ result_under f (consent_steps (by false))
      consent-even = asked-even m.context.config.yes

      held-even : (recipes : List (Recipe Dependency)) → result_under f (held_steps syntax recipes (task true p) r m h) ≡ result_under f (held_steps syntax recipes (task false p) r m h)
      held-even recipes = same-then (consent_steps (by true)) (consent_steps (by false)) (λ _. prior_steps recipes (task true p) r m h) (λ _. prior_steps recipes (task false p) r m h)
          consent-even (λ _. priors-even recipes p m h r)

    module _ (scene : Scene) (p : Pair) where
      abbrev asked : Recipe Dependency → ModuleContents → Bool → Question
      asked r m flag = ToEvaluator (Parameters m.context m.scope p.groups flag r.parameters (lexeme r.name.token))

      ask_in-even : (r : Recipe Dependency) (o : Option ModuleContents) → result_under f (ask_in scene.syntax scene.recipes (task true p) r o) ≡ result_under f (ask_in scene.syntax scene.recipes (task false p) r o)
      ask_in-even r None = refl
      ask_in-even r (Some m) = same-then (bound_answered (f (asked r m true))) (bound_answered (f (asked r m false))) (held_steps scene.syntax scene.recipes (task true p) r m) (held_steps scene.syntax scene.recipes (task false p) r m)
          (ap (λ answer. result_under f (bound_answered answer)) (alike (Parameters m.context m.scope p.groups true r.parameters (lexeme r.name.token))))
          (λ h. held-even scene.syntax p r m h scene.recipes)

      prepare-even : (o : Option (Recipe Dependency)) → result_under f (prepare_steps scene (task true p) o) ≡ result_under f (prepare_steps scene (task false p) o)
      prepare-even None = refl
      prepare-even (Some r) = ask_in-even r (scene.modules r.module_path)

      ask-even : result_under f (ask_steps scene (task true p)) ≡ result_under f (ask_steps scene (task false p))
      ask-even = prepare-even (slice_get scene.recipes p.recipe)

    parts-even : (scene : Scene) (run : List Task → Type 0) → ((ts : List Task) → run ts) → (xs : List (Part Task)) → Each (PartIgnoresFlag (interactions_of scene) f run) xs
    parts-even scene run h [] = tt
    parts-even scene run h (Prepare t ∷ xs) = (ap priors_in (ask-even scene t.pair), parts-even scene run h xs)
    parts-even scene run h (Block t ∷ xs) = (h (subsequents_by (interactions_of scene) f t), parts-even scene run h xs)

    pub leaves-even : (scene : Scene) (n : ℕ) (tops : List Task) → PriorsIgnoreFlag (interactions_of scene) f n tops
    leaves-even scene zero tops = tt
    leaves-even scene (suc n) tops = parts-even scene (PriorsIgnoreFlag (interactions_of scene) f n) (leaves-even scene n) (run_parts (interactions_of scene) f (suc n) tops)

-- What is asked of one task of a scene.
use Rattle.std.specs.Prelude.{◌≡◌, ℕ, Bool, true, false, cond, List, [], take, drop, Option, Some, None, Result}
use Rattle.std.specs.List.{slice_get}
use Rattle.just_paths.specs.declared.modulepath.Modulepath.{Modulepath}
use Rattle.just_recipe.specs.declared.dependency.Dependency.{Dependency}
use Rattle.just_errors.specs.declared.halt.Halt.{Halt}
use Rattle.just_errors.specs.declared.halt.Halt.TheVariants.{Memory, Failed}
use Rattle.just_errors.specs.declared.run_error.RunError.TheVariants.{NotConfirmed}
use Rattle.just_names.specs.Texts.{Text}
use Rattle.just_names.specs.Token.{lexeme}
use Rattle.just_parts.specs.Syntax.{SyntaxAnswers}
use Rattle.just_run_layers.specs.declared.held.Held.{Held}
use Rattle.just_run_layers.specs.declared.host.Entry.{Entry}
use Rattle.just_run_layers.specs.declared.host.Entry.TheVariants.{Begin}
use Rattle.just_recipe.specs.declared.recipe.Recipe.{Recipe}
use Rattle.just_run_layers.specs.Evaluation.{Inquiry, Parameters, StringOf, Surroundings, Value}
use Rattle.just_run_layers.specs.Host.{Answer, Bound, Refused}
use Rattle.just_run_layers.specs.Interactions.{Log, Question, Interaction, Return, Fail, Ask, ToHost, ToEvaluator, and_then, HasTrace, both}
use Rattle.just_recipe_body.specs.Body.{BodyContents, body_name}
use Rattle.just_recipe_body.specs.Confirmation.{confirm_steps}
use Rattle.just_recipe_run.specs.RecipeRun.{recipe_steps}
use Rattle.just_errors.specs.Halts.{unevaluated}
use Rattle.just_execution.specs.Arguments.{dependencies_steps}
use Rattle.just_tasks.specs.declared.task.Task.{Task}
use Rattle.just_tasks.specs.Scene.{ModuleContents, Scene}
use Rattle.just_execution.specs.Walking.{TaskInteractions, Prepared}

-- what is held for a task: what its recipe's parameters come to, by the texts of its groups
abbrev pub bound_answered : Answer → Interaction Held
bound_answered (Bound h) = Return h
bound_answered (Refused message) = Fail (unevaluated message)
bound_answered _ = Fail Memory

abbrev pub parameters_steps : Recipe Dependency → Task → ModuleContents → Interaction Held
parameters_steps r t m = Ask (ToEvaluator (Parameters m.context m.scope t.pair.groups t.dependency r.parameters (lexeme r.name.token))) bound_answered

-- what the arguments of a task's dependencies are evaluated in: in its module, among the values that it holds
abbrev pub surrounded : ModuleContents → Task → Held → Surroundings
surrounded m t h = record { context = m.context; scope = h.scope; is_dependency = t.dependency; environment = [] }

-- the arguments of the priors of a task in a module, by what it holds; a recipe or a module that is not there does not come up
abbrev pub prior_steps : List (Recipe Dependency) → Task → Recipe Dependency → ModuleContents → Held → Interaction Prepared
prior_steps recipes t r m h = and_then (dependencies_steps recipes (surrounded m t h) (take r.priors r.dependencies)) (λ ps. Return (record { held = h; priors = ps }))

-- what the body of a task runs by in its module, with what it holds
abbrev pub body_of : SyntaxAnswers → Task → Recipe Dependency → ModuleContents → Held → BodyContents
body_of syntax t r m h = record {
  syntax = syntax;
  context = m.context;
  recipe = r;
  scope = h.scope;
  is_dependency = t.dependency;
  environment = h.environment;
  positional = h.positional;
}

-- what its confirmation is asked by: the environment of programs is none of it
abbrev pub consent_by : SyntaxAnswers → Task → Recipe Dependency → ModuleContents → Held → BodyContents
consent_by syntax t r m h = record {
  syntax = syntax;
  context = m.context;
  recipe = r;
  scope = h.scope;
  is_dependency = t.dependency;
  environment = [];
  positional = h.positional;
}

-- a recipe that is not confirmed does not run
abbrev pub consented : Text → Bool → Interaction (Unit {0})
consented name true = Return tt
consented name false = Fail (Failed (NotConfirmed name))

-- confirmation is asked for, unless the configuration says yes to all
abbrev pub consent_steps : BodyContents → Interaction (Unit {0})
consent_steps b = cond b.context.config.yes (Return tt) (and_then (confirm_steps b) (consented (body_name b)))

-- its parameters, its confirmation, and then the arguments of its priors
abbrev pub held_steps : SyntaxAnswers → List (Recipe Dependency) → Task → Recipe Dependency → ModuleContents → Held → Interaction Prepared
held_steps syntax recipes t r m h = and_then (consent_steps (consent_by syntax t r m h)) (λ _. prior_steps recipes t r m h)

abbrev pub ask_in : SyntaxAnswers → List (Recipe Dependency) → Task → Recipe Dependency → Option ModuleContents → Interaction Prepared
ask_in syntax recipes t r None = Fail Memory
ask_in syntax recipes t r (Some m) = and_then (parameters_steps r t m) (held_steps syntax recipes t r m)

abbrev pub prepare_steps : Scene → Task → Option (Recipe Dependency) → Interaction Prepared
prepare_steps scene t None = Fail Memory
prepare_steps scene t (Some r) = ask_in scene.syntax scene.recipes t r (scene.modules r.module_path)

abbrev pub ask_steps : Scene → Task → Interaction Prepared
ask_steps scene t = prepare_steps scene t (slice_get scene.recipes t.pair.recipe)

-- a recipe begins at its path
abbrev pub begin_steps : List (List (List ℕ)) → Option Modulepath → Interaction (Unit {0})
begin_steps groups None = Return tt
begin_steps groups (Some path) = Ask (ToHost (Begin path groups)) (λ answer. Return tt)

-- and then runs, by what is held for it in its module
abbrev pub run_in : SyntaxAnswers → Task → Held → Recipe Dependency → Option ModuleContents → Interaction (Unit {0})
run_in syntax t h r None = Fail Memory
run_in syntax t h r (Some m) = recipe_steps (body_of syntax t r m h)

abbrev pub execute_at : Scene → Task → Held → Option (Recipe Dependency) → Interaction (Unit {0})
execute_at scene t h None = Return tt
execute_at scene t h (Some r) = and_then (begin_steps t.pair.groups r.recipe_path) (λ _. run_in scene.syntax t h r (scene.modules r.module_path))

-- the execution of a task: its recipe begins at its path, and runs
abbrev pub execute_steps : Scene → Task → Held → Interaction (Unit {0})
execute_steps scene t h = execute_at scene t h (slice_get scene.recipes t.pair.recipe)

-- after its body: the arguments of its subsequents, among the values that it holds
abbrev pub follow_in : List (Recipe Dependency) → Task → Held → Recipe Dependency → Option ModuleContents → Interaction (List Task)
follow_in recipes t h r None = Fail Memory
follow_in recipes t h r (Some m) = dependencies_steps recipes (surrounded m t h) (drop r.priors r.dependencies)

abbrev pub after_steps : Scene → Task → Held → Option (Recipe Dependency) → Interaction (List Task)
after_steps scene t h None = Fail Memory
after_steps scene t h (Some r) = follow_in scene.recipes t h r (scene.modules r.module_path)

abbrev pub follow_steps : Scene → Task → Held → Interaction (List Task)
follow_steps scene t h = after_steps scene t h (slice_get scene.recipes t.pair.recipe)

abbrev pub interactions_of : Scene → TaskInteractions
interactions_of scene = record { ask = ask_steps scene; execute = execute_steps scene; follow = follow_steps scene }

-- a question as it is asked for a recipe that runs as a dependency, or for one that does not
abbrev pub called : Bool → Inquiry → Inquiry
called flag (Parameters context scope groups dependency parameters recipe) = Parameters context scope groups flag parameters recipe
called flag (Value s e) = Value (record { context = s.context; scope = s.scope; is_dependency = flag; environment = s.environment }) e
called flag (StringOf s e) = StringOf (record { context = s.context; scope = s.scope; is_dependency = flag; environment = s.environment }) e
called flag inquiry = inquiry

-- the evaluator answers alike whether or not a recipe runs as a dependency
abbrev pub IsAlike : (Question → Answer) → Type 0
IsAlike f = (inquiry : Inquiry) → f (ToEvaluator (called true inquiry)) ≡ f (ToEvaluator (called false inquiry))

abbrev pub Executes : (Inquiry → Option Answer) → (Entry → Option Answer) → Scene → Task → Held → Log → Log → Result (Unit {0}) Halt → Type 0
Executes evaluator host scene task held old new result = HasTrace (both evaluator host) (execute_steps scene task held) old new result

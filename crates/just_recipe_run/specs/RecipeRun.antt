-- The run of one recipe: what is shown before its body, and the body.
use Rattle.std.specs.Prelude.{Bool, cond, codes, List, ◌++◌, Option, Some, None}
use Rattle.just_ast_expressions.specs.declared.scope.Scope.{Scope}
use Rattle.just_names.specs.Texts.{Text, text_of}
use Rattle.just_parts.specs.Syntax.{SyntaxAnswers}
use Rattle.just_paths.specs.declared.modulepath.Modulepath.{Modulepath}
use Rattle.just_recipe.specs.Script.{is_script}
use Rattle.just_recipe.specs.declared.dependency.Dependency.{Dependency}
use Rattle.just_recipe.specs.declared.recipe.Recipe.{Recipe}
use Rattle.just_run_layers.specs.declared.environment.EnvironmentPair.{EnvironmentPair}
use Rattle.just_run_layers.specs.Evaluation.{ContextContents}
use Rattle.just_run_layers.specs.Interactions.{Return, Interaction, and_then}
use Rattle.just_recipe_body.specs.Body.{BodyContents, is_loquacious, show_steps}
use Rattle.just_shell_body.specs.ShellBody.{shell_steps}
use Rattle.just_script_body.specs.ScriptBody.{script_steps}

-- what a body runs by, of what is handed over
abbrev pub body_by : SyntaxAnswers → ContextContents → Recipe Dependency → List EnvironmentPair → Bool → List Text → Scope → BodyContents
body_by syntax context r environment is_dependency positional scope = record {
  syntax = syntax;
  context = context;
  recipe = r;
  scope = scope;
  is_dependency = is_dependency;
  environment = environment;
  positional = positional;
}

-- that a recipe runs, as it is shown where much is
abbrev pub running_text : Modulepath → Text
running_text path = codes "===> running recipe `" ++ (text_of path.components path.spaced ++ codes "`...")

abbrev pub running_steps : Bool → Option Modulepath → Interaction (Unit {0})
running_steps loquacious None = Return tt
running_steps loquacious (Some path) = cond loquacious (show_steps (running_text path)) (Return tt)

-- what a recipe is for, as it is shown where that is asked for
abbrev pub explained : Text → Text
explained doc = codes "#### " ++ doc

abbrev pub explained_steps : Bool → Option Text → Interaction (Unit {0})
explained_steps explain None = Return tt
explained_steps explain (Some doc) = cond explain (show_steps (explained doc)) (Return tt)

-- the body, a script or lines for a shell
abbrev pub body_steps : BodyContents → Interaction (Unit {0})
body_steps b = cond (is_script b.recipe b.context.settings) (script_steps b) (shell_steps b)

-- A recipe runs: it is shown that it does, and what it is for, where that is asked for; and then its body runs.
abbrev pub explain_steps : BodyContents → Interaction (Unit {0})
explain_steps b = and_then (explained_steps b.context.config.explain b.recipe.doc) (λ _. body_steps b)

abbrev pub recipe_steps : BodyContents → Interaction (Unit {0})
recipe_steps b = and_then (running_steps (is_loquacious b.context.config.verbosity) b.recipe.recipe_path) (λ _. explain_steps b)

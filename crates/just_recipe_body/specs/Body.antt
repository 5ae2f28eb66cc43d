-- What a body runs by, and what each kind of body asks.
use Rattle.std.specs.Prelude.{Bool, true, false, cond, List, [], ◌++◌, map, codes, Option, Some, None, Result, Ok, Err}
use Rattle.std.specs.Option.{unwrap_or}
use Rattle.std.specs.Path.{path_join}
use Rattle.just_ast_definitions.specs.declared.line.Line.{Line}
use Rattle.just_ast_expressions.specs.declared.expression.Expression.{Expression}
use Rattle.just_ast_expressions.specs.declared.scope.Scope.{Scope}
use Rattle.just_errors.specs.declared.halt.Halt.TheVariants.{Memory, Failed}
use Rattle.just_errors.specs.declared.run_error.RunError.{RunError}
use Rattle.just_errors.specs.declared.run_error.RunError.TheVariants as run
use Rattle.just_names.specs.Name.{text_of_name}
use Rattle.just_names.specs.Texts.{Text}
use Rattle.just_parts.specs.Syntax.{SyntaxAnswers}
use Rattle.just_parts.specs.declared.layers.config.Verbosity.{Verbosity}
use Rattle.just_parts.specs.declared.layers.config.Verbosity.TheVariants as verbosity
use Rattle.just_recipe.specs.declared.dependency.Dependency.{Dependency}
use Rattle.just_recipe.specs.declared.recipe.Recipe.{Recipe}
use Rattle.just_run_layers.specs.declared.environment.EnvironmentChange.{EnvironmentChange}
use Rattle.just_run_layers.specs.declared.environment.EnvironmentPair.{EnvironmentPair}
use Rattle.just_run_layers.specs.declared.host.Entry.TheVariants.{Show, Timestamp}
use Rattle.just_run_layers.specs.Evaluation.{ContextContents, Environment, LineOf, StringOf, Surroundings}
use Rattle.just_run_layers.specs.Evaluation as evaluation
use Rattle.just_run_layers.specs.Host.{Answer, Changed, TextGiven, Refused}
use Rattle.just_run_layers.specs.Interactions.{Ask, Fail, Return, Interaction, ToEvaluator, ToHost, and_then}
use Rattle.just_recipe_body.specs.Attributes.{changes_directory, directory_of, timestamp_of}
use Rattle.just_recipe_body.specs.declared.body.Body.{Body}
use Rattle.just_recipe_body.specs.declared.body.Preparation.{Preparation}

-- What a body runs by: the grammar, what its module hands to the layers, its recipe, the values of its names, whether it is a dependency, and what its parameters put into the environment and hand to programs.
pub record BodyContents : Type 0 where
  pub syntax : SyntaxAnswers
  pub context : ContextContents
  pub recipe : Recipe Dependency
  pub scope : Scope
  pub is_dependency : Bool
  pub environment : List EnvironmentPair
  pub positional : List Text

-- for the private functions: the same of what is lent
abbrev pub body_contents_of : {S : Type 0} → SyntaxAnswers → Body S → BodyContents
body_contents_of syntax body = record {
  syntax = syntax;
  context = evaluation.context_contents_of body.context.now;
  recipe = body.recipe.now;
  scope = body.scope.now;
  is_dependency = body.is_dependency;
  environment = body.environment.now;
  positional = body.positional.now;
}

-- where its expressions and lines are evaluated
abbrev pub surroundings_of : BodyContents → Surroundings
surroundings_of b = record { context = b.context; scope = b.scope; is_dependency = b.is_dependency; environment = b.environment }

-- the name of its recipe
abbrev pub body_name : BodyContents → Text
body_name b = text_of_name b.recipe.name

-- a text, or what its fault is told by; an answer of another kind does not come up
abbrev pub evaluation_fault : Text → RunError
evaluation_fault message = run.Evaluate (record { message = message })

abbrev pub untimed : Text → RunError
untimed message = run.DatetimeFormat (record { message = message })

abbrev pub text_or : (Text → RunError) → Answer → Interaction Text
text_or fault (TextGiven text) = Return text
text_or fault (Refused message) = Fail (Failed (fault message))
text_or fault _ = Fail Memory

-- the text of an expression, and that of a line
abbrev pub string_steps : BodyContents → Expression → Interaction Text
string_steps b expression = Ask (ToEvaluator (StringOf (surroundings_of b) expression)) (text_or evaluation_fault)

abbrev pub line_steps : BodyContents → Line → Bool → Interaction Text
line_steps b line continued = Ask (ToEvaluator (LineOf (surroundings_of b) line continued)) (text_or evaluation_fault)

-- the folder of its module: for the root that of the configuration, where there is one
abbrev pub module_folder : List Text → Option Text → Text → Text
module_folder [] (Some configured) own = configured
module_folder _ _ own = own

abbrev pub folder : BodyContents → Text
folder b = module_folder b.context.module_path.components b.context.config.working_directory b.context.working_directory

-- the folder that it runs in, where it changes to one: that of the module, or the one to which the text of an attribute leads from there
abbrev pub joined_steps : BodyContents → Option Expression → Interaction (Option Text)
joined_steps b None = Return (Some (folder b))
joined_steps b (Some expression) = and_then (string_steps b expression) (λ text. Return (Some (path_join (folder b) text)))

abbrev pub directory_steps : BodyContents → Interaction (Option Text)
directory_steps b = cond (changes_directory b.recipe b.context.settings) (joined_steps b (directory_of b.recipe.attributes)) (Return None)

-- the format of the time, where it is shown: that of an attribute, or else that of the configuration
abbrev pub configured_format : BodyContents → Text
configured_format b = unwrap_or b.context.config.timestamp_format (codes "%H:%M:%S")

abbrev pub said_format_steps : BodyContents → Option (Option Expression) → Interaction (Option Text)
said_format_steps b (Some (Some expression)) = and_then (string_steps b expression) (λ text. Return (Some text))
said_format_steps b (Some None) = Return (Some (configured_format b))
said_format_steps b None = Return (cond b.context.config.timestamp (Some (configured_format b)) None)

abbrev pub format_steps : BodyContents → Interaction (Option Text)
format_steps b = said_format_steps b (timestamp_of b.recipe.attributes)

-- both, one after the other
abbrev pub prepared : Option Text → Option Text → Preparation
prepared directory format = record { working_directory = directory; timestamp_format = format }

abbrev pub body_prepare_steps : BodyContents → Interaction Preparation
body_prepare_steps b = and_then (directory_steps b) (λ directory. and_then (format_steps b) (λ format. Return (prepared directory format)))

-- the time, where there is a format
abbrev pub telling_steps : Text → Interaction Text
telling_steps format = Ask (ToHost (Timestamp format)) (text_or untimed)

abbrev pub time_steps : Option Text → Interaction (Option Text)
time_steps None = Return None
time_steps (Some format) = and_then (telling_steps format) (λ time. Return (Some time))

-- a text behind the time
abbrev pub stamped : Text → Text → Text
stamped time text = codes "[" ++ (time ++ (codes "] " ++ text))

-- a line is shown
abbrev pub show_steps : Text → Interaction (Unit {0})
show_steps line = Ask (ToHost (Show line)) (λ answer. Return tt)

-- what programs have in their environment: what the layer says, and over it what the parameters put there
abbrev pub changes_or : Answer → Interaction (List EnvironmentChange)
changes_or (Changed changes) = Return changes
changes_or (Refused message) = Fail (Failed (evaluation_fault message))
changes_or _ = Fail Memory

abbrev pub environment_steps : BodyContents → Interaction (List EnvironmentChange)
environment_steps b = Ask (ToEvaluator (Environment b.context.dotenv b.scope b.context.settings b.context.unexports)) changes_or

abbrev pub change_of : EnvironmentPair → EnvironmentChange
change_of pair = record { name = pair.name; value = Some pair.value }

abbrev pub with_pairs : List EnvironmentChange → List EnvironmentPair → List EnvironmentChange
with_pairs changes pairs = changes ++ map change_of pairs

-- the verbosities at which more is shown than by default, and the one at which nothing is
abbrev pub is_loquacious : Verbosity → Bool
is_loquacious verbosity.Loquacious = true
is_loquacious verbosity.Grandiloquent = true
is_loquacious _ = false

abbrev pub is_mute : Verbosity → Bool
is_mute verbosity.Quiet = true
is_mute _ = false

-- what a result comes to
abbrev pub concluded : {A : Type 0} → Result A RunError → Interaction A
concluded (Ok x) = Return x
concluded (Err e) = Fail (Failed e)

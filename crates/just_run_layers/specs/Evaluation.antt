-- What an evaluator is asked in a run: what the records hold, and nothing of where they lie in memory.
use Rattle.std.proofs.Common.{BuildHasherDefault, FoldHasher}
use Rattle.std.specs.Prelude.{ℕ, Bool, true, List, [], ◌∷◌, Option, None, Some}
use Rattle.std.specs.Borrow.{Bor}
use Rattle.std.specs.HashMap.{get}
use Rattle.std.specs.HashSet.{HashSet, contains}
use Rattle.std.specs.Option.{option_map}
use Rattle.just_ast_expressions.specs.declared.expression.Expression.{Expression}
use Rattle.just_ast_expressions.specs.declared.scope.Scope.{Scope}
use Rattle.just_ast_expressions.specs.declared.settings.Settings.{Settings}
use Rattle.just_names.specs.Texts.{Text}
use Rattle.just_names.specs.declared.name.Name.{Name}
use Rattle.just_names.specs.declared.number.Number.{Number}
use Rattle.just_paths.specs.declared.modulepath.Modulepath.{Modulepath}
use Rattle.just_ast_definitions.specs.declared.assignment.Assignment.{Assignment}
use Rattle.just_ast_definitions.specs.declared.function_definition.FunctionDefinition.{FunctionDefinition}
use Rattle.just_ast_definitions.specs.declared.line.Line.{Line}
use Rattle.just_ast_definitions.specs.declared.parameter.Parameter.{Parameter}
use Rattle.just_parts.specs.declared.layers.config.Config.{Config}
use Rattle.just_parts.specs.declared.layers.config.EvaluateFormat.{EvaluateFormat}
use Rattle.just_parts.specs.declared.layers.config.Subcommand.{Subcommand}
use Rattle.just_parts.specs.declared.layers.config.Verbosity.{Verbosity}
use Rattle.just_run_layers.specs.declared.context.Context.{Context}
use Rattle.just_run_layers.specs.declared.environment.EnvironmentPair.{EnvironmentPair}
use Rattle.just_run_layers.specs.Host.{Answer}
use Rattle.just_parts.specs.Layers.{override_at}
use Rattle.just_parts.specs.Needs.{same_number}

-- what the caller asks for
pub record ConfigContents : Type 0 where
  pub dry_run : Bool
  pub explain : Bool
  pub home : Option Text
  pub load_dotenv : Bool
  pub no_dependencies : Bool
  pub one : Bool
  pub overrides : Modulepath → Text → Option Text
  pub shell_command : Bool
  pub subcommand : Subcommand
  pub timestamp : Bool
  pub timestamp_format : Option Text
  pub unsorted : Bool
  pub unstable : Bool
  pub verbosity : Verbosity
  pub working_directory : Option Text
  pub yes : Bool

abbrev pub config_contents : Config → ConfigContents
config_contents config = record {
  dry_run = config.dry_run;
  explain = config.explain;
  home = config.home;
  load_dotenv = config.load_dotenv;
  no_dependencies = config.no_dependencies;
  one = config.one;
  overrides = override_at config.overrides;
  shell_command = config.shell_command;
  subcommand = config.subcommand;
  timestamp = config.timestamp;
  timestamp_format = config.timestamp_format;
  unsorted = config.unsorted;
  unstable = config.unstable;
  verbosity = config.verbosity;
  working_directory = config.working_directory;
  yes = config.yes;
}

-- what a module hands to the layers
pub record ContextContents : Type 0 where
  pub config : ConfigContents
  pub dotenv : List EnvironmentPair
  pub module_path : Modulepath
  pub working_directory : Text
  pub assignments : List (Text × Assignment)
  pub evaluation_order : List Name
  pub functions : List (Text × FunctionDefinition)
  pub overrides : Number → Option Text
  pub settings : Settings
  pub unexports : List Name

abbrev pub context_contents_of : Context → ContextContents
context_contents_of context = record {
  config = config_contents context.config.now;
  dotenv = context.dotenv;
  module_path = context.module_path.now;
  working_directory = context.working_directory.now;
  assignments = context.assignments.now;
  evaluation_order = context.evaluation_order.now;
  functions = context.functions.now;
  overrides = get same_number context.overrides.now;
  settings = context.settings.now;
  unexports = context.unexports.now;
}

-- the numbers of a set that may be there, and whether a number is among those that are asked for: without a set all are
abbrev pub NumberSet : Type 0
NumberSet = Option (Number → Bool)

abbrev pub set_of : Option (Bor (HashSet Number (BuildHasherDefault FoldHasher))) → NumberSet
set_of set = option_map (λ (numbers : Bor (HashSet Number (BuildHasherDefault FoldHasher))). contains same_number numbers.now) set

abbrev pub in_set : NumberSet → Number → Bool
in_set None number = true
in_set (Some set) number = set number

-- Where an expression or a line is evaluated: in a module, among the values of a scope, for a recipe that is a dependency or none, with this environment.
pub record Surroundings : Type 0 where
  pub context : ContextContents
  pub scope : Scope
  pub is_dependency : Bool
  pub environment : List EnvironmentPair

abbrev pub surroundings : Context → Scope → Bool → List EnvironmentPair → Surroundings
surroundings context scope is_dependency environment =
    record { context = context_contents_of context; scope = scope; is_dependency = is_dependency; environment = environment }

-- A question: the values of variables, under the scope of a parent; those of parameters, by the texts that they are given; the value of an expression, the same as one text, or the text of a line; or what programs have in their environment.
pub data Inquiry : Type 0 where
  Assignments : ContextContents → Scope → NumberSet → Inquiry
  Parameters : ContextContents → Scope → List (List Text) → Bool → List Parameter → Text → Inquiry
  Value : Surroundings → Expression → Inquiry
  StringOf : Surroundings → Expression → Inquiry
  LineOf : Surroundings → Line → Bool → Inquiry
  Environment : List EnvironmentPair → Scope → Settings → List Name → Inquiry

-- A question for variables, as it is kept: those of the module at a path, in a set or all.
pub record ScopeRequest : Type 0 where
  pub path : Modulepath
  pub set : NumberSet

-- questions for variables are kept, no others
abbrev pub requests_of : Inquiry → List ScopeRequest
requests_of (Assignments context parent set) = record { path = context.module_path; set = set } ∷ []
requests_of _ = []

-- a question for variables is kept where it is answered
abbrev pub requested : Inquiry → Option Answer → List ScopeRequest
requested inquiry None = []
requested inquiry (Some answer) = requests_of inquiry

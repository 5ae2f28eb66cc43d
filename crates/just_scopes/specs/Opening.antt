-- The modules of a run are opened in turn, each before those in it, and handed what the one around it has.
use Rattle.std.proofs.Common.{BuildHasherDefault, FoldHasher}
use Rattle.std.specs.Prelude.{ℕ, Bool, cond, List, [], ◌∷◌, ◌++◌, map, Option, Some, None, Result, Ok, Err, slice_get}
use Rattle.std.specs.Prelude.{Vec}
use Rattle.std.specs.Global.{Global}
use Rattle.std.specs.HashMap.{HashMap, get}
use Rattle.std.specs.Option.{option_map, option_or}
use Rattle.just_ast_expressions.specs.declared.scope.Scope.{Scope}
use Rattle.just_errors.specs.declared.halt.Halt.{Halt}
use Rattle.just_errors.specs.declared.halt.Halt.TheVariants.{Memory, Failed}
use Rattle.just_errors.specs.declared.run_error.RunError.TheVariants.{Dotenv}
use Rattle.just_errors.specs.Halts.{unevaluated}
use Rattle.just_tasks.specs.Scene.{ModuleContents, Scene, running}
use Rattle.just_justfile.specs.declared.justfile.Justfile.{Justfile, out-Justfile}
use Rattle.just_names.specs.Texts.{Text}
use Rattle.just_names.specs.declared.number.Number.{Number}
use Rattle.just_parts.specs.Needs.{same_number}
use Rattle.just_parts.specs.Syntax.{SyntaxAnswers}
use Rattle.just_parts.specs.declared.layers.config.Config.{Config}
use Rattle.just_paths.specs.contracts.modulepath.ModulepathPartialEq.TheImpl as path_eq
use Rattle.just_paths.specs.declared.modulepath.Modulepath.{Modulepath}
use Rattle.just_recipe.specs.declared.dependency.Dependency.{Dependency}
use Rattle.just_recipe.specs.declared.recipe.Recipe.{Recipe}
use Rattle.just_recipe_body.specs.Body as body
use Rattle.just_run_layers.specs.Evaluation.{Assignments, ConfigContents, ContextContents, NumberSet, config_contents}
use Rattle.just_run_layers.specs.Host.{Answer, Paired, Refused, ScopeGiven}
use Rattle.just_run_layers.specs.Interactions.{Ask, Fail, Return, Interaction, ToEvaluator, ToHost, and_then}
use Rattle.just_run_layers.specs.declared.environment.EnvironmentPair.{EnvironmentPair}
use Rattle.just_run_layers.specs.declared.host.Entry.TheVariants as entry
use Rattle.just_scopes.specs.Need.{NumberSets, asked}
use Rattle.just_scopes.specs.Preorder.{Placed}
use Rattle.just_scopes.specs.declared.open_module.OpenedModule.{OpenedModule}

-- what a run hands to the layers of each module beside what the module has: what its caller asks for, and the values that override variables
pub record Handed : Type 0 where
  pub config : ConfigContents
  pub overrides : Number → Option Text

abbrev pub handed_of : Config → HashMap Number Text (BuildHasherDefault FoldHasher) → Handed
handed_of config overrides = record { config = config_contents config; overrides = get same_number overrides }

-- what a module hands to the layers, with these pairs of dotenv files
abbrev pub context_in : Handed → Justfile → List EnvironmentPair → ContextContents
context_in handed j dotenv = record {
  config = handed.config;
  dotenv = dotenv;
  module_path = (out-Justfile j).module_path;
  working_directory = (out-Justfile j).working_directory;
  assignments = (out-Justfile j).assignments;
  evaluation_order = (out-Justfile j).evaluation_order;
  functions = (out-Justfile j).functions;
  overrides = handed.overrides;
  settings = (out-Justfile j).settings;
  unexports = (out-Justfile j).unexports;
}

-- What a module has in a run: the pairs of dotenv files, of which the last of a name counts, and the values of its variables; and whether it is lazy.
pub record Opened : Type 0 where
  pub justfile : Justfile
  pub lazy : Bool
  pub dotenv : List EnvironmentPair
  pub scope : Scope

-- what a module is handed by the one around it; the root is handed nothing
pub record Inherited : Type 0 where
  pub dotenv : List EnvironmentPair
  pub scope : Scope

abbrev pub nothing_inherited : Inherited
nothing_inherited = record { dotenv = []; scope = record { bindings = [] } }

abbrev pub hands : Option Opened → Inherited
hands None = nothing_inherited
hands (Some o) = record { dotenv = o.dotenv; scope = o.scope }

abbrev pub around : List Opened → Option ℕ → Inherited
around opened None = nothing_inherited
around opened (Some place) = hands (slice_get opened place)

-- the folder for which dotenv files are asked and in which a program runs in place of recipes, which is that of bodies: the module's, and of the root the configuration's, where it has one
abbrev pub working_folder_of : Option Text → Justfile → Text
working_folder_of configured j = body.module_folder (out-Justfile j).module_path.components configured (out-Justfile j).working_directory

-- a module's own pairs stand behind those of the modules around it
abbrev pub pairs_answered : List EnvironmentPair → Answer → Interaction (List EnvironmentPair)
pairs_answered before (Paired pairs) = Return (before ++ pairs)
pairs_answered before (Refused message) = Fail (Failed (Dotenv (record { message = message })))
pairs_answered before _ = Fail Memory

-- the dotenv pairs of a module; none are asked for where the configuration loads none
abbrev pub dotenv_steps : ConfigContents → Justfile → List EnvironmentPair → Interaction (List EnvironmentPair)
dotenv_steps config j before =
    cond config.load_dotenv (Ask (ToHost (entry.Dotenv (out-Justfile j).module_path (working_folder_of config.working_directory j))) (pairs_answered before)) (Return [])

-- the values of its variables: of a set of them, or of all
abbrev pub scope_answered : Answer → Interaction Scope
scope_answered (ScopeGiven scope) = Return scope
scope_answered (Refused message) = Fail (unevaluated message)
scope_answered _ = Fail Memory

abbrev pub scope_steps : Handed → Justfile → NumberSet → Scope → List EnvironmentPair → Interaction Scope
scope_steps handed j set parent dotenv = Ask (ToEvaluator (Assignments (context_in handed j dotenv) parent set)) scope_answered

-- one module is opened
abbrev pub opened_with : Placed → List EnvironmentPair → Scope → Opened
opened_with p dotenv scope = record { justfile = p.justfile; lazy = p.lazy; dotenv = dotenv; scope = scope }

abbrev pub open_steps : NumberSets → Handed → Placed → Inherited → Interaction Opened
open_steps sets handed p a =
    and_then (dotenv_steps handed.config p.justfile a.dotenv)
    (λ dotenv. and_then (scope_steps handed p.justfile (asked sets p.lazy p.justfile) a.scope dotenv) (λ scope. Return (opened_with p dotenv scope)))

-- modules are opened in turn, where others are open
abbrev pub openings : NumberSets → Handed → List Placed → List Opened → Interaction (List Opened)
openings sets handed [] opened = Return opened
openings sets handed (p ∷ ps) opened = and_then (open_steps sets handed p (around opened p.parent)) (λ o. openings sets handed ps (opened ++ o ∷ []))

-- all of them, in order
abbrev pub all_opened : NumberSets → Handed → List Placed → Interaction (List Opened)
all_opened sets handed ps = openings sets handed ps []

-- what recipes run by in an open module
abbrev pub opened_contents : Handed → Opened → ModuleContents
opened_contents handed o = record { context = context_in handed o.justfile o.dotenv; scope = o.scope }

-- the open module of a path: the last of them
abbrev pub opened_at : Modulepath → List Opened → Option Opened
opened_at path [] = None
opened_at path (o ∷ os) = option_or (opened_at path os) (cond (path_eq.ghosts.eq (out-Justfile o.justfile).module_path path) (Some o) None)

abbrev pub opened_under : Option Modulepath → List Opened → Option Opened
opened_under None opened = None
opened_under (Some path) opened = opened_at path opened

-- the values of the open module of a path, and none where there is none
abbrev pub scope_at : Modulepath → List Opened → Scope
scope_at path opened = (hands (opened_at path opened)).scope

-- what a run takes beside modules and words: the grammar, and what it hands to the layers
pub record Setup : Type 0 where
  pub syntax : SyntaxAnswers
  pub handed : Handed

abbrev pub setup_of : SyntaxAnswers → Config → HashMap Number Text (BuildHasherDefault FoldHasher) → Setup
setup_of syntax config overrides = record { syntax = syntax; handed = handed_of config overrides }

-- the scene of open modules, with recipes as they run
abbrev pub scene_of : Setup → List (Recipe Dependency) → List Opened → Scene
scene_of setup recipes opened = record {
  syntax = setup.syntax;
  recipes = running setup.handed.config.no_dependencies recipes;
  modules = λ path. option_map (opened_contents setup.handed) (opened_under path opened);
}

-- for the private functions: an open module as data
abbrev pub opened_of : OpenedModule → Opened
opened_of o = record { justfile = o.justfile.now; lazy = o.is_lazy; dotenv = o.dotenv; scope = o.scope }

abbrev pub opened_in : Result (Vec OpenedModule Global) Halt → Result (List Opened) Halt
opened_in (Ok os) = Ok (map opened_of os.items)
opened_in (Err e) = Err e

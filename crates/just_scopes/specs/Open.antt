-- What is there once the modules of a run are open.
use Rattle.std.specs.Prelude.{◌≡◌, ◌↔◌, ◌++◌, ℕ, Bool, true, cond, List, [], map, Option, Some, IsSome, Result}
use Rattle.std.specs.List.{All, Contains, slice_get}
use Rattle.just_errors.specs.declared.halt.Halt.{Halt}
use Rattle.just_tasks.specs.Homes.{IsRead}
use Rattle.just_tasks.specs.Leading.{LeadTo}
use Rattle.just_tasks.specs.declared.task.Task.{Task}
use Rattle.just_justfile.specs.Closed.{StandsIn}
use Rattle.just_justfile.specs.Running.{known_by_tables}
use Rattle.just_recipe.specs.Recipes.{arguments_of}
use Rattle.just_justfile.specs.declared.justfile.Justfile.{Justfile, out-Justfile}
use Rattle.just_names.specs.Texts.{Text}
use Rattle.just_names.specs.declared.number.Number.{Number}
use Rattle.just_parts.specs.Evaluator.{scope_values}
use Rattle.just_parts.specs.Scopes.{scopes_of}
use Rattle.just_parts.specs.Syntax.{SyntaxAnswers}
use Rattle.just_recipe.specs.declared.dependency.Dependency.{Dependency}
use Rattle.just_recipe.specs.declared.recipe.Recipe.{Recipe}
use Rattle.just_run_layers.specs.Evaluation.{Inquiry, ScopeRequest}
use Rattle.just_run_layers.specs.Host.{Answer}
use Rattle.just_run_layers.specs.Interactions.{Log, HasTrace, both, log_of}
use Rattle.just_run_layers.specs.declared.host.Entry.{Entry}
use Rattle.just_run_layers.specs.declared.host.Entry.TheVariants as entry
use Rattle.just_scopes.specs.Need.{AreNeeds, AreNeedsFrom, IsNeededFrom, IsToBeBound, NumberSets, asked}
use Rattle.just_scopes.specs.Opening.{Handed, Opened, Setup, all_opened, working_folder_of, opened_at}
use Rattle.just_scopes.specs.Preorder.{IsPreorder, IsPreorderUnder, Placed}

-- a module and whether it is lazy
abbrev pub Whose : Type 0
Whose = Justfile × Bool

abbrev pub whose_opened : Opened → Whose
whose_opened o = (o.justfile, o.lazy)

abbrev pub whose_placed : Placed → Whose
whose_placed p = (p.justfile, p.lazy)

-- whatever a recipe of an open module reads is bound in it
abbrev pub IsServedBy : SyntaxAnswers → Recipe Dependency → Opened → Type 0
IsServedBy answers r o = All (IsRead (known_by_tables o.justfile) o.scope) (scopes_of arguments_of answers (out-Justfile o.justfile).settings r)

-- Once they are open: they are the modules of the root, in order, each lazy where it or one above sets so; in a lazy one exactly what is needed is bound, and in another all; each recipe to which tasks lead has its module among them, and whatever it reads is bound there.
pub record AreOpenModules (answers : SyntaxAnswers) (root : Justfile) (recipes : List (Recipe Dependency)) (tops : List Task) (opened : List Opened) : Type 0 where
  pub modules : (ps : List Placed) → IsPreorder root ps → map whose_opened opened ≡ map whose_placed ps
  pub exactly : (o : Opened) → Contains opened o → (name : Text) → IsSome (scope_values o.scope name) ↔ IsToBeBound o.lazy answers recipes tops o.justfile name
  pub placed : (place : ℕ) (r : Recipe Dependency) → LeadTo recipes tops place → slice_get recipes place ≡ Some r →
      (o : Opened) × Contains opened o × (r.module_path ≡ Some (out-Justfile o.justfile).module_path)
  pub served : (place : ℕ) (r : Recipe Dependency) → LeadTo recipes tops place → slice_get recipes place ≡ Some r →
      (o : Opened) → Contains opened o → r.module_path ≡ Some (out-Justfile o.justfile).module_path → IsServedBy answers r o

-- For every host: the steps were taken that open the modules of the root, each lazy one by the set of what is needed.
abbrev pub Opens : (Inquiry → Option Answer) → (Entry → Option Answer) → Setup → Justfile → List (Recipe Dependency) → List Task → Log → Log → Result (List Opened) Halt → Type 0
Opens evaluator host setup root recipes tops old new result =
    (sets : NumberSets) → AreNeeds setup.syntax root recipes tops sets → (ps : List Placed) → IsPreorder root ps → HasTrace (both evaluator host) (all_opened sets setup.handed ps) old new result

-- For every host: the steps were taken that open the modules of the root, each as a lazy one whatever it sets, by the set of what is needed from some numbers.
abbrev pub OpensLazily : (Inquiry → Option Answer) → (Entry → Option Answer) → Handed → Justfile → (Number → Bool) → Log → Log → Result (List Opened) Halt → Type 0
OpensLazily evaluator host handed root used old new result =
    (sets : NumberSets) → AreNeedsFrom used root sets → (ps : List Placed) → IsPreorderUnder true root ps → HasTrace (both evaluator host) (all_opened sets handed ps) old new result

-- Once they are open: they are the modules of the root, in order, each lazy; in each exactly what is needed from the numbers is bound; and each module that stands in the root is the open one of its path.
pub record AreLazyModules (root : Justfile) (used : Number → Bool) (opened : List Opened) : Type 0 where
  pub modules : (ps : List Placed) → IsPreorderUnder true root ps → map whose_opened opened ≡ map whose_placed ps
  pub lazy : (o : Opened) → Contains opened o → o.lazy ≡ true
  pub exactly : (o : Opened) → Contains opened o → (name : Text) → IsSome (scope_values o.scope name) ↔ IsNeededFrom used o.justfile name
  pub found : (j : Justfile) → StandsIn root j → (o : Opened) × (opened_at (out-Justfile j).module_path opened ≡ Some o) × (o.justfile ≡ j)

-- what is kept of open modules: the host was asked for the pairs of each, where files are asked for, and the evaluator for its variables, of a lazy one for what is needed
abbrev pub dotenv_entry : Handed → Placed → Entry
dotenv_entry handed p = entry.Dotenv (out-Justfile p.justfile).module_path (working_folder_of handed.config.working_directory p.justfile)

abbrev pub request_for : NumberSets → Placed → ScopeRequest
request_for sets p = record { path = (out-Justfile p.justfile).module_path; set = asked sets p.lazy p.justfile }

abbrev pub kept_of : NumberSets → Handed → List Placed → Log → Log
kept_of sets handed ps old = log_of (old.entries ++ cond handed.config.load_dotenv (map (dotenv_entry handed) ps) []) (old.requests ++ map (request_for sets) ps)

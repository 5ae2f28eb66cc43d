-- The rules of a module: each relates what is compiled to the errors that report where it is broken.
use Rattle.std.specs.Prelude.{◌≡◌, ◌≢◌, ℕ, ◌+◌, ◌-◌, ◌<◌, ◌≤◌, ◌⊎◌, Bool, true, false, List, [], ◌∷◌, map, length, get_or, Some}
use Rattle.std.specs.List.{Contains, slice_get}
use Rattle.just_errors.specs.Causes.{Cause, Broken}
use Rattle.just_names.specs.ListFeature.{is_function}
use Rattle.just_names.specs.Texts.{Text}
use Rattle.just_names.specs.Name.{text_of_name, texts_of_path}
use Rattle.just_names.specs.Token.{Place, lexeme}
use Rattle.just_names.specs.declared.name.Namepath.{Namepath}
use Rattle.just_errors.specs.declared.compile_error.CompileErrorKind.{CompileErrorKind}
use Rattle.just_errors.specs.declared.compile_error.CompileErrorKind.TheVariants as kind
use Rattle.just_errors.specs.declared.compile_error.Definition.TheVariants as definition
use Rattle.just_names.specs.declared.name.Name.{Name}
use Rattle.just_ast_definitions.specs.declared.alias.Alias.{Alias}
use Rattle.just_ast_expressions.specs.declared.list_use.ListUse.{ListUse}
use Rattle.just_ast_definitions.specs.declared.setting.Set.{Set}
use Rattle.just_ast_expressions.specs.declared.settings.Settings.{Settings}
use Rattle.just_parts.specs.Syntax.{SyntaxAnswers}
use Rattle.just_recipe.specs.Starred.{has_star}
use Rattle.just_recipe.specs.declared.dependency.UnresolvedDependency.{UnresolvedDependency}
use Rattle.just_recipe.specs.declared.recipe.Recipe.{Recipe}
use Rattle.just_module_contents.specs.Contents.{Contents, Defined, Signature, defined_in, defined_naming, function_names, function_texts, signatures, texts_of_defined, variable_names}
use Rattle.just_names.specs.Index.{texts_of_names, Repeats, name_at}
use Rattle.just_module_contents.specs.Shells.{BreaksShells}
use Rattle.just_module_contents.specs.Settings.{Conflicts, allows_variables, are_incompatible, line_at, place_at, setting_at, setting_names}
use Rattle.just_module_contents.specs.declared.definitions.Naming.{Naming}
use Rattle.just_module_contents.specs.Recipes.{name_of_recipe, named_parameters, parameter_names, FollowsDefault, named_paths, recipe_at, DependsOnRecipe}

-- A recipe has a parameter's name twice: those two that follow each other under that name; or a parameter whose group may not be empty follows one with a default, both given by their places. It is told at the later parameter.
pub data BreaksParameters (recipes : List (Recipe UnresolvedDependency)) : Cause → Type 0 where
  duplicate_parameter : {second : Name} {recipe : List ℕ} (i p q : ℕ) → i < length recipes → name_of_recipe (recipe_at recipes i) ≡ recipe
      → Repeats (parameter_names (recipe_at recipes i)) p q → slice_get (named_parameters (recipe_at recipes i)) q ≡ Some second
      → BreaksParameters recipes (Broken second.token (kind.DuplicateParameter recipe (text_of_name second)))
  required_after_default : {second : Name} (i q : ℕ) → i < length recipes → FollowsDefault (recipe_at recipes i).parameters q
      → slice_get (named_parameters (recipe_at recipes i)) q ≡ Some second
      → BreaksParameters recipes (Broken second.token (kind.RequiredParameterFollowsDefaultParameter (text_of_name second)))

-- How two definitions of one name are told: at the one on the greater line, and the line of the other with it; of one line the second, as they were met, comes after the first.
pub record IsRedefinition (first second : Defined) (place : Place) (told : CompileErrorKind) : Type 0 where
  pub greater : second.name.token.line < first.name.token.line → (place ≡ first.name.token)
      × (told ≡ kind.Redefinition second.sort first.sort (text_of_name first.name) second.name.token.line)
  pub not_greater : first.name.token.line ≤ second.name.token.line → (place ≡ second.name.token)
      × (told ≡ kind.Redefinition first.sort second.sort (text_of_name second.name) first.name.token.line)

-- Two of these definitions have one name: those two that follow each other under that name.
pub record Redefines (ds : List Defined) (place : Place) (told : CompileErrorKind) : Type 0 where
  pub i : ℕ
  pub j : ℕ
  pub first : Defined
  pub second : Defined
  pub repeats : Repeats (texts_of_defined ds) i j
  pub first_is : slice_get ds i ≡ Some first
  pub second_is : slice_get ds j ≡ Some second
  pub told_is : IsRedefinition first second place told

-- A setting is set twice: at those two places that follow each other under its name. It is told at the second.
pub data SetTwice (sets : List Set) : Cause → Type 0 where
  duplicate_set : (i j : ℕ) → Repeats (setting_names sets) i j → SetTwice sets (Broken (place_at sets j) (kind.DuplicateSet (setting_at sets j) (line_at sets i)))

-- What is broken by settings: one is set twice, or two are set of which neither may be set beside the other, which is told at the second.
pub data BreaksSettings (conflicts : Conflicts) (sets : List Set) : Cause → Type 0 where
  set_twice : {c : Cause} → SetTwice sets c → BreaksSettings conflicts sets c
  incompatible_settings : (i j : ℕ) → i < j → j < length sets → are_incompatible conflicts sets i j ≡ true
      → BreaksSettings conflicts sets (Broken (place_at sets j) (kind.IncompatibleSettings (setting_at sets i) (line_at sets i) (setting_at sets j)))

-- A variable is unexported twice. It is told at the second place.
pub data BreaksUnexports (names : List Name) : Cause → Type 0 where
  duplicate_unexport : {second : Name} (i j : ℕ) → Repeats (texts_of_names names) i j → slice_get names j ≡ Some second → BreaksUnexports names (Broken second.token (kind.DuplicateUnexport (text_of_name second)))

-- Two of the modules and aliases have one name: those two that follow each other under that name.
pub data BreaksNamings (named : List Naming) : Cause → Type 0 where
  named_redefinition : {place : Place} {told : CompileErrorKind} → Redefines (map defined_naming named) place told → BreaksNamings named (Broken place told)

-- What is broken in the headers of a module: those of its recipes, its settings, the names that it unexports, or those of its modules and aliases.
pub data BreaksHeaders (conflicts : Conflicts) (m : Contents) : Cause → Type 0 where
  of_parameters : {c : Cause} → BreaksParameters m.recipes c → BreaksHeaders conflicts m c
  of_sets : {c : Cause} → BreaksSettings conflicts m.sets c → BreaksHeaders conflicts m c
  of_unexports : {c : Cause} → BreaksUnexports m.unexports c → BreaksHeaders conflicts m c
  of_named : {c : Cause} → BreaksNamings m.named c → BreaksHeaders conflicts m c

-- A function has the name of a parameter twice: those two that follow each other under that name. It is told at the second.
pub data RepeatsParameter (s : Signature) : Cause → Type 0 where
  duplicate_function_parameter : {second : Name} (p q : ℕ) → Repeats (texts_of_names s.parameters) p q → slice_get s.parameters q ≡ Some second
      → RepeatsParameter s (Broken second.token (kind.DuplicateFunctionParameter (text_of_name s.name) (text_of_name second)))

-- What is broken of functions: two have one name, those two that follow each other under it, and it is told at the second; or one has the name of a parameter twice.
pub data BreaksFunctions (functions : List Signature) : Cause → Type 0 where
  function_redefinition : {first second : Name} (i j : ℕ) → Repeats (texts_of_names (function_names functions)) i j → slice_get (function_names functions) i ≡ Some first → slice_get (function_names functions) j ≡ Some second
      → BreaksFunctions functions (Broken second.token (kind.Redefinition definition.Function definition.Function (text_of_name second) first.token.line))
  of_function : {s : Signature} {c : Cause} (i : ℕ) → slice_get functions i ≡ Some s → RepeatsParameter s c → BreaksFunctions functions c

-- A variable is assigned twice: at those two places that follow each other under its name. It is told at the second.
pub data AssignedTwice (names : List Name) : Cause → Type 0 where
  duplicate_variable : {second : Name} (i j : ℕ) → Repeats (texts_of_names names) i j → slice_get names j ≡ Some second → AssignedTwice names (Broken second.token (kind.DuplicateVariable (text_of_name second)))

-- A variable is assigned and unexported. It is told where it is assigned.
pub data Unexported (names unexports : List Name) : Cause → Type 0 where
  export_unexported : {name : Name} (i j : ℕ) → slice_get names i ≡ Some name → j < length (texts_of_names unexports) → name_at (texts_of_names unexports) j ≡ text_of_name name
      → Unexported names unexports (Broken name.token (kind.ExportUnexported (text_of_name name)))

-- What is broken of variables: one is assigned twice, though no setting allows it, or one is unexported.
pub data BreaksVariables (allowed : Bool) (names unexports : List Name) : Cause → Type 0 where
  assigned_twice : {c : Cause} → allowed ≡ false → AssignedTwice names c → BreaksVariables allowed names unexports c
  unexported : {c : Cause} → Unexported names unexports c → BreaksVariables allowed names unexports c

-- the same, of a module
abbrev pub BreaksVariablesOf : Contents → Cause → Type 0
BreaksVariablesOf m = BreaksVariables (allows_variables m.sets) (variable_names m.variables) m.unexports

-- What is broken in the names of a module: those of its variables, or of its functions.
pub data BreaksDefinitions (m : Contents) : Cause → Type 0 where
  of_variables : {c : Cause} → BreaksVariablesOf m c → BreaksDefinitions m c
  of_functions : {c : Cause} → BreaksFunctions (signatures m.functions) c → BreaksDefinitions m c

-- Two of these definitions, of which recipes come last, have one name, and they are not two recipes that may have it.
pub data BreaksRedefinition (allowed : Bool) (ds : List Defined) : Cause → Type 0 where
  redefinition : {place : Place} {told : CompileErrorKind} (r : Redefines ds place told) → (allowed ≡ true → r.first.sort ≢ definition.Recipe) → BreaksRedefinition allowed ds (Broken place told)

-- a function of one of these names stands for what needs lists
pub record StandsFor (names : List Text) (used : ListUse) : Type 0 where
  pub may : is_function used.feature ≡ true
  pub at : ℕ
  pub there : at < length names
  pub named : name_at names at ≡ lexeme used.token

-- Something needs lists, which are off, and no function of the module stands for it.
pub data BreaksLists (on : Bool) (names : List Text) (uses : List ListUse) : Cause → Type 0 where
  list_feature : {used : ListUse} (i : ℕ) → on ≡ false → slice_get uses i ≡ Some used → (StandsFor names used → ⊥) → BreaksLists on names uses (Broken used.token (kind.ListFeature used.feature))

-- What is broken in the bodies of a module under its settings: something needs lists, two of its modules, aliases and recipes have one name, or something in a recipe that a shell runs.
pub data BreaksBodies (answers : SyntaxAnswers) (settings : Settings) (m : Contents) : Cause → Type 0 where
  of_lists : {c : Cause} → BreaksLists settings.lists (function_texts m) m.lists c → BreaksBodies answers settings m c
  of_defined : {c : Cause} → BreaksRedefinition settings.allow_duplicate_recipes (defined_in m) c → BreaksBodies answers settings m c
  of_shells : {c : Cause} → BreaksShells answers settings m.recipes c → BreaksBodies answers settings m c

-- what is broken under something that there is
pub data WhereEvaluated {A : Type 0} (Is : A → Type 0) (broken : A → Cause → Type 0) : Cause → Type 0 where
  under : {a : A} {c : Cause} → Is a → broken a c → WhereEvaluated Is broken c

-- A circle of names: it begins and ends with one name, each recipe depends on the next, and `recipe` is the last that does.
pub record IsRecipeCircleOf (recipes : List (Recipe UnresolvedDependency)) (recipe : List ℕ) (circle : List (List ℕ)) : Type 0 where
  pub steps : 1 < length circle
  pub closed : get_or circle 0 [] ≡ get_or circle (length circle - 1) []
  pub walk : (k : ℕ) → k + 1 < length circle → DependsOnRecipe recipes (get_or circle k []) (get_or circle (k + 1) [])
  pub closing : get_or circle (length circle - 2) [] ≡ recipe

-- A dependency of a recipe of one name on one of another.
pub record IsDependencyOn (recipes : List (Recipe UnresolvedDependency)) (dependent named : List ℕ) (path : Namepath) : Type 0 where
  pub from : ℕ
  pub there : from < length recipes
  pub dependent_is : name_of_recipe (recipe_at recipes from) ≡ dependent
  pub depends : Contains (named_paths (recipe_at recipes from)) path
  pub names : texts_of_path path ≡ named ∷ []

-- too few arguments are given, or too many
abbrev pub IsOutside : ℕ → ℕ → ℕ → Type 0
IsOutside found least most = (found < least) ⊎ (most < found)

-- a recipe of a name depends on what a path names
pub record DependsBy (recipes : List (Recipe UnresolvedDependency)) (name : List ℕ) (path : Namepath) : Type 0 where
  pub from : ℕ
  pub there : from < length recipes
  pub name_is : name_of_recipe (recipe_at recipes from) ≡ name
  pub depends : Contains (named_paths (recipe_at recipes from)) path

-- a recipe that stands has this dependency
pub record StandsWith (Stands : Text → Type 0) (recipes : List (Recipe UnresolvedDependency)) (d : UnresolvedDependency) : Type 0 where
  pub from : ℕ
  pub there : from < length recipes
  pub depends : Contains (recipe_at recipes from).dependencies d
  pub stands : Stands (name_of_recipe (recipe_at recipes from))

-- What is broken of dependencies, where paths lead to recipes, some recipes stand, and what a path leads to takes so many arguments at least and at most.
module _ (Leads : Namepath → Type 0) (Stands : Text → Type 0) (Takes : Namepath → ℕ → ℕ → Type 0) where
  -- A dependency leads to no recipe, or a recipe depends on itself, whether it stands or not; or one that stands has a dependency with a starred argument where values are no lists, or with too few or too many arguments. It is told at the last name of the dependency; of a circle, at that of one which closes it.
  pub data Dependencies (lists : Bool) (recipes : List (Recipe UnresolvedDependency)) : Cause → Type 0 where
    unknown_dependency : {recipe : List ℕ} {unknown : Namepath} → DependsBy recipes recipe unknown → (Leads unknown → ⊥)
        → Dependencies lists recipes (Broken unknown.last.token (kind.UnknownDependency recipe unknown))
    circular : {recipe : List ℕ} {circle : List (List ℕ)} {path : Namepath} → IsRecipeCircleOf recipes recipe circle → IsDependencyOn recipes recipe (get_or circle (length circle - 1) []) path
        → Dependencies lists recipes (Broken path.last.token (kind.CircularRecipeDependency recipe circle))
    starred : {d : UnresolvedDependency} → StandsWith Stands recipes d → lists ≡ false → has_star d.arguments ≡ true
        → Dependencies lists recipes (Broken d.recipe.last.token kind.MappedDependencyWithoutListsSetting)
    argument_count : {d : UnresolvedDependency} {found least most : ℕ} → StandsWith Stands recipes d → Takes d.recipe least most → length d.arguments ≡ found → IsOutside found least most
        → Dependencies lists recipes (Broken d.recipe.last.token (kind.DependencyArgumentCountMismatch d.recipe found least most))

-- The target of one of these aliases leads to nothing. It is told at the alias's name.
pub data BreaksAliasTargets (Leads : Namepath → Type 0) (aliases : List (Alias Namepath)) : Cause → Type 0 where
  unknown_target : {alias : Alias Namepath} → Contains aliases alias → (Leads alias.target → ⊥) → BreaksAliasTargets Leads aliases (Broken alias.name.token (kind.UnknownAliasTarget (text_of_name alias.name) alias.target))

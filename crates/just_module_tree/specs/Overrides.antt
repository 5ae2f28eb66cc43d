-- The rule of overrides: each key, which is the path of a module and the name of a variable, means a variable in the tree of modules.
use Rattle.std.specs.Prelude.{◌≡◌, ◌≢◌, List, [], ◌∷◌, ◌++◌, Option, None, Some}
use Rattle.std.specs.List.{Contains}
use Rattle.just_ast_definitions.specs.declared.alias.Alias.{Alias}
use Rattle.just_errors.specs.Causes.{Cause, NoVariables}
use Rattle.just_module_contents.specs.Contents.{variable_names}
use Rattle.just_module_contents.specs.Kept.{kept_variables}
use Rattle.just_module_tree.specs.Modules.{Empty, Forest, Module, Tree, contents_of}
use Rattle.just_module_tree.specs.Standing.{InModule, find_inner, follow}
use Rattle.just_names.specs.Index.{texts_of_names}
use Rattle.just_names.specs.Name.{text_of_name, texts_of_path}
use Rattle.just_names.specs.Texts.{Text, text_of}
use Rattle.just_names.specs.declared.name.Namepath.{Namepath}
use Rattle.just_paths.specs.declared.modulepath.Modulepath.{Modulepath}

-- what a value is given for: the path of a module, and the name of a variable there
abbrev pub OverrideKey : Type 0
OverrideKey = Modulepath × Text

-- a key as it is shown: as the path that leads from the module's one name on, to the variable
abbrev pub shown_key : OverrideKey → Text
shown_key key = text_of (key.0.components ++ key.1 ∷ []) key.0.spaced

-- A name leads from a module with those in it to another one with those in it: to the one of the name in it, or where there is none to the one to which the target of an alias of the name leads.
pub data StepsTo (m : Module) (inside : Forest) (name : Text) (n : Module) (within : Forest) : Type 0 where
  to_inner : find_inner name inside ≡ Some (n, within) → StepsTo m inside name n within
  to_aliased : (alias : Alias Namepath) → find_inner name inside ≡ None → Contains (contents_of m).aliases alias → text_of_name alias.name ≡ name
      → follow (texts_of_path alias.target) m inside ≡ InModule n within → StepsTo m inside name n within

-- Names lead from a module to another one, one after another. It is the least such relation.
pub data Reaches : Module → Forest → List Text → Module → Forest → Type 0 where
  at_end : {m : Module} {inside : Forest} → Reaches m inside [] m inside
  by_step : {m n to : Module} {inside within under : Forest} {name : Text} {names : List Text} → StepsTo m inside name n within → Reaches n within names to under → Reaches m inside (name ∷ names) to under

-- A key means a variable: its path leads from the root's module to one that keeps a variable of its name.
pub record MeansVariable (top : Module) (below : Forest) (key : OverrideKey) : Type 0 where
  pub n : Module
  pub within : Forest
  pub reaches : Reaches top below key.0.components n within
  pub named : Contains (texts_of_names (variable_names (kept_variables (contents_of n).variables))) key.1

-- of keys exactly those that mean nothing, as they are shown, in their order
pub data AreUnknown (Means : OverrideKey → Type 0) : List OverrideKey → List Text → Type 0 where
  no_key : AreUnknown Means [] []
  is_known : {key : OverrideKey} {keys : List OverrideKey} {texts : List Text} → Means key → AreUnknown Means keys texts → AreUnknown Means (key ∷ keys) texts
  is_unknown : {key : OverrideKey} {keys : List OverrideKey} {texts : List Text} → (Means key → ⊥) → AreUnknown Means keys texts → AreUnknown Means (key ∷ keys) (shown_key key ∷ texts)

-- Keys mean nothing. All of these are told.
pub data NamesNone (Means : OverrideKey → Type 0) (keys : List OverrideKey) : Cause → Type 0 where
  no_variables : {texts : List Text} → AreUnknown Means keys texts → texts ≢ [] → NamesNone Means keys (NoVariables texts)

-- some mean no variable in a forest whose first module is the root's
abbrev pub BreaksOverrides : List OverrideKey → Forest → Cause → Type 0
BreaksOverrides keys Empty = λ c. ⊥
BreaksOverrides keys (Tree m inside after) = NamesNone (MeansVariable m inside) keys

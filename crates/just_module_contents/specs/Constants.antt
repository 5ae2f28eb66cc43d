-- What is evaluated of a module while compiling.
use Rattle.std.specs.Prelude.{◌≡◌, ◌↔◌, ◌++◌, Bool, true, false, List, [], ◌∷◌, codes, flat_map, map, Option, None, Some, is_some, if◌then◌else◌}
use Rattle.std.specs.List.{Contains, list_any}
use Rattle.just_table.specs.Entries.{find}
use Rattle.just_names.specs.Texts.{Text, joined}
use Rattle.just_names.specs.Token.{Place}
use Rattle.just_errors.specs.Causes.{Broken, Cause}
use Rattle.just_errors.specs.declared.compile_error.CompileErrorKind.TheVariants as kind
use Rattle.just_errors.specs.declared.fault.Fault.{Fault}
use Rattle.just_parts.specs.Bare.{bare_function}
use Rattle.just_parts.specs.Evaluator.{Evaluator, Functions, Values, Wanted, bare_set, functions_by_name, set_expressions, unnumbered}
use Rattle.just_parts.specs.Known.{Known, none_hidden}
use Rattle.just_parts.specs.Layers.{Layers}
use Rattle.just_parts.specs.Needs.{Needs}
use Rattle.just_parts.specs.Reading.{IsReadIn}
use Rattle.just_parts.specs.Scopes.{compiled_expressions, in_attributes}
use Rattle.just_parts.specs.Syntax.{SyntaxAnswers}
use Rattle.just_recipe.specs.declared.dependency.UnresolvedDependency.{UnresolvedDependency}
use Rattle.just_recipe.specs.declared.recipe.Recipe.{Recipe}
use Rattle.just_ast_expressions.specs.declared.expression.Expression.{Expression}
use Rattle.just_ast_definitions.specs.declared.setting.Set.{Set}
use Rattle.just_ast_definitions.specs.declared.setting.Setting.{Setting}
use Rattle.just_ast_definitions.specs.declared.setting.Setting.TheVariants as setting
use Rattle.just_ast_expressions.specs.declared.settings.Settings.{Settings}
use Rattle.just_ast_references.specs.Numbers.{bare}
use Rattle.just_parts.specs.Misnaming.{Misnames}
use Rattle.just_module_contents.specs.Contents.{Contents}
use Rattle.just_module_contents.specs.Known.{functions_under, known_of}

-- the expressions of a recipe that are evaluated while compiling
abbrev pub recipe_expressions : Recipe UnresolvedDependency → List Expression
recipe_expressions = in_attributes compiled_expressions

-- those of the settings of a module
abbrev pub settings_expressions : Contents → List Expression
settings_expressions m = flat_map set_expressions m.sets

-- the expressions of a module that are evaluated while compiling: of its settings, of all its recipes, and of the docs of the modules that it declares
abbrev pub constant_expressions : Contents → List Expression
constant_expressions m = settings_expressions m ++ flat_map recipe_expressions m.recipes ++ m.docs

-- the value that overrides a variable, and whether there is one
abbrev pub overriding : Known → (Text → Option Text) → Text → Option Text
overriding k overrides name = if is_some (find name k.assignments) then overrides name else None

abbrev pub is_overridden : Known → (Text → Option Text) → Text → Bool
is_overridden k overrides name = is_some (overriding k overrides name)

-- the variables that are needed: the least set with those that these expressions read, and with whatever one that is not overridden reads
abbrev pub IsNeeded : Known → (Text → Option Text) → List Expression → Text → Type 0
IsNeeded k overrides es = Needs k (is_overridden k overrides) (IsReadIn k es)

-- The question for constants: the variables and functions without numbers, the values that override variables, and the variables that these expressions need.
pub record AsksFor (k : Known) (given : Text → Option Text) (es : List Expression) (on : Bool) (wanted : Wanted) : Type 0 where
  pub assignments : wanted.assignments ≡ unnumbered k.assignments
  pub functions : wanted.functions ≡ functions_by_name k.functions
  pub overrides : wanted.overrides ≡ overriding k given
  pub needed : (name : Text) → (wanted.needed name ≡ true) ↔ IsNeeded k given es name
  pub lists : wanted.lists ≡ on

-- what is set says that values are lists
abbrev pub is_lists : Setting → Bool
is_lists (setting.Lists on) = on
is_lists _ = false

abbrev pub sets_lists : List Set → Bool
sets_lists = list_any (λ (s : Set). is_lists s.value)

-- the question for the constants of a module
abbrev pub AsksConstants : Layers → Contents → Wanted → Type 0
AsksConstants layers m = AsksFor (known_of layers.syntax m) layers.overrides (constant_expressions m) (sets_lists m.sets)

-- the functions of a module, as an evaluation is asked about them
abbrev pub functions_asked : Contents → Functions
functions_asked m = functions_by_name (functions_under (map bare_function m.functions))

-- The values of the constants of a module.
pub record AreConstants (layers : Layers) (m : Contents) (values : Values) : Type 0 where
  pub wanted : Wanted
  pub asked : AsksConstants layers m wanted
  pub answered : layers.evaluator.constants wanted ≡ Some values

-- the settings of a module whose constants have these values, and the value of an expression there; none where one has no value
abbrev pub settings_among : Layers → Contents → Values → Option Settings
settings_among layers m values = layers.evaluator.settings (functions_asked m) values (map bare_set m.sets)

abbrev pub value_among : Evaluator → Contents → Values → Expression → Option (List Text)
value_among evaluator m values e = evaluator.value (functions_asked m) values (bare e)

-- the text that a value is: its texts with a blank between them, and none where it has none
abbrev pub text_of_value : List Text → Option Text
text_of_value [] = None
text_of_value (text ∷ texts) = Some (joined (codes " ") (text ∷ texts))

-- What a module's constants and its settings come to.
pub record Evaluated : Type 0 where
  pub constants : Values
  pub settings : Settings

pub record IsEvaluated (layers : Layers) (m : Contents) (it : Evaluated) : Type 0 where
  pub constants : AreConstants layers m it.constants
  pub settings : settings_among layers m it.constants ≡ Some it.settings

-- A name in a setting is at fault, a constant that is needed has no value, or the settings have none.
pub data BreaksConstants (layers : Layers) (m : Contents) : Cause → Type 0 where
  in_setting : {e : Expression} {c : Cause} → Contains (settings_expressions m) e → Misnames (known_of layers.syntax m) none_hidden e c → BreaksConstants layers m c
  constants_fault : {wanted : Wanted} {place : Place} {fault : Fault} → AsksConstants layers m wanted → layers.evaluator.constants wanted ≡ None
      → BreaksConstants layers m (Broken place (kind.Evaluate fault))
  settings_fault : {values : Values} {place : Place} {fault : Fault} → AreConstants layers m values → settings_among layers m values ≡ None
      → BreaksConstants layers m (Broken place (kind.Evaluate fault))

-- A name in the doc of a module that is declared is at fault, or it has no value.
pub data BreaksDocs (answers : SyntaxAnswers) (evaluator : Evaluator) (m : Contents) (values : Values) : Cause → Type 0 where
  in_doc : {e : Expression} {c : Cause} → Contains m.docs e → Misnames (known_of answers m) none_hidden e c → BreaksDocs answers evaluator m values c
  doc_fault : {e : Expression} {place : Place} {fault : Fault} → Contains m.docs e → value_among evaluator m values e ≡ None
      → BreaksDocs answers evaluator m values (Broken place (kind.Evaluate fault))

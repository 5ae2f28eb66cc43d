-- What the rules read of a module.
use Rattle.std.specs.Prelude.{List, [], ◌++◌, map}
use Rattle.just_names.specs.Texts.{Text}
use Rattle.just_names.specs.Name.{text_of_name}
use Rattle.just_names.specs.declared.name.Name.{Name}
use Rattle.just_names.specs.declared.name.Namepath.{Namepath}
use Rattle.just_ast_definitions.specs.declared.alias.Alias.{Alias}
use Rattle.just_ast_definitions.specs.declared.assignment.Assignment.{Assignment}
use Rattle.just_ast_expressions.specs.declared.expression.Expression.{Expression}
use Rattle.just_ast_definitions.specs.declared.function_definition.FunctionDefinition.{FunctionDefinition}
use Rattle.just_ast_expressions.specs.declared.list_use.ListUse.{ListUse}
use Rattle.just_ast_definitions.specs.declared.setting.Set.{Set}
use Rattle.just_names.specs.Index.{texts_of_names}
use Rattle.just_errors.specs.declared.compile_error.Definition.{Definition}
use Rattle.just_errors.specs.declared.compile_error.Definition.TheVariants as definition
use Rattle.just_recipe.specs.declared.dependency.UnresolvedDependency.{UnresolvedDependency}
use Rattle.just_recipe.specs.declared.recipe.Recipe.{Recipe}
use Rattle.just_module_contents.specs.declared.definitions.Naming.{Naming}
use Rattle.just_module_contents.specs.declared.definitions.Naming.TheVariants as naming

-- The recipes, the functions, the variables and the aliases of a module, the names of the modules that it declares, what is defined under a name beside recipes, what the docs of its modules are evaluated from, the names of the variables that it unexports, what it sets, and where it needs lists, in the order of its files and then of their texts.
pub record Contents : Type 0 where
  pub recipes : List (Recipe UnresolvedDependency)
  pub functions : List FunctionDefinition
  pub variables : List Assignment
  pub aliases : List (Alias Namepath)
  pub modules : List Name
  pub named : List Naming
  pub docs : List Expression
  pub unexports : List Name
  pub sets : List Set
  pub lists : List ListUse

-- What the rules read of a function: its name, and those of its parameters.
pub record Signature : Type 0 where
  pub name : Name
  pub parameters : List Name

abbrev pub signature : FunctionDefinition → Signature
signature f = record { name = f.name; parameters = map (λ p. p.name) f.parameters }

abbrev pub signatures : List FunctionDefinition → List Signature
signatures = map signature

-- the names of functions
abbrev pub function_names : List Signature → List Name
function_names = map (λ s. s.name)

-- the texts of the names of a module's functions
abbrev pub function_texts : Contents → List Text
function_texts m = texts_of_names (function_names (signatures m.functions))

-- the names of variables
abbrev pub variable_names : List Assignment → List Name
variable_names = map (λ (a : Assignment). a.name)

-- the same contents, with more that needs lists
abbrev pub with_lists : Contents → List ListUse → Contents
with_lists m uses = record m { lists = m.lists ++ uses }

-- of a module without files
abbrev pub no_contents : Contents
no_contents = record { recipes = []; functions = []; variables = []; aliases = []; modules = []; named = []; docs = []; unexports = []; sets = []; lists = [] }

-- What is defined, and its name.
pub record Defined : Type 0 where
  pub sort : Definition
  pub name : Name

abbrev pub defined : Definition → Name → Defined
defined sort name = record { sort = sort; name = name }

-- what is defined under a name beside recipes
abbrev pub defined_naming : Naming → Defined
defined_naming (naming.Alias name) = defined definition.Alias name
defined_naming (naming.Module name) = defined definition.Module name

abbrev pub defined_recipe : Recipe UnresolvedDependency → Defined
defined_recipe recipe = defined definition.Recipe recipe.name

-- what is defined in the name space of modules, aliases and recipes: the modules and the aliases, then the recipes
abbrev pub all_defined : List Naming → List (Recipe UnresolvedDependency) → List Defined
all_defined named recipes = map defined_naming named ++ map defined_recipe recipes

abbrev pub defined_in : Contents → List Defined
defined_in m = all_defined m.named m.recipes

-- the texts of their names
abbrev pub texts_of_defined : List Defined → List Text
texts_of_defined = map (λ (d : Defined). text_of_name d.name)

-- the texts of the names of modules and aliases
abbrev pub texts_of_named : List Naming → List Text
texts_of_named named = texts_of_defined (map defined_naming named)

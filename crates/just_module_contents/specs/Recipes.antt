-- What the rules read of a module's recipes.
use Rattle.std.specs.Prelude.{◌≡◌, ℕ, ◌<◌, Bool, true, false, ◌&&◌, not, is_some, List, [], ◌∷◌, map, length, get_or, None, if◌then◌else◌}
use Rattle.std.specs.List.{Contains}
use Rattle.std.specs.Borrow.{Bor}
use Rattle.just_names.specs.Name.{text_of_name, texts_of_path}
use Rattle.just_ast_definitions.specs.Parameter.{is_option, is_required, least_arguments, most_arguments}
use Rattle.just_ast_definitions.specs.declared.parameter.Parameter.{Parameter}
use Rattle.just_names.specs.Number.{no_number}
use Rattle.just_names.specs.declared.name.Name.{Name}
use Rattle.just_names.specs.declared.name.Namepath.{Namepath}
use Rattle.just_parts.specs.Bare.{bare_item}
use Rattle.just_names.specs.Token.{Place}
use Rattle.just_recipe.specs.declared.dependency.UnresolvedDependency.{UnresolvedDependency}
use Rattle.just_recipe.specs.declared.recipe.Recipe.{Recipe}
use Rattle.just_parts.specs.Items.{Item}
use Rattle.just_ast_items.specs.declared.item.Item.TheVariants as item

-- the token of a recipe's name, its text, and its line
abbrev pub token_of : Recipe UnresolvedDependency → Place
token_of recipe = recipe.name.token

abbrev pub name_of_recipe : Recipe UnresolvedDependency → List ℕ
name_of_recipe recipe = text_of_name recipe.name

abbrev pub line_of : Recipe UnresolvedDependency → ℕ
line_of recipe = recipe.name.token.line

-- its parameters by their names, and the texts of these
abbrev pub named_parameters : Recipe UnresolvedDependency → List Name
named_parameters recipe = map (λ p. p.name) recipe.parameters

abbrev pub parameter_names : Recipe UnresolvedDependency → List (List ℕ)
parameter_names recipe = map (λ p. text_of_name p.name) recipe.parameters

-- it is given by its place and has a default
abbrev pub is_defaulted : Parameter → Bool
is_defaulted p = not (is_option p) && is_some p.default

-- it is given by its place, and its group may not be empty
abbrev pub is_needed : Parameter → Bool
is_needed p = not (is_option p) && is_required p

-- The parameter at a place needs a word, and one before it has a default; both are given by their places.
pub record FollowsDefault (parameters : List Parameter) (place : ℕ) : Type 0 where
  pub before : ℕ
  pub earlier : before < place
  pub defaulted : get_or (map is_defaulted parameters) before false ≡ true
  pub needed : get_or (map is_needed parameters) place false ≡ true

-- its dependencies by their paths, and the texts of these
abbrev pub named_paths : Recipe UnresolvedDependency → List Namepath
named_paths recipe = map (λ d. d.recipe) recipe.dependencies

abbrev pub dependency_paths : Recipe UnresolvedDependency → List (List (List ℕ))
dependency_paths recipe = map (λ d. texts_of_path d.recipe) recipe.dependencies

-- how many arguments it takes at least and at most, the latter where values are lists or not
abbrev pub least_of : Recipe UnresolvedDependency → ℕ
least_of recipe = least_arguments recipe.parameters

abbrev pub most_of : Bool → Recipe UnresolvedDependency → ℕ
most_of lists recipe = most_arguments lists recipe.parameters

-- the recipes of the enabled items, in the order of the text, without those of other files
abbrev pub recipes_of : (Item → Bool) → List Item → List (Recipe UnresolvedDependency)
recipes_of enabled [] = []
recipes_of enabled (item.Recipe r ∷ items) = if enabled (bare_item (item.Recipe r)) then r ∷ recipes_of enabled items else recipes_of enabled items
recipes_of enabled (_ ∷ items) = recipes_of enabled items

-- the recipes of items
abbrev pub recipes_said : List Item → List (Recipe UnresolvedDependency)
recipes_said [] = []
recipes_said (item.Recipe r ∷ items) = r ∷ recipes_said items
recipes_said (_ ∷ items) = recipes_said items

-- what is borrowed
abbrev pub lent : {A : Type 0} → List (Bor A) → List A
lent = map (λ r. r.now)

-- what is read where there is no recipe
abbrev pub no_recipe : Recipe UnresolvedDependency
no_recipe = record {
  attributes = [];
  body = [];
  dependencies = [];
  doc = None;
  file_depth = 0;
  import_offsets = [];
  name = record { token = record { line = 0; column = 0; offset = 0; length = 0; path = []; src = [] } };
  number = no_number;
  parameters = [];
  priors = 0;
  private = false;
  quiet = false;
  shebang = false;
  module_path = None;
  recipe_path = None;
  variable_references = [];
}

-- the recipe at a place
abbrev pub recipe_at : List (Recipe UnresolvedDependency) → ℕ → Recipe UnresolvedDependency
recipe_at recipes i = get_or recipes i no_recipe

-- the names of recipes
abbrev pub names_of : List (Recipe UnresolvedDependency) → List (List ℕ)
names_of = map name_of_recipe

-- Recipe a depends on recipe b: one of its dependencies is b's name.
pub record Depends (recipes : List (Recipe UnresolvedDependency)) (a b : ℕ) : Type 0 where
  pub dependent : a < length recipes
  pub there : b < length recipes
  pub names : Contains (dependency_paths (recipe_at recipes a)) (name_of_recipe (recipe_at recipes b) ∷ [])

-- the same by names
pub record DependsOnRecipe (recipes : List (Recipe UnresolvedDependency)) (dependent name : List ℕ) : Type 0 where
  pub from : ℕ
  pub to : ℕ
  pub step : Depends recipes from to
  pub dependent_is : name_of_recipe (recipe_at recipes from) ≡ dependent
  pub name_is : name_of_recipe (recipe_at recipes to) ≡ name

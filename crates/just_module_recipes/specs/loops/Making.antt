-- What private functions say beside `Making.antt`.
use Rattle.std.specs.Prelude.{◌≡◌, ◌↔◌, ℕ, ◌<◌, Bool, true, false, List, [], ◌∷◌, ◌++◌, flat_map, length, get_or, slice_index, take, Option, None, Some, IsSome}
use Rattle.std.specs.BTreeSet.{BTreeSet}
use Rattle.std.specs.List.{All, Contains}
use Rattle.just_ast_definitions.specs.declared.parameter.Parameter.{Parameter}
use Rattle.just_justfile.specs.declared.disabled.Disabled.{Disabled}
use Rattle.just_module_contents.specs.Recipes.{name_of_recipe, recipe_at}
use Rattle.just_module_contents.specs.Resolved.{path_to}
use Rattle.just_module_contents.specs.Rules.{IsOutside}
use Rattle.just_module_recipes.specs.Links.{Around, Disables, Takes}
use Rattle.just_module_recipes.specs.Rows.{keys_at}
use Rattle.just_module_recipes.specs.declared.targets.Target.{Target}
use Rattle.just_module_recipes.specs.declared.targets.Target.TheVariants.{Near, Far, Gone}
use Rattle.just_names.specs.Number.{no_number}
use Rattle.just_names.specs.declared.number.Number.{Number}
use Rattle.just_paths.specs.declared.modulepath.Modulepath.{Modulepath}
use Rattle.just_recipe.specs.Grouping.{grouped}
use Rattle.just_recipe.specs.Recipes.{find_number, numbers}
use Rattle.just_recipe.specs.Resolved.{resolved}
use Rattle.just_recipe.specs.Starred.{has_star}
use Rattle.just_recipe.specs.declared.dependency.Dependency.{Dependency}
use Rattle.just_recipe.specs.declared.dependency.UnresolvedDependency.{UnresolvedDependency}
use Rattle.just_recipe.specs.declared.recipe.Recipe.{Recipe}

-- The sets at places are exactly the paths that disable the recipes there.
pub record AreExact (recipes : List (Recipe UnresolvedDependency)) (it : Around) (sets : List (BTreeSet Modulepath)) : Type 0 where
  pub count : length sets ≡ length recipes
  pub exact : (i : ℕ) → i < length recipes → (path : Modulepath) → Contains (keys_at sets i) path ↔ Disables recipes it (name_of_recipe (recipe_at recipes i)) path

-- the recipe that a target is can be read
abbrev pub IsThere : List (Recipe UnresolvedDependency) → List (Recipe Dependency) → Target → Type 0
IsThere recipes held (Near place) = place < length recipes
IsThere recipes held (Far number) = IsSome (find_number held number.0)
IsThere recipes held (Gone set) = ⊥

-- the number of the recipe that a target is
abbrev pub target_number : List (Recipe UnresolvedDependency) → Target → Number
target_number recipes (Near place) = (recipe_at recipes place).number
target_number recipes (Far number) = number
target_number recipes (Gone set) = no_number

-- its parameters
abbrev pub parameters_in : Option (Recipe Dependency) → List Parameter
parameters_in None = []
parameters_in (Some r) = r.parameters

abbrev pub parameters_of : List (Recipe UnresolvedDependency) → List (Recipe Dependency) → Target → List Parameter
parameters_of recipes held (Near place) = (recipe_at recipes place).parameters
parameters_of recipes held (Far number) = parameters_in (find_number held number.0)
parameters_of recipes held (Gone set) = []

-- A dependency keeps the rules that are asked of those that stand: no starred argument where values are no lists, and as many arguments as are taken.
pub record IsGiven (lists : Bool) (recipes : List (Recipe UnresolvedDependency)) (it : Around) (d : UnresolvedDependency) : Type 0 where
  pub star : lists ≡ false → has_star d.arguments ≡ true → ⊥
  pub count : (least most : ℕ) → Takes lists recipes it d.recipe least most → IsOutside (length d.arguments) least most → ⊥

-- so do those of the recipe at a place
abbrev pub AreGivenAt : Bool → List (Recipe UnresolvedDependency) → Around → ℕ → Type 0
AreGivenAt lists recipes it place = All (IsGiven lists recipes it) (recipe_at recipes place).dependencies

-- and those of the first n recipes that stand
abbrev pub AreGivenSets : Bool → List (Recipe UnresolvedDependency) → Around → List (BTreeSet Modulepath) → ℕ → Type 0
AreGivenSets lists recipes it sets n = (i : ℕ) → i < n → keys_at sets i ≡ [] → AreGivenAt lists recipes it i

module _ (lists : Bool) (recipes : List (Recipe UnresolvedDependency)) (held : List (Recipe Dependency)) where
  -- a dependency with the number of what it leads to, and its arguments in groups
  abbrev pub link_of : UnresolvedDependency → Target → Dependency
  link_of d t = record { arguments = grouped lists (parameters_of recipes held t) d.arguments; path = d.recipe; recipe = target_number recipes t }

  abbrev pub links_of : List UnresolvedDependency → List Target → List Dependency
  links_of [] ts = []
  links_of (d ∷ ds) [] = []
  links_of (d ∷ ds) (t ∷ ts) = link_of d t ∷ links_of ds ts

-- what recipes are completed by, with the numbers of what each needs
module _ (by : Recipe UnresolvedDependency → Recipe UnresolvedDependency) (needed : List (List Number)) (lists : Bool) (recipes : List (Recipe UnresolvedDependency)) (held : List (Recipe Dependency)) where
  -- what is made of a recipe
  abbrev pub made_of : Modulepath → Recipe UnresolvedDependency → List Number → List Target → Recipe Dependency
  made_of path r numbers row = record (resolved (by r) (links_of lists recipes held (by r).dependencies row) path (path_to path (name_of_recipe r))) { variable_references = numbers }

  -- the same where no path disables it
  abbrev pub settled_of : Modulepath → List Target → List Modulepath → ℕ → List (Recipe Dependency)
  settled_of path row [] i = made_of path (recipe_at recipes i) (get_or needed i []) row ∷ []
  settled_of path row (p ∷ ps) i = []

  -- what is made of an order
  abbrev pub made : Modulepath → List (List Target) → List (BTreeSet Modulepath) → List ℕ → List (Recipe Dependency)
  made path rows sets order = flat_map (λ i. settled_of path (get_or rows i []) (keys_at sets i) i) order

-- where nothing disables a recipe, the recipes that it depends on can be read
abbrev pub AreAllThere : List (Recipe UnresolvedDependency) → List (Recipe Dependency) → List (List Target) → List (BTreeSet Modulepath) → Type 0
AreAllThere recipes held rows sets = (k : ℕ) → k < length rows → keys_at sets k ≡ [] → All (IsThere recipes held) (get_or rows k [])

-- What is made so far, of the first n of an order.
pub record SoFar (by : Recipe UnresolvedDependency → Recipe UnresolvedDependency) (needed : List (List Number)) (lists : Bool) (recipes : List (Recipe UnresolvedDependency)) (path : Modulepath) (rows : List (List Target)) (sets : List (BTreeSet Modulepath)) (order : List ℕ) (n : ℕ) (old new : List (Recipe Dependency)) : Type 0 where
  pub new_is : new ≡ old ++ made by needed lists recipes old path rows sets (take n order)
  pub held : (k : ℕ) → k < n → keys_at sets (slice_index order k) ≡ [] → Contains (numbers new) (recipe_at recipes (slice_index order k)).number.0

abbrev pub fallen_by : BTreeSet Modulepath → List Modulepath → Recipe UnresolvedDependency → List Disabled
fallen_by set [] r = []
fallen_by set (p ∷ ps) r = record { name = r.name; modules = set } ∷ []

abbrev pub fallen : List (BTreeSet Modulepath) → List (Recipe UnresolvedDependency) → List Disabled
fallen [] rs = []
fallen (s ∷ ss) [] = []
fallen (s ∷ ss) (r ∷ rs) = fallen_by s s.keys r ++ fallen ss rs

-- How a whole module is written.
use Rattle.std.specs.Prelude.{ℕ, Bool, true, false, List, [], ◌∷◌, ◌++◌, map, Option}
use Rattle.std.specs.List.{filter_map}
use Rattle.std.specs.Map.{values_of}
use Rattle.std.specs.Option.{option_map}
use Rattle.just_ast_definitions.specs.DefinitionTexts.{alias_text, assignment_text, text_if}
use Rattle.just_ast_definitions.specs.declared.alias.Alias.{Alias}
use Rattle.just_ast_definitions.specs.declared.assignment.Assignment.{Assignment}
use Rattle.just_names.specs.Name.{texts_of_path}
use Rattle.just_names.specs.Texts.{Text, joined, text_of}
use Rattle.just_names.specs.Token.{lexeme}
use Rattle.just_names.specs.declared.number.Number.{Number}
use Rattle.just_recipe.specs.RecipeTexts.{dependency_text, each_after, recipe_text}
use Rattle.just_recipe.specs.Recipes.{arguments_of, find_number}
use Rattle.just_recipe.specs.declared.dependency.Dependency.{Dependency}
use Rattle.just_recipe.specs.declared.recipe.Recipe.{Recipe}
use Rattle.just_justfile.specs.Closed.{HeldRecipes, resolved_name}
use Rattle.just_justfile.specs.declared.justfile.Justfile.{Justfile, out-Justfile}
use Rattle.just_listings.specs.Public.{own_recipes}

-- the end of a line, and an empty line
abbrev pub empty_line : Text
empty_line = 10 ∷ (10 ∷ [])

-- an alias of a recipe that is held, with the name of that recipe
abbrev pub alias_shown : HeldRecipes → Alias Number → Option Text
alias_shown recipes alias = alias_text (lexeme alias.name.token) (option_map resolved_name (find_number recipes alias.target.0))

-- a dependency by its path, and a recipe with such dependencies
abbrev pub dependency_shown : Dependency → Text
dependency_shown d = dependency_text (text_of (texts_of_path d.path) false) (arguments_of d)

abbrev pub recipe_shown : Recipe Dependency → Text
recipe_shown r = recipe_text r (map dependency_shown r.dependencies)

-- the variables of a module, its aliases of recipes, and its recipes, each in the order of names
abbrev pub variables_shown : Justfile → List Text
variables_shown j = map (λ (a : Assignment). assignment_text a) (values_of (out-Justfile j).assignments)

abbrev pub alias_lines : HeldRecipes → Justfile → List Text
alias_lines recipes j = filter_map (alias_shown recipes) (values_of (out-Justfile j).aliases.recipes)

abbrev pub recipes_shown : HeldRecipes → Justfile → List Text
recipes_shown recipes j = map recipe_shown (own_recipes recipes j)

-- The text of a module: its variables, then its aliases, then its recipes, with an empty line between any two.
abbrev pub shown_text : HeldRecipes → Justfile → Text
shown_text recipes j = joined empty_line (variables_shown j ++ (alias_lines recipes j ++ recipes_shown recipes j))

-- the same texts where others stand before them, and where none does
abbrev pub shown_after : Bool → List Text → Text
shown_after true texts = each_after empty_line texts
shown_after false texts = joined empty_line texts

-- whether a text stands there then
abbrev pub stands_after : Bool → List Text → Bool
stands_after before [] = before
stands_after before (x ∷ xs) = true

-- what stands before a text: an empty line, unless it is the first
abbrev pub gap_after : Bool → Text
gap_after before = text_if before empty_line

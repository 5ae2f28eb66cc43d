-- Which of several definitions of one name are kept.
use Rattle.std.specs.Prelude.{Bool, not, ◌&&◌, ◌||◌, ltb, nat_eq, List, [], ◌∷◌, map, if◌then◌else◌}
use Rattle.std.specs.List.{list_any}
use Rattle.std.specs.Str.{bytes_eq}
use Rattle.just_names.specs.Name.{text_of_name}
use Rattle.just_ast_definitions.specs.declared.assignment.Assignment.{Assignment}
use Rattle.just_recipe.specs.declared.dependency.UnresolvedDependency.{UnresolvedDependency}
use Rattle.just_recipe.specs.declared.recipe.Recipe.{Recipe}
use Rattle.just_module_contents.specs.Recipes.{name_of_recipe}
use Rattle.just_module_contents.specs.declared.precedence.Claim.{Claim}

-- another definition of the same name lies at a smaller depth, or at the same
abbrev pub lies_above : Claim → Claim → Bool
lies_above c other = bytes_eq other.name c.name && ltb other.depth c.depth

abbrev pub lies_beside : Claim → Claim → Bool
lies_beside c other = bytes_eq other.name c.name && nat_eq other.depth c.depth

-- it gives way: one of its name among all lies at a smaller depth, or one of those after it at the same
abbrev pub gives_way : List Claim → List Claim → Claim → Bool
gives_way all later c = list_any (lies_above c) all || list_any (lies_beside c) later

-- those of a list that do not, among all
abbrev pub left_of : {A : Type 0} → (A → Claim) → List A → List A → List A
left_of claim all [] = []
left_of claim all (x ∷ xs) = if gives_way (map claim all) (map claim xs) (claim x) then left_of claim all xs else x ∷ left_of claim all xs

-- what is kept: of the definitions of one name those of least depth, and of these the last
abbrev pub kept : {A : Type 0} → (A → Claim) → List A → List A
kept claim xs = left_of claim xs xs

-- the name of a recipe or a variable, with the depth of its file
abbrev pub claim_of_recipe : Recipe UnresolvedDependency → Claim
claim_of_recipe r = record { name = name_of_recipe r; depth = r.file_depth }

abbrev pub claim_of_variable : Assignment → Claim
claim_of_variable a = record { name = text_of_name a.name; depth = a.file_depth }

-- the recipes, and the variables, that are kept
abbrev pub kept_recipes : List (Recipe UnresolvedDependency) → List (Recipe UnresolvedDependency)
kept_recipes = kept claim_of_recipe

abbrev pub kept_variables : List Assignment → List Assignment
kept_variables = kept claim_of_variable

-- What a justfile is made of.
use Rattle.std.proofs.Common.{◌≡◌, ◌∙◌, ℕ, List, subst}
use Rattle.just_recipe.specs.declared.dependency.UnresolvedDependency.{UnresolvedDependency}
use Rattle.just_recipe.specs.declared.recipe.Recipe.{Recipe}
use Rattle.just_parts.specs.Items.{Ast}
use Rattle.just_justfile.specs.declared.justfile.Justfile.{Justfile, out-Justfile}
use Rattle.just_justfile.specs.declared.justfile.RecipeKey.{RecipeKey}
use Rattle.just_compiled.specs.Analysis.{IsOf, recipe_table}
use Rattle.just_module_contents.specs.Contents.{Contents}
use Rattle.just_module_aliases.specs.Aliased.{aliases_of, targets_of}

-- a justfile, by its parts
pub is_of : (m : Contents) (standing : List (Recipe UnresolvedDependency)) (ast : Ast) (loaded : List (List ℕ)) (source : List ℕ) (j : Justfile)
    → (keys : List (List ℕ × RecipeKey)) → (out-Justfile j).recipes ≡ keys → keys ≡ recipe_table standing → (out-Justfile j).aliases ≡ aliases_of (targets_of j) m.aliases
    → (out-Justfile j).unexports ≡ m.unexports → (out-Justfile j).loaded ≡ loaded → (out-Justfile j).source ≡ source → (out-Justfile j).module_path ≡ ast.module_path
    → (out-Justfile j).working_directory ≡ ast.working_directory → IsOf m standing ast loaded source j
is_of m standing ast loaded source j keys keys_are all aliases unexports loaded_is source_is path folder = record {
  recipes_are = keys_are ∙ all;
  aliases_are = aliases;
  unexports_are = unexports;
  loaded_is = loaded_is;
  source_is = source_is;
  module_path = path;
  working_directory = folder;
}

-- the same of equal contents, lists and paths
pub is_of_same : (m n : Contents) (standing : List (Recipe UnresolvedDependency)) (ast : Ast) (loaded loaded' : List (List ℕ)) (source source' : List ℕ) (j : Justfile) → m ≡ n → loaded ≡ loaded' → source ≡ source' → IsOf m standing ast loaded source j → IsOf n standing ast loaded' source' j
is_of_same m n standing ast loaded loaded' source source' j same lists paths is =
    subst (λ (c : Contents). IsOf c standing ast loaded' source' j) same (subst (λ l. IsOf m standing ast l source' j) lists (subst (λ s. IsOf m standing ast loaded s j) paths is))

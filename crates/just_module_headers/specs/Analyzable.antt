-- What can be analyzed.
use Rattle.std.specs.Prelude.{◌≡◌, ℕ, Bool, true, List, map, Option, Some, IsSome}
use Rattle.std.specs.List.{All, Contains}
use Rattle.just_graph.specs.Steps.{IsOnce}
use Rattle.just_parts.specs.Asts.{AstKey}
use Rattle.just_names.specs.Texts.{Text}
use Rattle.just_parts.specs.Bare.{bare_item}
use Rattle.just_parts.specs.Items.{Ast, Item}
use Rattle.just_module_contents.specs.Said.{said}
use Rattle.just_ast_definitions.specs.declared.assignment.Assignment.{Assignment}
use Rattle.just_module_headers.specs.Files.{keys_led_to}
use Rattle.just_module_contents.specs.Named.{variable_by}
use Rattle.just_module_contents.specs.Recipes.{recipes_of}
use Rattle.just_module_contents.specs.Resolved.{HasPriors, unresolved_numbers}

-- a table of paths has the file of each key
abbrev pub TableHasPaths : (AstKey → Option Ast) → (Text → Option Text) → Type 0
TableHasPaths asts paths = (k : AstKey) → IsSome (asts k) → IsSome (paths k.1)

-- the numbers of variables
abbrev pub assignment_numbers : List Assignment → List ℕ
assignment_numbers = map (λ (a : Assignment). a.number.0)

-- Asts hold every key that an enabled item leads to, each under the path of its module; no two recipes have one number, nor have two variables, and no recipe has more priors than dependencies.
pub record AreAnalyzable (enabled : Item → Bool) (asts : AstKey → Option Ast) : Type 0 where
  pub closed : (k : AstKey) (ast : Ast) (i : Item) (inside : Bool) (l : AstKey) → asts k ≡ Some ast → Contains ast.items i → enabled (bare_item i) ≡ true → Contains (keys_led_to inside ast.module_path i) l → IsSome (asts l)
  pub paths : (k : AstKey) (ast : Ast) → asts k ≡ Some ast → ast.module_path ≡ k.0
  pub once : (k : AstKey) (ast : Ast) → asts k ≡ Some ast → IsOnce (unresolved_numbers (recipes_of enabled ast.items))
  pub apart : (k l : AstKey) (a b : Ast) (m : ℕ) → asts k ≡ Some a → asts l ≡ Some b → (k ≡ l → ⊥) → Contains (unresolved_numbers (recipes_of enabled a.items)) m → Contains (unresolved_numbers (recipes_of enabled b.items)) m → ⊥
  pub priors : (k : AstKey) (ast : Ast) → asts k ≡ Some ast → All HasPriors (recipes_of enabled ast.items)
  pub variables_once : (k : AstKey) (ast : Ast) → asts k ≡ Some ast → IsOnce (assignment_numbers (said variable_by enabled ast.items))
  pub variables_apart : (k l : AstKey) (a b : Ast) (m : ℕ) → asts k ≡ Some a → asts l ≡ Some b → (k ≡ l → ⊥) → Contains (assignment_numbers (said variable_by enabled a.items)) m → Contains (assignment_numbers (said variable_by enabled b.items)) m → ⊥

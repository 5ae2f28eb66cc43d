-- What a run asks of compiled modules and recipes.
use Rattle.std.specs.Prelude.{◌≡◌, ◌↔◌, true, List, map, Some}
use Rattle.std.proofs.Common.{BuildHasherDefault, FoldHasher}
use Rattle.std.specs.HashMap.{HashMap}
use Rattle.std.specs.List.{Contains}
use Rattle.just_ast_definitions.specs.declared.assignment.Assignment.{Assignment}
use Rattle.just_names.specs.Index.{texts_of_names}
use Rattle.just_names.specs.Texts.{Text}
use Rattle.just_names.specs.declared.number.Number.{Number}
use Rattle.just_parts.specs.Known.{Known, sources}
use Rattle.just_parts.specs.Needs.{IsNumberIn, Needs, has_number, overridden_by}
use Rattle.just_parts.specs.Reading.{IsEvaluationOrder, Reads}
use Rattle.just_parts.specs.Scopes.{Scoped, scopes_of}
use Rattle.just_parts.specs.Syntax.{SyntaxAnswers}
use Rattle.just_recipe.specs.Recipes.{arguments_of}
use Rattle.just_recipe.specs.declared.dependency.Dependency.{Dependency}
use Rattle.just_recipe.specs.declared.recipe.Recipe.{Recipe}
use Rattle.just_table.specs.Entries.{find}
use Rattle.just_justfile.specs.Closed.{IsRooted, StandsIn}
use Rattle.just_justfile.specs.declared.justfile.Justfile.{Justfile, out-Justfile}

-- the variables and the functions of a module
abbrev pub known_by_tables : Justfile → Known
known_by_tables j = sources (out-Justfile j).assignments (out-Justfile j).functions

-- A recipe reads a variable of a module: one of its expressions does, where the names that are hidden in its scope are left out.
pub record IsReadBy (answers : SyntaxAnswers) (j : Justfile) (r : Recipe Dependency) (name : Text) : Type 0 where
  pub from : Scoped
  pub there : Contains (scopes_of arguments_of answers (out-Justfile j).settings r) from
  pub reads : Reads (known_by_tables j) from.hidden from.expression name

-- what is needed of a module, from a start: what a variable reads too, unless the analysis saw it as overridden
abbrev pub NeedsIn : Justfile → (Text → Type 0) → Text → Type 0
NeedsIn j = Needs (known_by_tables j) (overridden_by (has_number (out-Justfile j).overridden) (known_by_tables j))

-- a recipe has the numbers of exactly the variables of its module that it needs
abbrev pub HasNeeds : SyntaxAnswers → Justfile → Recipe Dependency → Type 0
HasNeeds answers j r = (n : Number) → Contains r.variable_references n ↔ IsNumberIn (known_by_tables j) (NeedsIn j (IsReadBy answers j r)) n

-- No two variables of modules that stand in one have one number: where two have, they are one variable of one module, by its path and by the name.
abbrev pub HaveOwnNumbers : Justfile → Type 0
HaveOwnNumbers root = (i j : Justfile) (x y : Text) (a b : Assignment) → StandsIn root i → StandsIn root j
    → find x (out-Justfile i).assignments ≡ Some a → find y (out-Justfile j).assignments ≡ Some b → a.number ≡ b.number
    → ((out-Justfile i).module_path ≡ (out-Justfile j).module_path) × (x ≡ y)

-- The root with these recipes can run under a grammar: it is rooted, each module that stands in it has an order in which its variables are evaluated, no two variables have one number, and each recipe has the numbers of what it needs of its module.
pub record CanRun (answers : SyntaxAnswers) (root : Justfile) (recipes : List (Recipe Dependency)) : Type 0 where
  pub rooted : IsRooted root recipes
  pub ordered : (j : Justfile) → StandsIn root j → IsEvaluationOrder (known_by_tables j) (texts_of_names (out-Justfile j).evaluation_order)
  pub numbers : HaveOwnNumbers root
  pub needs : (j : Justfile) (r : Recipe Dependency) → StandsIn root j → Contains recipes r → r.module_path ≡ Some (out-Justfile j).module_path → HasNeeds answers j r

-- some values override all that the analysis saw as overridden
abbrev pub HoldsOverridden : {V : Type 0} → Justfile → HashMap Number V (BuildHasherDefault FoldHasher) → Type 0
HoldsOverridden root overrides = (j : Justfile) (n : Number) → StandsIn root j → has_number (out-Justfile j).overridden n ≡ true → has_number overrides n ≡ true

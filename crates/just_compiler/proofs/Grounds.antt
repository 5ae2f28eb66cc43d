-- The groups of rules that are kept before another.
use Rattle.std.proofs.Common.{arith, subst}
use Rattle.just_errors.specs.Causes.{Cause, Keeps}
use Rattle.just_parts.specs.Layers.{Layers}
use Rattle.just_module_variables.proofs.Once.{evaluated_once}
use Rattle.just_module_contents.specs.Constants.{BreaksDocs, Evaluated, IsEvaluated}
use Rattle.just_module_contents.specs.Contents.{Contents}
use Rattle.just_module_contents.specs.Groups.{BreaksBodiesAndDocs, Breaks, BreaksContents, KeepsBefore, KeepsContents, Links, OfAliases, OfBodies, OfConstants, OfDependencies, OfExpressions, OfHeaders, OfNames, OfRecipes, in_docs, in_bodies as in_body}
use Rattle.just_module_contents.specs.Rules.{BreaksBodies, WhereEvaluated, under}
use Rattle.just_module_recipes.specs.loops.Broken.{BreaksRecipes, in_aliases, in_bodies, in_dependencies, in_recipes}

module _ (layers : Layers) (links : Links) (m : Contents) (earlier : KeepsBefore layers links OfBodies m) where
  before_dependencies : Keeps (Breaks layers links OfBodies m) → KeepsBefore layers links OfDependencies m
  before_dependencies bodies OfBodies lt = bodies
  before_dependencies bodies OfHeaders lt = earlier OfHeaders (omega arith)
  before_dependencies bodies OfNames lt = earlier OfNames (omega arith)
  before_dependencies bodies OfExpressions lt = earlier OfExpressions (omega arith)
  before_dependencies bodies OfConstants lt = earlier OfConstants (omega arith)
  before_dependencies bodies OfDependencies lt = absurd (omega (arith, lt))
  before_dependencies bodies OfRecipes lt = absurd (omega (arith, lt))
  before_dependencies bodies OfAliases lt = absurd (omega (arith, lt))

  before_recipes : KeepsBefore layers links OfDependencies m → Keeps (Breaks layers links OfDependencies m) → KeepsBefore layers links OfRecipes m
  before_recipes before dependencies OfDependencies lt = dependencies
  before_recipes before dependencies OfBodies lt = before OfBodies (omega arith)
  before_recipes before dependencies OfHeaders lt = before OfHeaders (omega arith)
  before_recipes before dependencies OfNames lt = before OfNames (omega arith)
  before_recipes before dependencies OfExpressions lt = before OfExpressions (omega arith)
  before_recipes before dependencies OfConstants lt = before OfConstants (omega arith)
  before_recipes before dependencies OfRecipes lt = absurd (omega (arith, lt))
  before_recipes before dependencies OfAliases lt = absurd (omega (arith, lt))

  before_aliases : KeepsBefore layers links OfRecipes m → Keeps (Breaks layers links OfRecipes m) → KeepsBefore layers links OfAliases m
  before_aliases before recipes OfRecipes lt = recipes
  before_aliases before recipes OfDependencies lt = before OfDependencies (omega arith)
  before_aliases before recipes OfBodies lt = before OfBodies (omega arith)
  before_aliases before recipes OfHeaders lt = before OfHeaders (omega arith)
  before_aliases before recipes OfNames lt = before OfNames (omega arith)
  before_aliases before recipes OfExpressions lt = before OfExpressions (omega arith)
  before_aliases before recipes OfConstants lt = before OfConstants (omega arith)
  before_aliases before recipes OfAliases lt = absurd (omega (arith, lt))

  -- all groups are kept
  groups_kept : KeepsBefore layers links OfAliases m → Keeps (Breaks layers links OfAliases m) → KeepsContents layers links m
  groups_kept before aliases OfHeaders = before OfHeaders (omega arith)
  groups_kept before aliases OfNames = before OfNames (omega arith)
  groups_kept before aliases OfExpressions = before OfExpressions (omega arith)
  groups_kept before aliases OfConstants = before OfConstants (omega arith)
  groups_kept before aliases OfBodies = before OfBodies (omega arith)
  groups_kept before aliases OfDependencies = before OfDependencies (omega arith)
  groups_kept before aliases OfRecipes = before OfRecipes (omega arith)
  groups_kept before aliases OfAliases = aliases

-- what is kept of a module as it is evaluated, and what is broken
module _ (layers : Layers) (links : Links) (m : Contents) (it : Evaluated) (is : IsEvaluated layers m it) where
  under_kept : (broken : Evaluated → Cause → Type 0) → Keeps (broken it) → Keeps (WhereEvaluated (IsEvaluated layers m) broken)
  under_kept broken kept c (under {a} other b) = kept c (subst (λ (x : Evaluated). broken x c) (evaluated_once layers m a it other is) b)

  abbrev DocsKept : Type 0
  DocsKept = Keeps (BreaksDocs layers.syntax layers.evaluator m it.constants)

  both_kept : DocsKept → Keeps (BreaksBodies layers.syntax it.settings m) → Keeps (BreaksBodiesAndDocs layers m it)
  both_kept docs bodies c (in_docs b) = docs c b
  both_kept docs bodies c (in_body b) = bodies c b

  bodies_under : DocsKept → Keeps (BreaksBodies layers.syntax it.settings m) → Keeps (Breaks layers links OfBodies m)
  bodies_under docs bodies = under_kept (BreaksBodiesAndDocs layers m) (both_kept docs bodies)

  dependencies_under : Keeps (links layers it OfDependencies) → Keeps (Breaks layers links OfDependencies m)
  dependencies_under kept = under_kept (λ (x : Evaluated). links layers x OfDependencies) kept

  recipes_under : Keeps (links layers it OfRecipes) → Keeps (Breaks layers links OfRecipes m)
  recipes_under kept = under_kept (λ (x : Evaluated). links layers x OfRecipes) kept

  aliases_under : Keeps (links layers it OfAliases) → Keeps (Breaks layers links OfAliases m)
  aliases_under kept = under_kept (λ (x : Evaluated). links layers x OfAliases) kept

  module _ (earlier : KeepsBefore layers links OfBodies m) where
    first_kept : DocsKept → Keeps (BreaksBodies layers.syntax it.settings m) → KeepsBefore layers links OfDependencies m
    first_kept docs bodies = before_dependencies layers links m earlier (bodies_under docs bodies)

    then_kept : DocsKept → Keeps (BreaksBodies layers.syntax it.settings m) → Keeps (links layers it OfDependencies) → KeepsBefore layers links OfRecipes m
    then_kept docs bodies dependencies = before_recipes layers links m earlier (first_kept docs bodies) (dependencies_under dependencies)

    last_kept : DocsKept → Keeps (BreaksBodies layers.syntax it.settings m) → Keeps (links layers it OfDependencies) → Keeps (links layers it OfRecipes) → KeepsBefore layers links OfAliases m
    last_kept docs bodies dependencies recipes = before_aliases layers links m earlier (then_kept docs bodies dependencies) (recipes_under recipes)

    -- what is broken of recipes is broken of the module, where docs are kept
    pub recipes_broken : (told : Links) → DocsKept → (c : Cause) → BreaksRecipes layers it links told m c → BreaksContents layers links told m c
    recipes_broken told docs c (in_bodies b) = record { group = OfBodies; earlier = earlier; broken = under is (in_body b) }
    recipes_broken told docs c (in_dependencies bodies b) = record { group = OfDependencies; earlier = first_kept docs bodies; broken = under is b }
    recipes_broken told docs c (in_recipes bodies dependencies b) = record { group = OfRecipes; earlier = then_kept docs bodies dependencies; broken = under is b }
    recipes_broken told docs c (in_aliases bodies dependencies recipes b) = record { group = OfAliases; earlier = last_kept docs bodies dependencies recipes; broken = under is b }

    -- all groups are kept where both are
    pub all_kept : DocsKept → Keeps (BreaksRecipes layers it links links m) → KeepsContents layers links m
    all_kept docs kept =
        let bodies : Keeps (BreaksBodies layers.syntax it.settings m) = λ c b. kept c (in_bodies b) in
        let dependencies : Keeps (links layers it OfDependencies) = λ c b. kept c (in_dependencies bodies b) in
        let recipes : Keeps (links layers it OfRecipes) = λ c b. kept c (in_recipes bodies dependencies b) in
        groups_kept layers links m earlier (last_kept docs bodies dependencies recipes) (aliases_under (λ c b. kept c (in_aliases bodies dependencies recipes b)))

-- What is said of recipes on one basis is said of the same recipes on the same basis.
use Rattle.std.proofs.Common.{◌≡◌, ◌⊎◌, List, subst}
use Rattle.just_errors.specs.Causes.{Keeps, Reports}
use Rattle.just_errors.specs.declared.error.Error.{Error}
use Rattle.just_module_contents.specs.Standing.{InStanding}
use Rattle.just_module_recipes.specs.Completed.{TellsLinks}
use Rattle.just_module_recipes.specs.Linked.{AddsLinked}
use Rattle.just_module_recipes.specs.Links.{Around, Stands}
use Rattle.just_parts.specs.Evaluator.{Evaluator}
use Rattle.just_parts.specs.Syntax.{SyntaxAnswers}
use Rattle.just_paths.specs.declared.modulepath.Modulepath.{Modulepath}
use Rattle.just_recipe.specs.declared.dependency.Dependency.{Dependency}
use Rattle.just_recipe.specs.declared.dependency.UnresolvedDependency.{UnresolvedDependency}
use Rattle.just_recipe.specs.declared.recipe.Recipe.{Recipe}
use Rattle.just_recipe_resolution.specs.Basis.{Basis, BreaksOn, TellsOn, completion_on}
use Rattle.just_recipe_resolver.specs.Resolved.{GivesWrongly, IsResolvedTo}

-- by what the layers answer and the basis
module _ (P : SyntaxAnswers → Evaluator → Basis → Type 0) {s t : SyntaxAnswers} (syntax : s ≡ t) {e f : Evaluator} (evaluator : e ≡ f) {b d : Basis} (basis : b ≡ d) where
  pub along_basis : P s e b → P t f d
  along_basis h = subst (P t f) basis (subst (λ x. P t x b) evaluator (subst (λ x. P x e b) syntax h))

-- and by the recipes
module _ (P : SyntaxAnswers → Evaluator → Basis → List (Recipe UnresolvedDependency) → Type 0) {s t : SyntaxAnswers} (syntax : s ≡ t) {e f : Evaluator} (evaluator : e ≡ f) {b d : Basis} (basis : b ≡ d) {rs qs : List (Recipe UnresolvedDependency)} (recipes : rs ≡ qs) where
  pub along : P s e b rs → P t f d qs
  along h = subst (P t f d) recipes (along_basis (λ x y z. P x y z rs) syntax evaluator basis h)

-- what is said
abbrev pub OwnKept : Around → SyntaxAnswers → Evaluator → Basis → List (Recipe UnresolvedDependency) → Type 0
OwnKept it s e b rs = Keeps (InStanding (Stands rs it) (BreaksOn s e b) rs)

abbrev pub Added : Around → Modulepath → List (Recipe Dependency) → SyntaxAnswers → Evaluator → Basis → List (Recipe UnresolvedDependency) → Type 0
Added it path all s e b rs = AddsLinked (completion_on s e b) b.settings.lists rs it path all

abbrev pub Told : Around → Error → SyntaxAnswers → Evaluator → Basis → List (Recipe UnresolvedDependency) → Type 0
Told it error s e b rs = Reports (TellsLinks b.settings.lists (TellsOn s e b) rs it) error

-- the same of one recipe
abbrev pub OneKept : Recipe UnresolvedDependency → SyntaxAnswers → Evaluator → Basis → Type 0
OneKept r s e b = Keeps (BreaksOn s e b r)

abbrev pub GivenRightly : List UnresolvedDependency → List (Recipe Dependency) → SyntaxAnswers → Evaluator → Basis → Type 0
GivenRightly ds ts s e b = Keeps (GivesWrongly b.settings.lists ds ts)

abbrev pub OneMade : Modulepath → Recipe UnresolvedDependency → List (Recipe Dependency) → Recipe Dependency → SyntaxAnswers → Evaluator → Basis → Type 0
OneMade path r ts made s e b = IsResolvedTo (completion_on s e b) b.settings.lists path r ts made

abbrev pub OneTold : Recipe UnresolvedDependency → List (Recipe Dependency) → Error → SyntaxAnswers → Evaluator → Basis → Type 0
OneTold r ts error s e b = Reports (λ c. GivesWrongly b.settings.lists r.dependencies ts c ⊎ TellsOn s e b r c) error

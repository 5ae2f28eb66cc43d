-- What private functions say beside `Head.antt`.
use Rattle.std.specs.Prelude.{◌≡◌, Bool, false}
use Rattle.just_names.specs.Texts.{Text}
use Rattle.just_recipe.specs.declared.dependency.Dependency.{Dependency}
use Rattle.just_recipe.specs.declared.recipe.Recipe.{Recipe}
use Rattle.just_tail.specs.Words.{Words}
use Rattle.just_justfile.specs.declared.justfile.Justfile.{out-Justfile}
use Rattle.just_justfile.specs.Closed.{HeldRecipes, default_recipe}
use Rattle.just_invocations.specs.Cause.{InvocationFault}
use Rattle.just_invocations.specs.Meaning.{Meaning, a_module, a_recipe, meaning}
use Rattle.just_invocations.specs.declared.walk.Step.{Step}
use Rattle.just_invocations.specs.declared.walk.Step.TheVariants as step
use Rattle.just_invocations.specs.Head.{MeaningMisleads, NoDefault, TakesDefault}

-- a name that is no module, and leads to no recipe
abbrev pub BadName : Meaning → Bool → Bool → Words → Text → InvocationFault → Type 0
BadName m = MeaningMisleads m (λ next. ⊥)

-- for the private functions: a step of the walk is what the name's meaning says, a module, or a recipe that ends the names
abbrev pub IsStep : Meaning → Bool → Step → Type 0
IsStep m go (step.On next) = m ≡ a_module next.now
IsStep m go (step.End r) = (m ≡ a_recipe r.now) × (go ≡ false)

-- where names end: in a module, whose default is taken or is none, or at a recipe
abbrev pub IsEnd : HeldRecipes → Step → Recipe Dependency → Type 0
IsEnd recipes (step.On here) r = TakesDefault recipes here.now r
IsEnd recipes (step.End found) r = r ≡ found.now

abbrev pub IsNoEnd : HeldRecipes → Step → InvocationFault → Type 0
IsNoEnd recipes (step.On here) cause = NoDefault (out-Justfile here.now).recipes (default_recipe here.now recipes) cause
IsNoEnd recipes (step.End found) cause = ⊥

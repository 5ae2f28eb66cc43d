-- Words as invocations, and why words are none.
use Rattle.std.specs.Prelude.{◌≡◌, ◌≢◌, ◌⊎◌, List, [], ◌∷◌, ◌++◌}
use Rattle.just_names.specs.Texts.{Text}
use Rattle.just_recipe.specs.declared.dependency.Dependency.{Dependency}
use Rattle.just_recipe.specs.declared.recipe.Recipe.{Recipe}
use Rattle.just_tail.specs.Cause as tail
use Rattle.just_tail.specs.Checks.{CountFault}
use Rattle.just_tail.specs.Checks as checks
use Rattle.just_tail.specs.Words.{Words, as_texts}
use Rattle.just_justfile.specs.Closed.{HeldRecipes, resolved_name}
use Rattle.just_justfile.specs.declared.justfile.Justfile.{Justfile}
use Rattle.just_invocations.specs.declared.invocation.Invocation.{Invocation}
use Rattle.just_invocations.specs.Cause.{InvocationFault, with_recipe}
use Rattle.just_invocations.specs.Head.{IsHead, NoHead}

-- why the parameters of the recipe of a name may not have so many texts, as the evaluation says it
abbrev pub Counts : Type 0
Counts = Text → CountFault

-- the recipe takes the words of the tail, grouped so, before those after it
abbrev pub RecipeTakesArguments : Counts → Recipe Dependency → Words → Words → List Words → Type 0
RecipeTakesArguments counts r tail after groups = checks.TakesArguments (counts (resolved_name r)) r.parameters tail after groups

-- why it takes none of the words
abbrev pub NoArguments : Counts → Recipe Dependency → Words → tail.ArgumentFault → Type 0
NoArguments counts r words cause = checks.StopsTail (counts (resolved_name r)) r.parameters words cause

-- a recipe, with a group of words for each parameter
pub record Invoked : Type 0 where
  pub recipe : Recipe Dependency
  pub groups : List Words

-- an invocation, as its recipe and the texts of its groups
abbrev pub invoked_of : Invocation → Invoked
invoked_of i = record { recipe = i.recipe.now; groups = as_texts i.arguments.items }

-- the words begin with an invocation, its head and then its arguments, and these words follow it
pub record Invokes (counts : Counts) (root : Justfile) (recipes : HeldRecipes) (words after : Words) (i : Invoked) : Type 0 where
  pub head : Words
  pub tail : Words
  pub whole : words ≡ head ++ (tail ++ after)
  pub names : IsHead root recipes head (tail ++ after) i.recipe
  pub takes : RecipeTakesArguments counts i.recipe tail after i.groups

-- invocations, one after another, and the words that are left
abbrev pub Chain : Counts → Justfile → HeldRecipes → Words → List Invoked → Words → Type 0
Chain counts root recipes words [] rest = words ≡ rest
Chain counts root recipes words (i ∷ is) rest =
    (words ≢ []) × (after : Words) × Invokes counts root recipes words after i × Chain counts root recipes after is rest

-- the words are these invocations; no words are one
abbrev pub IsSplit : Counts → Justfile → HeldRecipes → Words → List Invoked → Type 0
IsSplit counts root recipes [] is = (i : Invoked) × (is ≡ i ∷ []) × Invokes counts root recipes [] [] i
IsSplit counts root recipes (w ∷ ws) is = Chain counts root recipes (w ∷ ws) is []

-- the words begin with a head, after which its recipe takes no arguments
pub record Rejects (counts : Counts) (root : Justfile) (recipes : HeldRecipes) (words : Words) (cause : InvocationFault) : Type 0 where
  pub recipe : Recipe Dependency
  pub head : Words
  pub rest : Words
  pub why : tail.ArgumentFault
  pub whole : words ≡ head ++ rest
  pub names : IsHead root recipes head rest recipe
  pub stops : NoArguments counts recipe rest why
  pub says : cause ≡ with_recipe (resolved_name recipe) why

-- why no invocation begins here
abbrev pub NoInvocation : Counts → Justfile → HeldRecipes → Words → InvocationFault → Type 0
NoInvocation counts root recipes words cause = NoHead root recipes words cause ⊎ Rejects counts root recipes words cause

-- why the words are no invocations: some of them are, and then none begins
abbrev pub HasWordsFault : Counts → Justfile → HeldRecipes → Words → InvocationFault → Type 0
HasWordsFault counts root recipes words cause =
    (is : List Invoked) × (rest : Words) × Chain counts root recipes words is rest × ((rest ≢ []) ⊎ (words ≡ [])) × NoInvocation counts root recipes rest cause

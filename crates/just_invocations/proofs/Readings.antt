-- What the laws of invocations use of a tail.
use Rattle.std.proofs.Common.{◌≡◌, ◌⊎◌, ◌++◌, List}
use Rattle.std.specs.List.{AllByRecursion}
use Rattle.std.specs.Str.{IsUtf8}
use Rattle.just_recipe.specs.declared.dependency.Dependency.{Dependency}
use Rattle.just_recipe.specs.declared.recipe.Recipe.{Recipe}
use Rattle.just_tail.specs.Words.{Words}
use Rattle.just_tail.specs.Cause.{ArgumentFault}
use Rattle.just_tail.proofs.Decides as decides
use Rattle.just_tail.proofs.Readings as readings
use Rattle.just_justfile.specs.Closed.{resolved_name}
use Rattle.just_invocations.specs.Split.{Counts, RecipeTakesArguments, NoArguments}

pub reading_once : (counts : Counts) (r : Recipe Dependency) (tail other after rest : Words) (groups shown : List Words) → tail ++ after ≡ other ++ rest →
    RecipeTakesArguments counts r tail after groups → RecipeTakesArguments counts r other rest shown → (tail ≡ other) × (after ≡ rest) × (groups ≡ shown)
reading_once counts r = readings.reading_once (counts (resolved_name r)) r.parameters

pub reading_no_stop : (counts : Counts) (r : Recipe Dependency) (tail after : Words) (groups : List Words) (cause : ArgumentFault) →
    RecipeTakesArguments counts r tail after groups → NoArguments counts r (tail ++ after) cause → ⊥
reading_no_stop counts r = readings.reading_no_stop (counts (resolved_name r)) r.parameters

pub stop_once : (counts : Counts) (r : Recipe Dependency) (words : Words) (a b : ArgumentFault) → NoArguments counts r words a → NoArguments counts r words b → a ≡ b
stop_once counts r = readings.stop_once (counts (resolved_name r)) r.parameters

abbrev pub ReadingOr : Counts → Recipe Dependency → Words → Type 0
ReadingOr counts r words =
    ((tail : Words) × (after : Words) × (groups : List Words) × (words ≡ tail ++ after) × RecipeTakesArguments counts r tail after groups)
    ⊎ ((cause : ArgumentFault) × NoArguments counts r words cause)

-- texts, as words
abbrev pub AreUtf8 : Words → Type 0
AreUtf8 = AllByRecursion IsUtf8

pub reading_or_stop : (counts : Counts) (r : Recipe Dependency) (words : Words) → AreUtf8 words → ReadingOr counts r words
reading_or_stop counts r = decides.reading_or_stop (counts (resolved_name r)) r.parameters

use Rattle.std.proofs.Common.{◌≡◌, ℕ, ◌<◌, [], length, get_or}
use Rattle.just_module_contents.specs.Definitions.{recipes_in}
use Rattle.just_module_contents.specs.Recipes.{recipe_at}
use Rattle.just_name_resolution.specs.Lent.{tables_in}
use Rattle.just_parts.specs.Needs.{has_number}
use Rattle.just_recipe_needs.specs.Asked.{KnowsRight}
use Rattle.just_recipe_needs.specs.Needed.{NeedsUnder}
use Rattle.just_recipe_needs.proofs.references.references_of_all.Given as goal

abbrev pub invariant-loop-place : goal.invariant-loop-place
invariant-loop-place g l =
    let needs = NeedsUnder (tables_in l.initial.tables) (has_number l.overrides) (g.S.Syntax.answers l.syntax) l.settings in
    KnowsRight l.references
    × (l.references.sources.tables ≡ l.initial.tables) × (l.references.sources.overrides.now ≡ l.overrides)
    × (length l.made.items ≡ l.place)
    × ((k : ℕ) → k < l.place → needs (recipe_at (recipes_in l.recipes) k) (get_or l.made.items k []))

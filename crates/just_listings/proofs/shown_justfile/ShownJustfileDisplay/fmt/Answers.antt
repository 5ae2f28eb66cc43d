use Rattle.std.proofs.Common.{◌≡◌, ◌++◌, false, refl}
use Rattle.just_listings.specs.Shown.{alias_lines, recipes_shown, shown_after, shown_text, variables_shown}
use Rattle.just_listings.proofs.Gaps.{all_shown}
use Rattle.just_listings.proofs.shown_justfile.ShownJustfileDisplay.fmt.Goals as goal

pub returns-clause-writes : goal.returns-clause-writes
returns-clause-writes g c = λ plain ok.
    let took = g.W.Write.write_str_gives in
    let j = c.args.self.now.justfile.now in
    let recipes = c.args.self.now.recipes.now in
    all_shown took c.args.f.now c.write_variables.new.f c.write_aliases.new.f c.write_recipes.new.f c.write_variables.new.begun c.write_aliases.new.begun (variables_shown j) (alias_lines recipes j) (recipes_shown recipes j)
    (λ p. c.in_ok-write_variables.ensures.text p refl) c.in_ok-write_variables.ensures.begun (λ p. c.in_ok-write_aliases.ensures.text p refl) c.in_ok-write_aliases.ensures.begun (λ p. c.write_recipes.ensures p ok) plain

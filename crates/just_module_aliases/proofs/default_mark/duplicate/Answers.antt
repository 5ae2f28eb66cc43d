use Rattle.std.proofs.Common.{◌≡◌, ◌≢◌, ◌<◌, ◌∙◌, length, ap, sym, arith}
use Rattle.just_module_contents.specs.Definitions.{recipes_in}
use Rattle.just_module_contents.specs.Recipes.{name_of_recipe}
use Rattle.just_module_aliases.proofs.Later.{told_default}
use Rattle.just_module_contents.proofs.RecipePlaces.{length-lent}
use Rattle.just_module_aliases.proofs.default_mark.duplicate.Goals.{then-is_later, else-is_later}
use Rattle.just_module_aliases.proofs.default_mark.duplicate.Goals as goal

pub returns : goal.returns
returns c =
    let rs = recipes_in c.args.definitions.now in
    let one = c.recipe_at-one.result.now in
    let other = c.recipe_at-other.result.now in
    let long : length rs ≡ length c.args.definitions.now.recipes.items = length-lent c.args.definitions.now.recipes.items in
    let first : c.args.first < length rs = omega (arith, long, c.requires.first) in
    let second : c.args.second < length rs = omega (arith, long, c.requires.second) in
    let back : c.args.second ≢ c.args.first = λ e. c.requires.apart (sym e) in
    elim c.if-is_later.branch [
      | then-is_later w ↦ told_default rs c.args.first c.args.second one other c.copied.result c.new.result first second c.requires.apart c.requires.first_marked c.requires.second_marked
          c.recipe_at-one.ensures.there c.recipe_at-other.ensures.there (c.is_later.ensures.yes w.if-is_later.true)
          (c.copied.ensures ∙ ap (λ l. l.now.name.token) w.later-is) (c.new.ensures ∙ c.lexeme.ensures ∙ ap (λ l. name_of_recipe l.now) w.later-is)
      | else-is_later w ↦ told_default rs c.args.second c.args.first other one c.copied.result c.new.result second first back c.requires.second_marked c.requires.first_marked
          c.recipe_at-other.ensures.there c.recipe_at-one.ensures.there (c.is_later.ensures.no w.if-is_later.false)
          (c.copied.ensures ∙ ap (λ l. l.now.name.token) w.later-is) (c.new.ensures ∙ c.lexeme.ensures ∙ ap (λ l. name_of_recipe l.now) w.later-is)
    ]

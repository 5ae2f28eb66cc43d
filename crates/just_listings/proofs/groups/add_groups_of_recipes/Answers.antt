use Rattle.std.proofs.Common.{◌≡◌, ◌<◌, ◌∙◌, length, subst}
use Rattle.just_listings.specs.Groups.{recipe_groups}
use Rattle.just_listings.proofs.Grouping.{has_more}
use Rattle.just_listings.proofs.groups.add_groups_of_recipes.Goals as goal

pub loop-at-preserved : goal.loop-at-preserved
loop-at-preserved c =
    let items = c.in_ok-found.found.items in
    let within : c.loop-at.at < length items = subst (λ n. c.loop-at.at < n) (c.len-at-end.ensures ∙ c.in_ok-found.found.ok.0) c.loop-at-test.true in
    has_more recipe_groups items c.loop-at.at c.index.result.now c.args.groups.now.items c.loop-at.groups.items c.add_recipe_groups.new.groups.items within c.index.ensures c.in_ok-add_recipe_groups.ensures c.loop-at.invariant

use Rattle.std.proofs.Common.{◌≡◌, ◌<◌, ◌∙◌, None, Some, get_or, length, rules}
use Rattle.just_names.specs.Texts.{Text}
use Rattle.just_listings.specs.Groups.{group_said}
use Rattle.just_listings.specs.Public.{recipe_place}
use Rattle.just_listings.specs.declared.order.Placed.{Placed}
use Rattle.just_listings.proofs.Grouping.{group_added, none_added}
use Rattle.just_listings.proofs.groups.add_recipe_groups.Goals as goal
use Rattle.just_listings.proofs.groups.add_recipe_groups.Goals.{in-Some+in_ok-place_of_recipe+in_ok-clone+in_ok-push, in_default}

pub loop-named-preserved : goal.loop-named-preserved
loop-named-preserved c =
    let named = c.args.recipe.now.attributes in
    let i = c.loop-named.named-index in
    let x = c.named-item.result in
    let within : i < length named = search rules in
    let at : x ≡ get_or named i x = search rules in
    elim c.match-group_said.branch [
      | in-Some+in_ok-place_of_recipe+in_ok-clone+in_ok-push w ↦
          let same : c.match-group_said.groups.items ≡ w.push.new.self.items = cc in
          let says : group_said x.attribute ≡ Some w.in-Some.group.now = search rules in
          let p : Placed Text = record { place = w.in_ok-place_of_recipe.field-0; item = w.in_ok-clone.field-0 } in
          let text : w.in_ok-clone.field-0 ≡ w.in-Some.group.now = search rules in
          same
          ∙ group_added (recipe_place c.args.recipe.now) named i x w.in-Some.group.now c.args.groups.now.items c.loop-named.groups.items w.push.new.self.items p within at says w.in_ok-push.ensures.items w.in_ok-place_of_recipe.ensures text c.loop-named.invariant
      | in_default w ↦
          let same : c.match-group_said.groups.items ≡ c.loop-named.groups.items = cc in
          let says : group_said x.attribute ≡ None = search rules in
          same ∙ none_added (recipe_place c.args.recipe.now) named i x c.args.groups.now.items c.loop-named.groups.items within at says c.loop-named.invariant
    ]

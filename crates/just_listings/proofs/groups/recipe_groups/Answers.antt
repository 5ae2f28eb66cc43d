use Rattle.std.proofs.Common.{◌≡◌, ◌<◌, ◌≤◌, ◌∙◌, List, None, Some, get_or, length, refl, rules}
use Rattle.just_listings.specs.Groups.{group_said}
use Rattle.just_listings.proofs.Grouping.{all_put, group_put, none_put}
use Rattle.just_listings.proofs.groups.recipe_groups.Goals as goal
use Rattle.just_listings.proofs.groups.recipe_groups.Goals.{in-Some+in_ok-clone+in_ok-insert, in_default}

pub loop-named-preserved : goal.loop-named-preserved
loop-named-preserved c =
    let named = c.args.recipe.now.attributes in
    let i = c.loop-named.named-index in
    let x = c.named-item.result in
    let within : i < length named = search rules in
    let at : x ≡ get_or named i x = search rules in
    elim c.match-group_said.branch [
      | in-Some+in_ok-clone+in_ok-insert w ↦
          let same : c.match-group_said.groups.keys ≡ w.insert.new.self.keys = cc in
          let says : group_said x.attribute ≡ Some w.in-Some.group.now = search rules in
          let text : w.in_ok-clone.field-0 ≡ w.in-Some.group.now = search rules in
          group_put named i x w.in-Some.group.now w.in_ok-clone.field-0 c.loop-named.groups.keys c.match-group_said.groups.keys within at says text (same ∙ w.in_ok-insert.ensures.keys) c.loop-named.invariant
      | in_default w ↦
          let same : c.match-group_said.groups.keys ≡ c.loop-named.groups.keys = cc in
          let says : group_said x.attribute ≡ None = search rules in
          none_put named i x c.loop-named.groups.keys c.match-group_said.groups.keys within at says same c.loop-named.invariant
    ]

pub returns : goal.returns
returns c =
    let through : length c.args.recipe.now.attributes ≤ c.loop-named.named-index = search rules in
    all_put c.args.recipe.now c.loop-named.named-index c.loop-named.groups.keys through c.loop-named.invariant

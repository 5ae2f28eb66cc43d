use Rattle.std.proofs.Common.{◌≡◌, ◌<◌, ◌∙◌, length, subst}
use Rattle.just_listings.specs.Groups.{module_groups}
use Rattle.just_listings.proofs.Grouping.{has_more}
use Rattle.just_listings.proofs.groups.add_groups_of_modules.Goals as goal

pub loop-at-preserved : goal.loop-at-preserved
loop-at-preserved c =
    let items = c.in_ok-modules.modules.items in
    let within : c.loop-at.at < length items = subst (λ n. c.loop-at.at < n) (c.len-at-end.ensures ∙ c.in_ok-modules.modules.ok.0) c.loop-at-test.true in
    has_more module_groups items c.loop-at.at c.index.result.now c.args.groups.now.items c.loop-at.groups.items c.add_module_groups.new.groups.items within c.index.ensures c.in_ok-add_module_groups.ensures c.loop-at.invariant

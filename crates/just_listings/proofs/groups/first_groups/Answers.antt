use Rattle.std.proofs.Common.{◌≡◌, ◌∙◌, rules}
use Rattle.std.specs.HashSet.{contains}
use Rattle.std.specs.Str.{bytes_eq}
use Rattle.just_listings.proofs.Grouping.{first_added, met_before, met_more}
use Rattle.just_listings.proofs.groups.first_groups.Goals as goal
use Rattle.just_listings.proofs.groups.first_groups.Goals.{then-branch+in_ok-clone-2+in_ok-push, else-branch}

pub loop-group-preserved : goal.loop-group-preserved
loop-group-preserved c =
    let found = contains bytes_eq c.loop-group.seen in
    let key : c.in_ok-clone.field-0 ≡ c.group-item.result.item = search rules in
    record {
      first = elim c.if-branch.branch [
        | then-branch+in_ok-clone-2+in_ok-push w ↦
            let same : c.if-branch.texts.items ≡ w.push.new.self.items = cc in
            let text : w.in_ok-clone-2.field-0 ≡ c.group-item.result.item = search rules in
            same
            ∙ first_added c.args.groups.now c.loop-group.group-index c.group-item.result c.loop-group-test.true c.group-item.is found c.in_ok-clone.field-0 w.in_ok-clone-2.field-0 c.in_ok-insert.field-0 c.loop-group.texts.items w.push.new.self.items
            key text c.loop-group.invariant.met c.in_ok-insert.ensures.added w.if-branch.true w.in_ok-push.ensures.items c.loop-group.invariant.first
        | else-branch w ↦
            let same : c.if-branch.texts.items ≡ c.loop-group.texts.items = cc in
            same
            ∙ met_before c.args.groups.now c.loop-group.group-index c.group-item.result c.loop-group-test.true c.group-item.is found c.in_ok-clone.field-0 c.in_ok-insert.field-0 c.loop-group.texts.items
            key c.loop-group.invariant.met c.in_ok-insert.ensures.added w.if-branch.false c.loop-group.invariant.first
      ];
      met = met_more c.args.groups.now c.loop-group.group-index c.group-item.result c.loop-group-test.true c.group-item.is found (contains bytes_eq c.insert.new.self) c.in_ok-clone.field-0 key c.loop-group.invariant.met c.in_ok-insert.ensures.updates.0;
    }

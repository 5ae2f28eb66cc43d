use Rattle.std.proofs.Common.{rules}
use Rattle.just_tail.proofs.GroupLemmas.{shown_pushed_at}
use Rattle.just_tail.proofs.groups.push_at.Goals as goal

pub returns : goal.returns
returns c =
    shown_pushed_at c.args.groups.now.items c.args.place c.index_mut.result.now c.push.new.self c.args.text
    (search rules) (search rules) c.in_ok-push.ensures.items

use Rattle.std.proofs.Common.{ap, arith, ◌-◌, length, reverse}
use Rattle.just_name_resolution.proofs.Taken.{front, reverse_split}
use Rattle.just_name_resolution.proofs.numbers.all_taken.Goals as goal

pub returns-clause-items : goal.returns-clause-items
returns-clause-items c =
    cc (reverse_split (c.len.result - c.args.count) c.args.built.now.items, c.in_ok-made.ensures.tail, c.in_ok-made.ensures.items, c.reverse.ensures.items)

pub returns-clause-made : goal.returns-clause-made
returns-clause-made c =
    front c.args.count c.from_vec.result (reverse c.split_off.new.self.items) (reverse c.args.built.now.items) (returns-clause-items c)
    (omega (arith, ap length c.from_vec.ensures, c.reverse.ensures.len, c.in_ok-made.ensures.tail_len, c.len.ensures))

use Rattle.std.proofs.Common.{◌∙◌, ap, arith}
use Rattle.std.specs.List.{sum_by}
use Rattle.std.proofs.lemmas.List.Sums.{sum_by_push}
use Rattle.just_justfile.proofs.Counts.{count, count_is, counts_add}
use Rattle.just_justfile.proofs.justfile.Justfile.+drop.Goals as goal

pub drop-requires : goal.drop-requires
drop-requires t c =
    let split = ap (sum_by count) c.in-Some.ensures.items ∙ sum_by_push count c.pop.new.self.items c.in-Some.module in
    let same = ap count c.in-Err.ensures.value_returned in
    (omega (arith, c.loop-module.invariant), tt)

pub loop-module-smaller-in-Err : goal.loop-module-smaller-in-Err
loop-module-smaller-in-Err t c =
    let split = ap (sum_by count) c.in-Some.ensures.items ∙ sum_by_push count c.pop.new.self.items c.in-Some.module in
    let same = ap (sum_by count) c.in-Err.ensures.items in
    let one = count_is c.in-Some.module in
    let least = counts_add c.loop-module.pending.items in
    omega (arith, c.in-Err.ensures.len)

pub loop-module-smaller-in_default-push : goal.loop-module-smaller-in_default-push
loop-module-smaller-in_default-push t c =
    let split = ap (sum_by count) c.in-Some.ensures.items ∙ sum_by_push count c.pop.new.self.items c.in-Some.module in
    let pushed = ap (sum_by count) c.in_default-push.ensures.items ∙ sum_by_push count c.loop-module.pending.items c.in-Some.module in
    let one = count_is c.in-Some.module in
    let least = counts_add c.push.new.self.items in
    omega (arith, c.in_default-push.ensures.len)

pub loop-module-preserved-in_default-push : goal.loop-module-preserved-in_default-push
loop-module-preserved-in_default-push t c =
    let split = ap (sum_by count) c.in-Some.ensures.items ∙ sum_by_push count c.pop.new.self.items c.in-Some.module in
    let pushed = ap (sum_by count) c.in_default-push.ensures.items ∙ sum_by_push count c.loop-module.pending.items c.in-Some.module in
    omega (arith, c.loop-module.invariant)

pub loop-module-smaller : goal.loop-module-smaller
loop-module-smaller t c =
    let popped = ap (sum_by count) c.in-Some-pop.ensures.items ∙ sum_by_push count c.pop-in_default.new.self.items c.in-Some-pop.next in
    let inner = ap (sum_by count) c.into_modules-inner-in-Some-pop.ensures in
    let one = count_is c.in-Some-pop.next in
    let least = counts_add c.pop-in_default.new.self.items in
    omega (arith, c.in-Some-pop.ensures.len)

pub loop-module-preserved : goal.loop-module-preserved
loop-module-preserved t c =
    let popped = ap (sum_by count) c.in-Some-pop.ensures.items ∙ sum_by_push count c.pop-in_default.new.self.items c.in-Some-pop.next in
    let inner = ap (sum_by count) c.into_modules-inner-in-Some-pop.ensures in
    let one = count_is c.in-Some-pop.next in
    omega (arith, c.loop-module.invariant)

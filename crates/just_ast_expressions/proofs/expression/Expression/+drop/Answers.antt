use Rattle.std.proofs.Common.{◌∙◌, ap, arith}
use Rattle.std.specs.List.{sum_by}
use Rattle.std.proofs.lemmas.List.Sums.{sum_by_push}
use Rattle.just_ast_expressions.specs.loops.Taken.{untaken}
use Rattle.just_ast_expressions.proofs.Sizes.{size, size_is, sizes_count, parts_smaller}
use Rattle.just_ast_expressions.proofs.expression.Expression.+drop.Goals as goal

pub loop-others-init : goal.loop-others-init
loop-others-init t c =
    let own = parts_smaller c.args.self (untaken c.into_parts-parts.result) c.into_parts-parts.ensures in
    let none = ap (sum_by size) c.new-pending.ensures.items in
    omega arith

pub loop-others-smaller-in-Err : goal.loop-others-smaller-in-Err
loop-others-smaller-in-Err t c =
    let split = ap (sum_by size) c.in-Some.ensures.some ∙ sum_by_push size (untaken c.in-Some.others) c.in-Some.last in
    let same = ap (sum_by size) c.in-Err.ensures.items in
    let one = size_is c.in-Some.last in
    let least = sizes_count c.loop-others.pending.items in
    omega (arith, c.in-Err.ensures.len)

pub loop-others-smaller-in_default-push : goal.loop-others-smaller-in_default-push
loop-others-smaller-in_default-push t c =
    let split = ap (sum_by size) c.in-Some.ensures.some ∙ sum_by_push size (untaken c.in-Some.others) c.in-Some.last in
    let pushed = ap (sum_by size) c.in_default-push.ensures.items ∙ sum_by_push size c.loop-others.pending.items c.in-Some.last in
    let one = size_is c.in-Some.last in
    let least = sizes_count c.push.new.self.items in
    omega (arith, c.in_default-push.ensures.len)

pub loop-others-smaller : goal.loop-others-smaller
loop-others-smaller t c =
    let none = ap (sum_by size) c.in_default.ensures.none in
    let own = parts_smaller c.in-Some-pop.next (untaken c.into_parts-parts-in-Some-pop.result) c.into_parts-parts-in-Some-pop.ensures in
    let popped = ap (sum_by size) c.in-Some-pop.ensures.items ∙ sum_by_push size c.pop.new.self.items c.in-Some-pop.next in
    let least = sizes_count c.pop.new.self.items in
    omega (arith, c.in-Some-pop.ensures.len)

pub loop-others-preserved : goal.loop-others-preserved
loop-others-preserved t c =
    let none = ap (sum_by size) c.in_default.ensures.none in
    let own = parts_smaller c.in-Some-pop.next (untaken c.into_parts-parts-in-Some-pop.result) c.into_parts-parts-in-Some-pop.ensures in
    let popped = ap (sum_by size) c.in-Some-pop.ensures.items ∙ sum_by_push size c.pop.new.self.items c.in-Some-pop.next in
    omega (arith, c.loop-others.invariant)

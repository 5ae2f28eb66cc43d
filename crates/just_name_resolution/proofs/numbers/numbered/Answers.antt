use Rattle.std.proofs.Common.{ap, arith, [], length, reverse}
use Rattle.std.proofs.lemmas.List.{length-reverse}
use Rattle.just_name_resolution.specs.Numbers.{number_in}
use Rattle.just_name_resolution.proofs.Nodes.{parts_lie, made_on, whole_made}
use Rattle.just_name_resolution.proofs.numbers.numbered.Goals as goal

pub loop-next-init : goal.loop-next-init
loop-next-init g c = ([], ap reverse c.new-built.ensures.items, c.in_ok-left.ensures)

pub remade-requires : goal.remade-requires
remade-requires g c =
    let lie = parts_lie (number_in (g.S.Syntax.answers c.args.numbers.now.syntax.now) c.args.numbers.now) c.args.expression.now
    c.loop-next.left.items c.pop.new.self.items c.in-Some.next c.loop-next.built.items c.in-Some.ensures.items c.loop-next.invariant in
    record { count = lie.0; parts = lie.1 }

pub loop-next-preserved : goal.loop-next-preserved
loop-next-preserved g c =
    made_on (number_in (g.S.Syntax.answers c.args.numbers.now.syntax.now) c.args.numbers.now) c.args.expression.now
    c.loop-next.left.items c.pop.new.self.items c.in-Some.next c.loop-next.built.items c.remade.new.built.items c.push.new.self.items c.in_ok-made.made
    c.in-Some.ensures.items c.in_ok-made.ensures.made c.in_ok-made.ensures.left c.in_ok-push.ensures.items c.loop-next.invariant

pub taken-requires : goal.taken-requires
taken-requires g c =
    let whole = whole_made (number_in (g.S.Syntax.answers c.args.numbers.now.syntax.now) c.args.numbers.now) c.args.expression.now
    c.loop-next.left.items c.loop-next.built.items (omega (arith, c.in_default.ensures.cases)) c.loop-next.invariant in
    omega (arith, ap length whole, length-reverse c.loop-next.built.items)

pub returns : goal.returns
returns g c =
    let whole = whole_made (number_in (g.S.Syntax.answers c.args.numbers.now.syntax.now) c.args.numbers.now) c.args.expression.now
    c.loop-next.left.items c.loop-next.built.items (omega (arith, c.in_default.ensures.cases)) c.loop-next.invariant in
    cc (whole, c.taken.ensures.items)

use Rattle.std.proofs.Common.{◌∙◌, sym}
use Rattle.just_bench_expressions.proofs.Spelled.{placed, no_part, no_excerpt}
use Rattle.just_bench_expressions.proofs.spelling.Spelling.excerpt.Goals as goal

pub new-requires : goal.new-requires
new-requires c =
    let found = no_excerpt c.self.inside.lexemes c.self.inside.text c.self.inside.ends c.in_ok-text.text c.self.invariant c.in_ok-text.ensures.cases in
    record { order = found.order; within = found.within; starts = found.starts; ends = found.ends }

pub returns-then-end-start : goal.returns-then-end-start
returns-then-end-start c =
    let found = no_excerpt c.self.inside.lexemes c.self.inside.text c.self.inside.ends c.in_ok-text.text c.self.invariant c.in_ok-text.ensures.cases in
    c.new.ensures ∙ found.same ∙ sym (no_part c.args.self.now c.args.start c.args.end c.if-end-start.true)

pub overflow_sub-ends : goal.overflow_sub-ends
overflow_sub-ends c =
    (placed c.self.inside.lexemes c.as_slice.result.now c.args.self.now c.self.inside.text c.self.inside.ends c.in_ok-text.text c.as_slice-ends.result.now c.lexeme-size.result.now
    c.args.start c.args.end c.index-as_slice-start.result c.self.invariant c.as_slice.ensures c.self.view_is c.in_ok-text.ensures.cases c.as_slice-ends.ensures c.index-as_slice-start.is
    c.lexeme-size.ensures c.if-end-start.false c.requires).size

pub new-requires-2 : goal.new-requires-2
new-requires-2 c =
    let found = placed c.self.inside.lexemes c.as_slice.result.now c.args.self.now c.self.inside.text c.self.inside.ends c.in_ok-text.text c.as_slice-ends.result.now c.lexeme-size.result.now
    c.args.start c.args.end c.index-as_slice-start.result c.self.invariant c.as_slice.ensures c.self.view_is c.in_ok-text.ensures.cases c.as_slice-ends.ensures c.index-as_slice-start.is
    c.lexeme-size.ensures c.if-end-start.false c.requires in
    record { order = found.stands.order; within = found.stands.within; starts = found.stands.starts; ends = found.stands.ends }

pub returns : goal.returns
returns c =
    let found = placed c.self.inside.lexemes c.as_slice.result.now c.args.self.now c.self.inside.text c.self.inside.ends c.in_ok-text.text c.as_slice-ends.result.now c.lexeme-size.result.now
    c.args.start c.args.end c.index-as_slice-start.result c.self.invariant c.as_slice.ensures c.self.view_is c.in_ok-text.ensures.cases c.as_slice-ends.ensures c.index-as_slice-start.is
    c.lexeme-size.ensures c.if-end-start.false c.requires in
    c.new-2.ensures ∙ found.stands.same

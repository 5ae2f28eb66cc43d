use Rattle.std.proofs.Common.{◌++◌, take, ◌∙◌, arith}
use Rattle.std.proofs.lemmas.Option.{IfSome_then}
use Rattle.just_tail.specs.Pieces.{letters}
use Rattle.just_tail.specs.Cause.{tail_cause_of}
use Rattle.just_tail.specs.Tail.{given_nothing}
use Rattle.just_tail.proofs.OptionLemmas.{front_more, front_refused}
use Rattle.just_tail.proofs.options.apply_front.Goals as goal

pub returns-in-Err-clause-err : goal.returns-in-Err-clause-err
returns-in-Err-clause-err c =
    let ps = c.args.plan.now.parameters.now in
    let cs = c.args.front.now in
    let i = c.loop-letter.letter-index in
    IfSome_then (tail_cause_of c.in-Err.e) c.in-Err.ensures.err
    (λ cause refuses before stands opened.
    let r = c.loop-letter.invariant.reads before stands opened in
    front_refused ps before cs i c.letter-item.result cause (omega arith) c.letter-item.is r.0 (refuses (before ++ given_nothing (letters (take i cs))) r.1))

pub loop-letter-preserved : goal.loop-letter-preserved
loop-letter-preserved c =
    let ps = c.args.plan.now.parameters.now in
    let cs = c.args.front.now in
    let i = c.loop-letter.letter-index in
    record {
      count = c.in-Ok.ensures.count;
      placed = c.in-Ok.ensures.placed ∙ c.loop-letter.invariant.placed;
      reads = λ before stands opened.
          let r = c.loop-letter.invariant.reads before stands opened in
          let u = c.in-Ok.ensures.ok (before ++ given_nothing (letters (take i cs))) r.1 in
          front_more ps before cs i c.letter-item.result c.in-Ok.field-0 u.0 c.apply.new.progress (omega arith) c.letter-item.is opened r.0 u.1 u.2 u.3 u.4;
    }

use Rattle.std.proofs.Common.{◌≡◌, ◌∙◌, sym, length, false}
use Rattle.std.specs.Prelude.{◌==◌}
use Rattle.just_bench_syntax.proofs.Interpreters.{said_cut, said_nothing, said_whole}
use Rattle.just_bench_syntax.proofs.shebangs.said.Goals as goal

pub returns-then-is_empty : goal.returns-then-is_empty
returns-then-is_empty c = sym (said_nothing c.args.text.now (sym c.is_empty.ensures ∙ c.if-is_empty.true))

pub returns-in-Some : goal.returns-in-Some
returns-in-Some c =
    let some : (length c.args.text.now == 0) ≡ false = sym c.is_empty.ensures ∙ c.if-is_empty.false in
    let is = said_cut c.args.text.now c.split_once.result c.in-Some.interpreter c.in-Some.rest some c.split_once.ensures.cases c.in-Some.is in
    cc

pub returns-in-None : goal.returns-in-None
returns-in-None c =
    let some : (length c.args.text.now == 0) ≡ false = sym c.is_empty.ensures ∙ c.if-is_empty.false in
    let is = said_whole c.args.text.now c.split_once.result some c.split_once.ensures.cases c.in-None.is in
    cc

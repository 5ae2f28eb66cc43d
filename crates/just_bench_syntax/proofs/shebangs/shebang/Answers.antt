use Rattle.just_bench_syntax.proofs.Interpreters.{shebang_none, shebang_some}
use Rattle.just_bench_syntax.proofs.shebangs.shebang.Goals as goal

pub returns-in-Some : goal.returns-in-Some
returns-in-Some c =
    let is = shebang_some c.args.text.now c.strip_prefix.result c.in-Some.rest c.strip_prefix.ensures.cases c.in-Some.is in
    cc

pub returns-in-None : goal.returns-in-None
returns-in-None c =
    let is = shebang_none c.args.text.now c.strip_prefix.result c.strip_prefix.ensures.cases c.in-None.is in
    cc

use Rattle.std.proofs.Common.{arith}
use Rattle.just_module_contents.proofs.redefinition.redefinition.Goals as goal

pub returns-then-line : goal.returns-then-line
returns-then-line c = record { greater = λ lt. (c.told.ensures.token, c.told.ensures.kind); not_greater = λ le. absurd (omega (arith, le, c.if-line.true, c.line.ensures, c.line-2.ensures)) }

pub returns : goal.returns
returns c = record { greater = λ lt. absurd (omega (arith, lt, c.if-line.false, c.line.ensures, c.line-2.ensures)); not_greater = λ le. (c.told-2.ensures.token, c.told-2.ensures.kind) }

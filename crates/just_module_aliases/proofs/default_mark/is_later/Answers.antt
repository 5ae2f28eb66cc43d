use Rattle.std.proofs.Common.{◌∙◌, arith, is_lt}
use Rattle.std.specs.Cmp.Lexicographic.{slice_cmp}
use Rattle.std.specs.Ordering.{nat_cmp}
use Rattle.just_module_aliases.proofs.Later.{later_by_name, later_by_no_less, less_by, not_less_by}
use Rattle.just_module_aliases.proofs.default_mark.is_later.Goals as goal

pub returns-then-line-clause-yes : goal.returns-then-line-clause-yes
returns-then-line-clause-yes c = λ yes. later_by_name c.args.first.now c.args.second.now (omega (arith, c.if-line.true, c.line.ensures, c.line-2.ensures)) (less_by _ c.lt.result (c.lt.ensures ∙ (λ i. is_lt (slice_cmp nat_cmp (c.lexeme.ensures i) (c.lexeme-then-line.ensures i)))) yes)

pub returns-then-line-clause-no : goal.returns-then-line-clause-no
returns-then-line-clause-no c = λ no. later_by_no_less c.args.first.now c.args.second.now (omega (arith, c.if-line.true, c.line.ensures, c.line-2.ensures)) (not_less_by _ c.lt.result (c.lt.ensures ∙ (λ i. is_lt (slice_cmp nat_cmp (c.lexeme.ensures i) (c.lexeme-then-line.ensures i)))) no)

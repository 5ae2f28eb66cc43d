use Rattle.std.proofs.Common.{◌∙◌, arith, is_lt}
use Rattle.std.specs.Cmp.Lexicographic.{slice_cmp}
use Rattle.std.specs.Ordering.{nat_cmp}
use Rattle.just_module_aliases.proofs.Later.{less_by, not_less_by}
use Rattle.just_module_aliases.proofs.Defaults.{by_name, by_no_less}
use Rattle.just_module_aliases.proofs.default_choice.comes_before.Goals as goal

pub returns-then-line-clause-yes : goal.returns-then-line-clause-yes
returns-then-line-clause-yes c = λ yes. by_name c.args.recipe.now c.args.other.now (omega (arith, c.if-line.true, c.line.ensures, c.line-2.ensures)) (less_by _ c.lt.result (c.lt.ensures ∙ (λ i. is_lt (slice_cmp nat_cmp (c.lexeme.ensures i) (c.lexeme-then-line.ensures i)))) yes)

pub returns-then-line-clause-no : goal.returns-then-line-clause-no
returns-then-line-clause-no c = λ no. by_no_less c.args.other.now c.args.recipe.now (omega (arith, c.if-line.true, c.line.ensures, c.line-2.ensures)) (not_less_by _ c.lt.result (c.lt.ensures ∙ (λ i. is_lt (slice_cmp nat_cmp (c.lexeme.ensures i) (c.lexeme-then-line.ensures i)))) no)

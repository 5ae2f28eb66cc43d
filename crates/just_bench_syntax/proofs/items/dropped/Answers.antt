use Rattle.std.proofs.Common.{◌≡◌, Some, true, false, ap, sym, ◌∙◌, arith, length, nat_eq, take}
use Rattle.std.specs.List.{prefix_len, starts_with}
use Rattle.std.proofs.lemmas.Grind.{common_steps}
use Rattle.std.proofs.lemmas.Str.Pattern.{starts_text}
use Rattle.just_bench_expressions.specs.Lexemes.{is_blank}
use Rattle.just_bench_lines.proofs.Bounds.{blanks_cut}
use Rattle.just_bench_syntax.proofs.Dropped.{dropped_by}
use Rattle.just_bench_syntax.proofs.items.dropped.Goals as goal

pub range-requires-clause-end_boundary : goal.range-requires-clause-end_boundary
range-requires-clause-end_boundary c = blanks_cut c.as_str-text.result.now c.args.blanks c.as_str-text.utf8 (c.requires ∙ ap (prefix_len is_blank) (sym c.as_str-text.ensures))

pub returns-then-starts_with-clause-is : goal.returns-then-starts_with-clause-is
returns-then-starts_with-clause-is c =
    let whole : c.range.result.now ≡ take c.args.blanks c.args.line.now.text = grind (arith, common_steps) in
    let has : c.starts_with.result ≡ starts_with nat_eq c.range.result.now c.as_str.result.now = starts_text c.starts_with.result c.as_str.result.now c.range.result.now c.starts_with.ensures.cases in
    let is = ap (λ t. starts_with nat_eq t c.in-Goes.first) (sym whole) ∙ ap (starts_with nat_eq c.range.result.now) (sym c.as_str.ensures) ∙ sym has ∙ c.if-starts_with.true in
    ap (λ t. Some (length t)) c.as_str-then-starts_with.ensures ∙ sym (dropped_by c.in-Goes.first c.args.line.now c.args.blanks c.args.body.now true c.in-Goes.is is)

pub returns-else-starts_with-clause-is : goal.returns-else-starts_with-clause-is
returns-else-starts_with-clause-is c =
    let whole : c.range.result.now ≡ take c.args.blanks c.args.line.now.text = grind (arith, common_steps) in
    let has : c.starts_with.result ≡ starts_with nat_eq c.range.result.now c.as_str.result.now = starts_text c.starts_with.result c.as_str.result.now c.range.result.now c.starts_with.ensures.cases in
    let is = ap (λ t. starts_with nat_eq t c.in-Goes.first) (sym whole) ∙ ap (starts_with nat_eq c.range.result.now) (sym c.as_str.ensures) ∙ sym has ∙ c.if-starts_with.false in
    sym (dropped_by c.in-Goes.first c.args.line.now c.args.blanks c.args.body.now false c.in-Goes.is is)

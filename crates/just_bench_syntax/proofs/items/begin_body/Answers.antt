use Rattle.std.proofs.Common.{ap, sym, ◌∙◌}
use Rattle.std.specs.List.{prefix_len}
use Rattle.just_bench_expressions.specs.Lexemes.{is_blank}
use Rattle.just_bench_lines.proofs.Bounds.{blanks_cut}
use Rattle.just_bench_syntax.proofs.items.begin_body.Goals as goal

pub range-requires-clause-end_boundary : goal.range-requires-clause-end_boundary
range-requires-clause-end_boundary c = blanks_cut c.as_str.result.now c.args.blanks c.as_str.utf8 (c.requires ∙ ap (prefix_len is_blank) (sym c.as_str.ensures))

use Rattle.std.proofs.Common.{◌≡◌, drop}
use Rattle.just_bench_syntax.specs.Items.{with_lines}
use Rattle.just_bench_syntax.proofs.items.add_lines.Given as goal

abbrev pub invariant-loop-line : goal.invariant-loop-line
invariant-loop-line l = with_lines l.path l.text l.initial.reading l.all ≡ with_lines l.path l.text l.reading (drop l.line-index l.all)

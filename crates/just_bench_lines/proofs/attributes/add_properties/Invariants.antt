use Rattle.std.proofs.Common.{length, ◌-◌}
use Rattle.just_bench_lines.specs.Attributes.{with_properties}
use Rattle.just_bench_lines.proofs.Props.{Props}
use Rattle.just_bench_lines.proofs.attributes.add_properties.Given as goal

abbrev pub invariant-loop-lexemes : goal.invariant-loop-lexemes
invariant-loop-lexemes l = Props l.spelling (with_properties l.spelling l.start l.initial.properties) l.at l.properties

abbrev pub decreases-loop-lexemes : goal.decreases-loop-lexemes
decreases-loop-lexemes l = length l.spelling - l.at

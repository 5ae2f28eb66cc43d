use Rattle.just_bench_stops.proofs.Readings.{bad_unended, lexemes_reach, unended_bad}
use Rattle.just_bench_stops.proofs.laws.lines_go_to_their_ends.Goals as goal

pub returns-clause-bad : goal.returns-clause-bad
returns-clause-bad c = bad_unended

pub returns-clause-unended : goal.returns-clause-unended
returns-clause-unended c = unended_bad

pub returns-clause-lexemes : goal.returns-clause-lexemes
returns-clause-lexemes c = lexemes_reach

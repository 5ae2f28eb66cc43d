use Rattle.just_bench_stops.proofs.Readings.{interpolations, lines_or_bad}
use Rattle.just_bench_stops.proofs.laws.body_lines_go_to_their_ends.Goals as goal

pub returns-clause-lines : goal.returns-clause-lines
returns-clause-lines c = lines_or_bad

pub returns-clause-interpolations : goal.returns-clause-interpolations
returns-clause-interpolations c = interpolations

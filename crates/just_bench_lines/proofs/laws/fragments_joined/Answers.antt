use Rattle.just_bench_lines.proofs.Pieces.{pieces_are_line}
use Rattle.just_bench_lines.proofs.laws.fragments_joined.Goals as goal

pub returns : goal.returns
returns c = pieces_are_line

use Rattle.std.proofs.Common.{refl}
use Rattle.just_bench.proofs.laws.layers_agree_on_lines.Goals as goal

pub returns : goal.returns
returns c = record { sigils_of = λ line settings. refl; goes_on = λ line. refl }

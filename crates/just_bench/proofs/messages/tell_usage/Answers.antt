use Rattle.std.proofs.Common.{refl}
use Rattle.std.specs.Prelude.{codes}
use Rattle.just_bench.proofs.Visible.{ascii_line}
use Rattle.just_bench.proofs.messages.tell_usage.Goals as goal

pub write_line-requires : goal.write_line-requires
write_line-requires g c = ascii_line (codes "justrun: usage: justrun ROOT WORD..") refl

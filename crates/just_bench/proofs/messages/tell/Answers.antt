use Rattle.std.proofs.Common.{refl}
use Rattle.std.specs.Prelude.{codes}
use Rattle.just_bench.proofs.Visible.{ascii_line}
use Rattle.just_bench.proofs.messages.tell.Goals as goal

pub write_line-requires-in-Err : goal.write_line-requires-in-Err
write_line-requires-in-Err g c = ascii_line (codes "justrun: Memory: Out of memory") refl

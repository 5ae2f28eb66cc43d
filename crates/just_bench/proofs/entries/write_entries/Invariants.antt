use Rattle.std.proofs.Common.{take}
use Rattle.std.specs.Io.KnownBytes.{Appends}
use Rattle.just_bench.specs.Entries.{entry_lines}
use Rattle.just_bench.proofs.entries.write_entries.Given as goal

abbrev pub invariant-loop-entry : goal.invariant-loop-entry
invariant-loop-entry g l = Appends (g.W.Write.contents l.fn.output) (g.W.Write.contents l.output) (entry_lines (take l.entry-index l.entries))

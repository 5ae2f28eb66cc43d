use Rattle.just_bench.specs.Entries.{entry_line}
use Rattle.just_bench.proofs.Written.{begun_within}
use Rattle.just_bench.proofs.entries.write_entries.Goals as goal

pub returns-in_err-write_entry-clause-begun : goal.returns-in_err-write_entry-clause-begun
returns-in_err-write_entry-clause-begun g c =
    begun_within entry_line c.args.entries.now c.loop-entry.entry-index c.entry-item.result c.loop-entry-test.true c.entry-item.is (g.W.Write.contents c.args.output.now)
    (g.W.Write.contents c.loop-entry.output) (g.W.Write.contents c.write_entry.new.output) c.loop-entry.invariant c.write_entry.ensures.begun

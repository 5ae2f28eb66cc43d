use Rattle.std.proofs.Common.{◌≡◌, ◌≤◌, ◌-◌, ◌++◌, length, take}
use Rattle.just_evaluate.proofs.outputs.write_all.Given as goal

abbrev pub invariant-loop-at : goal.invariant-loop-at
invariant-loop-at g l = record {
  within : l.at ≤ length l.bytes;
  written : g.W.Output.written l.writer ≡ g.W.Output.written l.initial.writer ++ take l.at l.bytes;
  stays : g.W.Output.failed l.writer ≡ g.W.Output.failed l.initial.writer;
}

abbrev pub decreases-loop-at : goal.decreases-loop-at
decreases-loop-at g l = length l.bytes - l.at

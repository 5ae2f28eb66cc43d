use Rattle.std.proofs.Common.{◌≡◌, ◌++◌, string_bytes, take}
use Rattle.just_bench.specs.Entries.{further}
use Rattle.just_bench.proofs.entries.add_further.Given as goal

abbrev pub invariant-loop-text : goal.invariant-loop-text
invariant-loop-text l = string_bytes l.line ≡ string_bytes l.fn.line ++ further (take l.text-index l.texts)

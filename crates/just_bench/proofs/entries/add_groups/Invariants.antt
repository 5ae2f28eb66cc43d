use Rattle.std.proofs.Common.{◌≡◌, ◌++◌, string_bytes, take}
use Rattle.just_bench.specs.Entries.{groups_text}
use Rattle.just_bench.proofs.entries.add_groups.Given as goal

abbrev pub invariant-loop-group : goal.invariant-loop-group
invariant-loop-group l = string_bytes l.line ≡ string_bytes l.fn.line ++ groups_text (take l.group-index l.groups)

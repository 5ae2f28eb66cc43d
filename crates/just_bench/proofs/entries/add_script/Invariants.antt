use Rattle.std.proofs.Common.{◌≡◌, ◌++◌, string_bytes, take}
use Rattle.just_bench.specs.Entries.{script_lines}
use Rattle.just_bench.proofs.entries.add_script.Given as goal

abbrev pub invariant-loop-line : goal.invariant-loop-line
invariant-loop-line l = string_bytes l.lines ≡ string_bytes l.fn.lines ++ script_lines (take l.line-index l.script)

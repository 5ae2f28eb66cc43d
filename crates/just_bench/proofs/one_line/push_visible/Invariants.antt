use Rattle.std.proofs.Common.{◌≡◌, ◌≤◌, ◌++◌, string_bytes}
use Rattle.std.proofs.Math.Utf8.{encodes}
use Rattle.std.specs.Char.Escape.{escape_default}
use Rattle.std.specs.Char.Iter.{escape_end, escape_rest}
use Rattle.just_bench.proofs.one_line.push_visible.Given as goal

abbrev pub invariant-loop-escaped : goal.invariant-loop-escaped
invariant-loop-escaped l = record {
  bound : escape_end l.escaped-iterator ≤ 10;
  spelled : string_bytes l.line ≡ string_bytes l.fn.line ++ encodes l.yielded;
  left : l.yielded ++ escape_rest l.escaped-iterator ≡ escape_default l.fn.c;
}

use Rattle.std.proofs.Common.{◌≡◌, ◌+◌, length, map, take}
use Rattle.just_parts.specs.Bare.{bare_parameter}
use Rattle.just_parts.specs.Syntax.{parameter_numbers}
use Rattle.just_bench_syntax.specs.loops.Numbering.{AreNumberedInTurn}
use Rattle.just_bench_syntax.proofs.item_numbers.number_parameters.Given as goal

abbrev pub invariant-loop-place : goal.invariant-loop-place
invariant-loop-place l = record {
  count : length l.parameters.items ≡ length l.initial.parameters.items;
  bare : map bare_parameter l.parameters.items ≡ map bare_parameter l.initial.parameters.items;
  numbered : AreNumberedInTurn l.initial.numerator (parameter_numbers (take l.place l.parameters.items)) l.numerator;
  spent : l.numerator ≡ l.initial.numerator + l.place;
}

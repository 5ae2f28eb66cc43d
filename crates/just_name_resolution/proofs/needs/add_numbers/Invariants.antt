use Rattle.std.proofs.Common.{◌≡◌, ◌≤◌, ◌||◌, length}
use Rattle.std.specs.HashSet.{contains, spare}
use Rattle.std.specs.List.{list_any}
use Rattle.just_names.specs.declared.number.Number.{Number}
use Rattle.just_parts.specs.Needs.{same_number}
use Rattle.just_name_resolution.proofs.needs.add_numbers.Given as goal

abbrev pub invariant-loop-number : goal.invariant-loop-number
invariant-loop-number l = record {
  members : (n : Number) → (contains same_number l.references n || list_any (same_number n) l.number-iterator) ≡ (contains same_number l.initial.references n || contains same_number l.fn.numbers n);
  room : length l.number-iterator ≤ spare l.references;
}

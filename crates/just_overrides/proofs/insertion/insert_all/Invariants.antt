use Rattle.std.proofs.Common.{◌≡◌, ◌≤◌, length}
use Rattle.std.specs.HashMap.{get, spare}
use Rattle.std.specs.Option.{option_or}
use Rattle.just_module_variables.specs.Overrides.{last_of}
use Rattle.just_names.specs.declared.number.Number.{Number}
use Rattle.just_parts.specs.Needs.{same_number}
use Rattle.just_overrides.proofs.insertion.insert_all.Given as goal

abbrev pub invariant-loop-number : goal.invariant-loop-number
invariant-loop-number l = record {
  rest : (n : Number) → option_or (last_of l.number-iterator.rest.items n) (get same_number l.overrides n) ≡ option_or (last_of l.fn.pairs.items n) (get same_number l.initial.overrides n);
  room : length l.number-iterator.rest.items ≤ spare l.overrides;
}

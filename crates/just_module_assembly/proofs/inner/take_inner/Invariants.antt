use Rattle.std.proofs.Common.{◌≡◌, ℕ, List, [], Some, length, map, take}
use Rattle.std.specs.List.{Contains}
use Rattle.just_justfile.specs.declared.justfile.Justfile.{Justfile}
use Rattle.just_compiled.specs.Labelled.{held_by_name, slot, with_labels}
use Rattle.just_module_assembly.proofs.inner.take_inner.Given as goal

abbrev pub invariant-loop-at : goal.invariant-loop-at
invariant-loop-at l = record {
  table : (js : List Justfile) → map Some js ≡ map (slot l.initial.slots.items) l.row → l.table ≡ held_by_name [] (with_labels (take l.at js) (take l.at l.labels));
  room : length l.slots.items ≡ length l.initial.slots.items;
  others : (q : ℕ) → (Contains (take l.at l.row) q → ⊥) → slot l.slots.items q ≡ slot l.initial.slots.items q;
}

use Rattle.std.proofs.Common.{◌≡◌, ◌≤◌, ◌||◌, length}
use Rattle.std.specs.HashSet.{contains, spare}
use Rattle.std.specs.List.{list_any}
use Rattle.std.specs.Str.{bytes_eq}
use Rattle.just_names.specs.Texts.{Text}
use Rattle.just_name_resolution.proofs.needs.add_functions.Given as goal

abbrev pub invariant-loop-function : goal.invariant-loop-function
invariant-loop-function l = record {
  members : (name : Text) → (contains bytes_eq l.visited name || list_any (bytes_eq name) l.function-iterator) ≡ (contains bytes_eq l.initial.visited name || contains bytes_eq l.fn.functions name);
  room : length l.function-iterator ≤ spare l.visited;
}

use Rattle.std.proofs.Common.{◌≢◌, ℕ, ◌<◌, List}
use Rattle.std.specs.Str.{bytes_eq}
use Rattle.std.specs.HashMap.{get}
use Rattle.just_module_contents.specs.Definitions.{sets_in}
use Rattle.just_names.specs.Index.{name_at, IsLast}
use Rattle.just_module_contents.specs.Settings.{setting_names}
use Rattle.just_module_headers.proofs.settings.index_sets.Given as goal

abbrev pub invariant-loop-place : goal.invariant-loop-place
invariant-loop-place l = record {
  index : (name : List ℕ) → IsLast (setting_names (sets_in l.definitions)) l.place name (get bytes_eq l.index name);
  different : (i j : ℕ) → i < j → j < l.place → name_at (setting_names (sets_in l.definitions)) i ≢ name_at (setting_names (sets_in l.definitions)) j;
}

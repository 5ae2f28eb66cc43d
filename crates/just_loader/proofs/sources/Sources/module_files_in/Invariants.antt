use Rattle.std.proofs.Common.{◌≡◌, ◌++◌, string_bytes}
use Rattle.std.specs.List.{filter}
use Rattle.std.specs.Map.{keys_of}
use Rattle.just_table.specs.Entries.{shown, IsSorted}
use Rattle.just_names.specs.Texts.{texts}
use Rattle.just_loader.specs.ModuleFile.{slashed, is_module_file, files_in}
use Rattle.just_loader.proofs.Passed.{AreFrom}
use Rattle.just_loader.proofs.sources.Sources.module_files_in.Given as goal

abbrev pub invariant-loop-path : goal.invariant-loop-path
invariant-loop-path l = record {
  can_next : (goal.iterator-loop-path).can_next l.path-iterator;
  is_finite : (goal.iterator-loop-path).is_finite l.path-iterator;
  prefix : string_bytes l.prefix ≡ slashed l.folder;
  sorted : IsSorted (shown (λ k. k.now) l.path-iterator);
  are_from : AreFrom (slashed l.folder) (shown (λ k. k.now) l.path-iterator);
  found : texts l.paths.items ++ filter (is_module_file l.folder) (keys_of (shown (λ k. k.now) l.path-iterator)) ≡ files_in l.self l.folder;
}

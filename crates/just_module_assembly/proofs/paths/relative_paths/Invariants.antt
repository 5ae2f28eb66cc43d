use Rattle.std.specs.HashMap.{get}
use Rattle.std.specs.Map.{keys_of}
use Rattle.std.specs.Str.{bytes_eq}
use Rattle.just_module_assembly.proofs.ShownPaths.{HaveSoFar}
use Rattle.just_module_assembly.proofs.paths.relative_paths.Given as goal

abbrev pub invariant-loop-key : goal.invariant-loop-key
invariant-loop-key l =
    (goal.iterator-loop-key).can_next l.key-iterator ×
    (goal.iterator-loop-key).is_finite l.key-iterator ×
    HaveSoFar l.folder (get bytes_eq l.paths) (keys_of l.key-iterator) (keys_of l.asts.entries)

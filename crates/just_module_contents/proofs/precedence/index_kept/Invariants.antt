use Rattle.std.specs.Str.{bytes_eq}
use Rattle.std.specs.HashMap.{get}
use Rattle.just_module_contents.specs.loops.Kept.{IsBestSoFar}
use Rattle.just_module_contents.proofs.precedence.index_kept.Given as goal

abbrev pub invariant-loop-place : goal.invariant-loop-place
invariant-loop-place l = IsBestSoFar l.claims l.place (get bytes_eq l.index)

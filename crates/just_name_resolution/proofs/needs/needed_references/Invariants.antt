use Rattle.std.proofs.Common.{◌≡◌, map, take}
use Rattle.just_name_resolution.specs.loops.Search.{scoped_of}
use Rattle.just_name_resolution.proofs.needs.needed_references.Given as goal
use Rattle.just_parts.specs.Known.{none_hidden}
use Rattle.just_parts.specs.Scopes.{scoped}

abbrev pub invariant-loop-place : goal.invariant-loop-place
invariant-loop-place l = map scoped_of l.stack.items ≡ map (λ e. scoped none_hidden e.now) (take l.place l.expressions.items)

use Rattle.std.specs.HashSet.{contains}
use Rattle.std.specs.Str.{bytes_eq}
use Rattle.just_parts.specs.Needs.{has_number, same_number}
use Rattle.just_name_resolution.specs.loops.Search.{LooksSoFar, found_in}
use Rattle.just_name_resolution.specs.Lent.{tables_in}
use Rattle.just_parts.specs.Reading.{mentions}
use Rattle.just_name_resolution.proofs.needs.look_into.Given as goal

abbrev pub invariant-loop-reference : goal.invariant-loop-reference
invariant-loop-reference l =
    LooksSoFar (tables_in l.tables) (has_number l.overrides) (contains bytes_eq l.hidden) (mentions l.waiting.expression.now) l.reference-iterator
    (found_in (contains same_number l.references) (contains bytes_eq l.visited) l.initial.search) (found_in (contains same_number l.references) (contains bytes_eq l.visited) l.search)

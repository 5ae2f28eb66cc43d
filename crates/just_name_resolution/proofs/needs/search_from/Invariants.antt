use Rattle.std.proofs.Common.{◌+◌, length, map}
use Rattle.std.specs.HashSet.{contains}
use Rattle.std.specs.Str.{bytes_eq}
use Rattle.just_parts.specs.Needs.{has_number, same_number}
use Rattle.just_name_resolution.specs.loops.Search.{IsSearchFrom, found_in, scoped_of, unfound}
use Rattle.just_name_resolution.specs.Lent.{tables_in}
use Rattle.just_name_resolution.proofs.needs.search_from.Given as goal

abbrev pub invariant-loop-next : goal.invariant-loop-next
invariant-loop-next l =
    IsSearchFrom (tables_in l.tables) (has_number l.overrides) (map scoped_of l.fn.stack.items) (contains same_number l.references) (contains bytes_eq l.visited)
    (found_in (contains same_number l.references) (contains bytes_eq l.visited) l.search)

abbrev pub decreases-loop-next : goal.decreases-loop-next
decreases-loop-next l =
    unfound (tables_in l.tables) (found_in (contains same_number l.references) (contains bytes_eq l.visited) l.search) + length l.search.stack.items

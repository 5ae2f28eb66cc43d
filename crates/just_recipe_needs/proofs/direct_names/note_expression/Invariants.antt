use Rattle.std.specs.HashSet.{contains}
use Rattle.std.specs.Str.{bytes_eq}
use Rattle.just_name_resolution.specs.Lent.{tables_in}
use Rattle.just_parts.specs.Reading.{mentions}
use Rattle.just_recipe_needs.proofs.Noting.{NotedSoFar}
use Rattle.just_recipe_needs.proofs.direct_names.note_expression.Given as goal

abbrev pub invariant-loop-reference : goal.invariant-loop-reference
invariant-loop-reference l =
    NotedSoFar (tables_in l.tables) (contains bytes_eq l.hidden) (mentions l.expression) l.reference-iterator l.initial.names l.names

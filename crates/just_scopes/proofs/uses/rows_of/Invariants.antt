use Rattle.std.proofs.Common.{◌≡◌}
use Rattle.just_tasks.specs.Leading.{needed_places}
use Rattle.just_graph.specs.Building.{EachRow}
use Rattle.just_scopes.proofs.uses.rows_of.Given as goal

abbrev pub invariant-loop-place : goal.invariant-loop-place
invariant-loop-place l = EachRow (λ place row. row ≡ needed_places l.recipes place) l.place l.rows.items

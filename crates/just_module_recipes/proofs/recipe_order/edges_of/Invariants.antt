use Rattle.std.proofs.Common.{◌≡◌, get_or, []}
use Rattle.just_graph.specs.Building.{EachRow}
use Rattle.just_module_recipes.specs.loops.Rows.{near}
use Rattle.just_module_recipes.proofs.recipe_order.edges_of.Given as goal

abbrev pub invariant-loop-place : goal.invariant-loop-place
invariant-loop-place l = EachRow (λ a row. row ≡ near (get_or l.rows a [])) l.place l.edges.items

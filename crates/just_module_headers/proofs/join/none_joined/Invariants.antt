use Rattle.std.proofs.Common.{◌≡◌, []}
use Rattle.just_graph.specs.Building.{EachRow}
use Rattle.just_module_headers.proofs.join.none_joined.Given as goal

abbrev pub invariant-loop : goal.invariant-loop
invariant-loop l = EachRow (λ a row. row ≡ []) l.counter l.files.items × EachRow (λ a row. row ≡ []) l.counter l.modules.items

use Rattle.std.specs.HashMap.{get}
use Rattle.just_graph.specs.Building.{EachRow}
use Rattle.just_parts.specs.Asts.{same_ast_key}
use Rattle.just_module_headers.specs.Files.{AreKeyPlaces, asts_in, led_from}
use Rattle.just_module_headers.proofs.files.Files.rows_of.Given as goal

abbrev pub invariant-loop-place : goal.invariant-loop-place
invariant-loop-place g l = EachRow (λ p row. AreKeyPlaces (get same_ast_key l.self.places) (led_from l.inside (g.S.Syntax.answers l.syntax).enabled (asts_in l.self) p) row) l.place l.rows.items

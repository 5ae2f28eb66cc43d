use Rattle.std.proofs.Common.{sym, subst}
use Rattle.std.specs.HashMap.{get}
use Rattle.just_graph.specs.Building.{each_row_push}
use Rattle.just_parts.specs.Asts.{same_ast_key}
use Rattle.just_module_headers.specs.Files.{AreKeyPlaces, led_in}
use Rattle.just_module_headers.proofs.files.Files.rows_of.Goals as goal

pub loop-place-preserved : goal.loop-place-preserved
loop-place-preserved g c =
    each_row_push _ _ _ _ _ c.loop-place.invariant
    (subst (λ o. AreKeyPlaces (get same_ast_key c.args.self.now.places) (led_in c.args.inside (g.S.Syntax.answers c.args.syntax.now).enabled o) c.in_ok-row.field-0.items) (sym c.ast_at-ast.ensures) c.in_ok-row.ensures)
    c.in_ok-push.ensures.items

use Rattle.std.proofs.Common.{◌≡◌, ◌++◌, Some, drop, map}
use Rattle.std.specs.HashMap.{get}
use Rattle.just_parts.specs.Asts.{same_ast_key}
use Rattle.just_module_headers.specs.Files.{HoldsAll, all_led}
use Rattle.just_module_headers.proofs.files.row.Given as goal

abbrev pub invariant-loop-item : goal.invariant-loop-item
invariant-loop-item g l =
    let table = get same_ast_key l.places in
    let left = all_led l.inside (g.S.Syntax.answers l.syntax).enabled l.ast.module_path (drop l.item-index l.item-items) in
    HoldsAll table left × (map table (all_led l.inside (g.S.Syntax.answers l.syntax).enabled l.ast.module_path l.item-items) ≡ map Some l.row.items ++ map table left)

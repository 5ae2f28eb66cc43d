-- What private functions say beside `Edge.antt`.
use Rattle.just_ast_items.specs.declared.item.Item.TheVariants as item
use Rattle.just_ast_items.specs.declared.edge.Edge.{Edge as LentEdge}
use Rattle.just_ast_items.specs.declared.edge.Edge.TheVariants as lent
use Rattle.just_ast_items.specs.Edge.{Declares, Edge, Imports}

-- the same where it borrows from the item
abbrev pub lent_edge : LentEdge → Edge
lent_edge (lent.Import relative optional) = Imports relative.now optional
lent_edge (lent.Module name relative optional) = Declares name.now relative.now optional

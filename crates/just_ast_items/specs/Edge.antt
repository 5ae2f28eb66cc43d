-- How an item leads to a file.
use Rattle.std.specs.Prelude.{ℕ, Bool, List, Option, None, Some}
use Rattle.just_names.specs.declared.name.Name.{Name}
use Rattle.just_ast_expressions.specs.declared.string_literal.StringLiteral.{StringLiteral}
use Rattle.just_ast_items.specs.declared.item.Item.{Item}
use Rattle.just_ast_items.specs.declared.item.Item.TheVariants as item

-- It imports the file of a quoted text, or declares a module by its name, whose file may have one. Where it is optional, the file may be missing.
pub data Edge : Type 0 where
  Imports : StringLiteral → Bool → Edge
  Declares : Name → Option StringLiteral → Bool → Edge

abbrev pub edge_of : {R : Type 0} → Item R → Option Edge
edge_of (item.Import relative absolute optional) = Some (Imports relative optional)
edge_of (item.Module name relative absolute attributes doc optional) = Some (Declares name relative optional)
edge_of _ = None

-- the absolute path of the file to which an item leads, as far as it stands in the item
abbrev pub absolute_of : {R : Type 0} → Item R → Option (List ℕ)
absolute_of (item.Import relative absolute optional) = absolute
absolute_of (item.Module name relative absolute attributes doc optional) = absolute
absolute_of _ = None

-- an item with the absolute path of the file to which it leads, where it leads to files
abbrev pub with_absolute : {R : Type 0} → Option (List ℕ) → Item R → Item R
with_absolute path (item.Import relative absolute optional) = item.Import relative path optional
with_absolute path (item.Module name relative absolute attributes doc optional) = item.Module name relative path attributes doc optional
with_absolute path i = i

-- What private functions say beside `Files.antt`.
use Rattle.std.specs.Prelude.{Bool, ℕ, List, length}
use Rattle.std.specs.HashMap.{get}
use Rattle.std.specs.declared.alloc.Global.{Global}
use Rattle.std.specs.declared.vec.Vec.{Vec}
use Rattle.just_graph.specs.Building.{EachRow}
use Rattle.just_parts.specs.Asts.{AstKey, same_ast_key}
use Rattle.just_parts.specs.Items.{Ast, Item}
use Rattle.just_module_headers.specs.declared.files.Files.{Files}
use Rattle.just_module_headers.specs.Files.{AreKeyPlaces, all_led, asts_in, led_from}

abbrev pub led_of : Bool → (Item → Bool) → Ast → List AstKey
led_of inside enabled ast = all_led inside enabled ast.module_path ast.items

-- a row of places for each file: those of the keys to which its items lead
abbrev pub AreRowsOf : Bool → (Item → Bool) → Files → List (Vec ℕ Global) → Type 0
AreRowsOf inside enabled files rows = EachRow (λ p row. AreKeyPlaces (get same_ast_key files.places) (led_from inside enabled (asts_in files) p) row) (length files.asts.items) rows

-- What is read of items.
use Rattle.std.specs.Prelude.{Bool, List, [], flat_map, Option, None, Some, if◌then◌else◌}
use Rattle.just_parts.specs.Bare.{bare_item}
use Rattle.just_parts.specs.Items.{Ast, Item}

-- what enabled items say, by what is read of each
abbrev pub said : {A : Type 0} → (Item → List A) → (Item → Bool) → List Item → List A
said by enabled items = flat_map (λ i. if enabled (bare_item i) then by i else []) items

abbrev pub said_in : {A : Type 0} → (Item → List A) → (Item → Bool) → Option Ast → List A
said_in by enabled None = []
said_in by enabled (Some ast) = said by enabled ast.items

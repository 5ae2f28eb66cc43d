-- What items say, item after item.
use Rattle.std.proofs.Common.{◌≡◌, ◌∙◌, ℕ, ◌+◌, ◌<◌, Bool, List, [], ◌++◌, length, drop, get_or, ap, sym}
use Rattle.std.specs.Prelude.{if◌then◌else◌}
use Rattle.std.proofs.lemmas.List.{drop_more}
use Rattle.just_parts.specs.Bare.{bare_item}
use Rattle.just_parts.specs.Items.{Item}
use Rattle.just_module_contents.specs.Said.{said}

-- what the item at a place says, and then the others
pub said_on : {A : Type 0} (by : Item → List A) (enabled : Item → Bool) (items : List Item) (i : ℕ) (item : Item) (told : Bool) →
    i < length items → item ≡ get_or items i item → told ≡ enabled (bare_item item) →
    said by enabled (drop i items) ≡ (if told then by item else []) ++ said by enabled (drop (i + 1) items)
said_on by enabled items i item told within is same =
    ap (said by enabled) (drop_more items i item within)
    ∙ (λ j. (if enabled (bare_item (sym is j)) then by (sym is j) else []) ++ said by enabled (drop (i + 1) items))
    ∙ (λ j. (if sym same j then by item else []) ++ said by enabled (drop (i + 1) items))

-- Numbers of the items of a text.
use Rattle.std.specs.Prelude.{ℕ, List, length}
use Rattle.just_parts.specs.Items.{Item}
use Rattle.just_parts.specs.Syntax.{numbers_of_items}

-- how many numbers items take
abbrev pub numbers_counted : List Item → ℕ
numbers_counted items = length (numbers_of_items items)

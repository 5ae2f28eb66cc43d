-- What private functions say beside `Words.antt`.
use Rattle.std.specs.Prelude.{Option, option_map}
use Rattle.std.specs.Borrow.{Bor}
use Rattle.just_names.specs.Texts.{Text}

-- the text that may be borrowed
abbrev pub value_text : Option (Bor Text) → Option Text
value_text value = option_map (λ v. v.now) value

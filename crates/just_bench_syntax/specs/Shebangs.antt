-- What runs a script, by its first line.
use Rattle.std.specs.Prelude.{ℕ, ◌-◌, ◌==◌, Bool, if◌then◌else◌, nat_eq, [], ◌∷◌, drop, take, length, codes, Option, Some, None}
use Rattle.std.specs.List.{after_first, before_first, list_any, prefix_len, starts_with, suffix_len}
use Rattle.std.specs.Char.{is_ascii_whitespace}
use Rattle.just_names.specs.Texts.{Text}
use Rattle.just_parts.specs.declared.layers.shebang.Shebang.{Shebang}

-- a text without the blanks before it and after it
abbrev pub without_end : Text → Text
without_end text = take (length text - suffix_len is_ascii_whitespace text) text

abbrev pub without_blanks : Text → Text
without_blanks text = without_end (drop (prefix_len is_ascii_whitespace text) text)

abbrev pub is_blank : ℕ → Bool
is_blank byte = byte == 32

-- the program up to the first blank, and what stands behind it
abbrev pub said_program : Text → Option Shebang
said_program [] = None
said_program (byte ∷ rest) =
    let text : Text = byte ∷ rest in
    if list_any is_blank text then Some (record { interpreter = before_first is_blank text; argument = Some (without_blanks (after_first is_blank text)) })
    else Some (record { interpreter = text; argument = None })

-- what stands behind `#!`
abbrev pub shebang : Text → Option Shebang
shebang text = if starts_with nat_eq text (codes "#!") then said_program (without_blanks (drop 2 text)) else None

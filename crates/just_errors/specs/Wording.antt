-- Parts of messages: counts of arguments, places in a file, lines, and the arguments of a command.
use Rattle.std.specs.Prelude.{ℕ, Option, Some, None, Bool, ◌+◌, ◌-◌, ◌==◌, ◌&&◌, ◌||◌, nat_le, nat_lt, min, length, slice_range, List, [], ◌++◌, codes, decimal, if◌then◌else◌}
use Rattle.std.specs.List.{count_by, flat_map}
use Rattle.std.specs.Char.{encode_utf8}
use Rattle.just_names.specs.Token.{Place}
use Rattle.just_errors.specs.declared.switch.Switch.{Switch}
use Rattle.just_errors.specs.declared.switch.Switch.TheVariants.{Long, Short}
use Rattle.just_errors.specs.declared.phrases.ArgumentRange.{ArgumentRange}

abbrev pub noun_text : ℕ → List ℕ
noun_text count = if count == 1 then codes "argument" else codes "arguments"

abbrev pub arguments_text : ℕ → List ℕ
arguments_text count = decimal count ++ (codes " " ++ noun_text count)

-- so many arguments are taken
abbrev pub takes : ArgumentRange → ℕ → Bool
takes range count = nat_le range.min count && nat_le count range.max

-- how many arguments are taken: a most of 2^64 - 2 or more stands for any number
abbrev pub takes_text : ℕ → ℕ → List ℕ
takes_text least most =
    if least == most then codes "exactly " ++ arguments_text least
    else (if nat_le 18446744073709551614 most then codes "at least " ++ arguments_text least
    else decimal least ++ (codes " to " ++ arguments_text most))

-- a line or a column, counted from 1
abbrev pub place_text : ℕ → List ℕ
place_text n = decimal (min (n + 1) 18446744073709551615)

-- how many characters begin in some bytes: each does in a byte that goes on with none before it
abbrev pub begins_character : ℕ → Bool
begins_character byte = nat_lt byte 128 || nat_le 192 byte

abbrev pub characters : List ℕ → ℕ
characters bytes = count_by begins_character bytes

-- what stands before a token in its line
abbrev pub before_in_line : Place → List ℕ
before_in_line token =
    let end = min token.offset (length token.src) in
    slice_range token.src (min (token.offset - token.column) end) end

-- where a token stands: the column counts characters
abbrev pub at_text : Place → List ℕ
at_text token = token.path ++ (codes ":" ++ (place_text token.line ++ (codes ":" ++ place_text (characters (before_in_line token)))))

-- what names an option, as it is written in the words
abbrev pub switch_text : Switch → List ℕ
switch_text (Long name) = codes "--" ++ name
switch_text (Short letter) = codes "-" ++ encode_utf8 letter

-- the line where a recipe failed, counted from 1
abbrev pub on_line_text : Option ℕ → List ℕ
on_line_text (Some line) = codes " on line " ++ decimal line
on_line_text None = []

-- the arguments of a command, each after a space
abbrev pub spaced_text : List (List ℕ) → List ℕ
spaced_text arguments = flat_map (λ a. codes " " ++ a) arguments

-- The pieces of a tail, and the words that they are.
use Rattle.std.specs.Prelude.{◌≡◌, ◌≢◌, ◌⊎◌, ℕ, Bool, false, ◌==◌, Option, Some, None, List, [], ◌∷◌, ◌++◌, map, chars}
use Rattle.std.specs.List.{list_any}
use Rattle.just_names.specs.Texts.{Text}
use Rattle.just_tail.specs.Words.{Words}
use Rattle.just_errors.specs.declared.switch.Switch.{Switch}
use Rattle.just_errors.specs.declared.switch.Switch.TheVariants.{Long, Short}

-- what names an option in the words, less its dashes: the `NAME` of `--NAME`, or the characters after one `-`
pub data OptionName : Type 0 where
  long : Text → OptionName
  cluster : Text → OptionName

-- what is given to a switch: nothing, the `V` of `=V`, or the next word
pub data Supplied : Type 0 where
  nothing : Supplied
  equals : Text → Supplied
  next : Text → Supplied

-- a piece of a tail: a positional word, the `--` that is dropped, or an option, whose last switch is given something
pub data Piece : Type 0 where
  positional : Text → Piece
  dashes : Piece
  option : OptionName → Supplied → Piece

-- the name with its dashes
abbrev pub dashed_name : OptionName → Text
dashed_name (long name) = 45 ∷ (45 ∷ name)
dashed_name (cluster name) = 45 ∷ name

-- a text, and `=V` after it where there is a `V`
abbrev pub with_value : Text → Option Text → Text
with_value text None = text
with_value text (Some v) = text ++ 61 ∷ v

-- the word of an option, with or without `=V`
abbrev pub option_word : OptionName → Option Text → Text
option_word name value = with_value (dashed_name name) value

-- the `V` of `=V`
abbrev pub value_of : Supplied → Option Text
value_of nothing = None
value_of (equals v) = Some v
value_of (next w) = None

-- the next word, where that is taken
abbrev pub next_of : Supplied → Words
next_of nothing = []
next_of (equals v) = []
next_of (next w) = w ∷ []

-- the words of a piece
abbrev pub words_of : Piece → Words
words_of (positional w) = w ∷ []
words_of dashes = (45 ∷ (45 ∷ [])) ∷ []
words_of (option name given) = option_word name (value_of given) ∷ next_of given

-- the switches that are letters
abbrev pub letters : List ℕ → List Switch
letters cs = map Short cs

-- the switches of an option: its long name, or each character
abbrev pub switches_of : OptionName → List Switch
switches_of (long name) = Long name ∷ []
switches_of (cluster name) = letters (chars name)

-- a `=` is in the text
abbrev pub has_equals : Text → Bool
has_equals = list_any (λ b. b == 61)

-- the text begins with `-`
abbrev pub BeginsWithDash : Text → Type 0
BeginsWithDash text = (rest : Text) × (text ≡ 45 ∷ rest)

-- a name ends before the first `=`, has a switch, and a cluster begins with no second `-`
abbrev pub IsOptionName : OptionName → Type 0
IsOptionName (long name) = (name ≢ []) × (has_equals name ≡ false)
IsOptionName (cluster name) = (chars name ≢ []) × (has_equals name ≡ false) × (BeginsWithDash name → ⊥)

-- the name of an option is one
abbrev pub HasOptionName : Piece → Type 0
HasOptionName (positional w) = Unit {0}
HasOptionName dashes = Unit {0}
HasOptionName (option name given) = IsOptionName name

-- the word begins with `-` and isn't `-`
abbrev pub is_dashed : Text → Bool
is_dashed [] = false
is_dashed (b ∷ []) = false
is_dashed (b ∷ c ∷ cs) = b == 45

-- the word is an option with an empty name
abbrev pub IsNameless : Text → Type 0
IsNameless word = (v : Text) × ((word ≡ 45 ∷ (61 ∷ v)) ⊎ (word ≡ 45 ∷ (45 ∷ (61 ∷ v))))

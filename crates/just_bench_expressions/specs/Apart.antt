-- Texts that stand apart in a text.
use Rattle.std.specs.Prelude.{◌≡◌, List, [], ◌∷◌, ◌++◌, true}
use Rattle.std.specs.List.{All}
use Rattle.just_names.specs.Texts.{Text}
use Rattle.just_bench_expressions.specs.Lexemes.{is_blank}

-- blanks and tabs, or nothing
abbrev pub AreBlanks : Text → Type 0
AreBlanks text = All (λ b. is_blank b ≡ true) text

-- texts stand in a text one after another, with nothing but blanks and tabs before, between and after them
pub data StandApart : List Text → Text → Type 0 where
  nothing : (blanks : Text) → AreBlanks blanks → StandApart [] blanks
  after : (blanks first rest : Text) (others : List Text) → AreBlanks blanks → StandApart others rest → StandApart (first ∷ others) (blanks ++ first ++ rest)

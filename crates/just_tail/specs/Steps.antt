-- The steps of a tail: what each piece does, and whether it may come after the steps before it.
use Rattle.std.specs.Prelude.{◌≡◌, ◌≢◌, ℕ, ◌+◌, Bool, true, false, not, ◌&&◌, ◌==◌, if◌then◌else◌, Option, Some, None, List, [], ◌∷◌, ◌++◌}
use Rattle.just_names.specs.Texts.{Text}
use Rattle.just_ast_definitions.specs.Parameter.{is_variadic}
use Rattle.just_ast_definitions.specs.declared.parameter.Parameter.{Parameter}
use Rattle.just_tail.specs.Words.{Words}
use Rattle.just_tail.specs.Options.{option_of, has_options, takes_nothing, place}
use Rattle.just_tail.specs.Pieces.{Supplied, nothing, equals, next, Piece, positional, dashes, option, switches_of, HasOptionName, is_dashed}
use Rattle.just_errors.specs.declared.switch.Switch.{Switch}

-- a step of a tail: a positional word, the `--`, or one switch with what it is given
pub data Step : Type 0 where
  take_word : Text → Step
  close_options : Step
  use_switch : Switch → Supplied → Step

-- the last switch is given that, the others nothing
abbrev pub give : List Switch → Supplied → List Step
give [] given = []
give (s ∷ []) given = use_switch s given ∷ []
give (s ∷ t ∷ ss) given = use_switch s nothing ∷ give (t ∷ ss) given

-- the steps of a piece
abbrev pub steps_of_piece : Piece → List Step
steps_of_piece (positional w) = take_word w ∷ []
steps_of_piece dashes = close_options ∷ []
steps_of_piece (option name given) = give (switches_of name) given

-- how many positional words are among the steps
abbrev pub positionals_among : List Step → ℕ
positionals_among [] = 0
positionals_among (take_word w ∷ steps) = positionals_among steps + 1
positionals_among (close_options ∷ steps) = positionals_among steps
positionals_among (use_switch s given ∷ steps) = positionals_among steps

-- `--` is among the steps
abbrev pub ends_options : List Step → Bool
ends_options [] = false
ends_options (take_word w ∷ steps) = ends_options steps
ends_options (close_options ∷ steps) = true
ends_options (use_switch s given ∷ steps) = ends_options steps

-- options may come: some parameter is one, and no `--` stands before
abbrev pub is_open : List Parameter → List Step → Bool
is_open ps before = has_options ps && not (ends_options before)

-- the text that a switch gives to its parameter
abbrev pub text_given : Supplied → Text
text_given nothing = []
text_given (equals v) = v
text_given (next w) = w

-- places of parameters, each with a text that its group gains
abbrev pub Uses : Type 0
Uses = List (ℕ × Text)

-- a text for the parameter at a place, if there is one
abbrev pub use_at : Option ℕ → Text → Uses
use_at None text = []
use_at (Some j) text = (j, text) ∷ []

-- a text for the parameter that a switch names, if there is one
abbrev pub use_by : Option (ℕ × Parameter) → Text → Uses
use_by None text = []
use_by (Some (j, p)) text = (j, text) ∷ []

-- what the groups gain by the steps, where k positional words stand before
abbrev pub uses_from : List Parameter → ℕ → List Step → Uses
uses_from ps k [] = []
uses_from ps k (take_word w ∷ steps) = use_at (place ps k) w ++ uses_from ps (k + 1) steps
uses_from ps k (close_options ∷ steps) = uses_from ps k steps
uses_from ps k (use_switch s given ∷ steps) = use_by (option_of ps s) (text_given given) ++ uses_from ps k steps

-- the texts of one place, in order
abbrev pub group : ℕ → Uses → Words
group j [] = []
group j (u ∷ us) = if u.0 == j then u.1 ∷ group j us else group j us

-- the texts that the steps give to the j-th parameter, in order
abbrev pub group_of : List Parameter → List Step → ℕ → Words
group_of ps steps j = group j (uses_from ps 0 steps)

-- what a switch asks for, by the first case that applies
pub data Need : Type 0 where
  unknown : Need
  duplicate : Need
  no_text : Need
  some_text : Need

-- a parameter may be used again if it has no text yet, or takes any number
abbrev pub may_use : Parameter → Words → Bool
may_use p [] = true
may_use p (w ∷ ws) = is_variadic p.kind

-- what a switch asks for that may be used
abbrev pub asks : Bool → Need
asks true = no_text
asks false = some_text

-- what a switch asks for that names this parameter, or none
abbrev pub need_of : List Parameter → List Step → Option (ℕ × Parameter) → Need
need_of ps before None = unknown
need_of ps before (Some (j, p)) = if may_use p (group_of ps before j) then asks (takes_nothing p) else duplicate

-- what a switch asks for after these steps
abbrev pub need : List Parameter → List Step → Switch → Need
need ps before s = need_of ps before (option_of ps s)

-- what is given is what is asked for
abbrev pub FitsNeed : Need → Supplied → Type 0
FitsNeed no_text nothing = Unit {0}
FitsNeed some_text (equals v) = Unit {0}
FitsNeed some_text (next w) = Unit {0}
FitsNeed _ _ = ⊥

-- the step may come after those before it
abbrev pub IsNext : List Parameter → List Step → Step → Type 0
IsNext ps before (take_word w) = ((is_open ps before && is_dashed w) ≡ false) × (place ps (positionals_among before) ≢ None)
IsNext ps before close_options = is_open ps before ≡ true
IsNext ps before (use_switch s given) = (is_open ps before ≡ true) × FitsNeed (need ps before s) given

-- the steps may come after those before them
abbrev pub StepsFollow : List Parameter → List Step → List Step → Type 0
StepsFollow ps before [] = Unit {0}
StepsFollow ps before (x ∷ xs) = IsNext ps before x × StepsFollow ps (before ++ x ∷ []) xs

-- the pieces may come after the steps before them
abbrev pub PiecesFollow : List Parameter → List Step → List Piece → Type 0
PiecesFollow ps before [] = Unit {0}
PiecesFollow ps before (x ∷ xs) = HasOptionName x × StepsFollow ps before (steps_of_piece x) × PiecesFollow ps (before ++ steps_of_piece x) xs

-- a tail ends at the end of the words, or before a positional word for which no place is left
abbrev pub Ends : List Parameter → List Step → Words → Type 0
Ends ps before [] = Unit {0}
Ends ps before (w ∷ ws) = ((is_open ps before && is_dashed w) ≡ false) × (place ps (positionals_among before) ≡ None)

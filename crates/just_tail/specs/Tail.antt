-- The words that a recipe takes after its head, and why words are none.
use Rattle.std.specs.Prelude.{◌≡◌, ◌≢◌, ◌⊎◌, ℕ, ◌<◌, true, Option, None, List, [], ◌∷◌, ◌++◌, length, map, slice_index_or}
use Rattle.std.specs.List.{flat_map}
use Rattle.just_names.specs.Texts.{Text}
use Rattle.just_ast_definitions.specs.declared.parameter.Parameter.{Parameter}
use Rattle.just_tail.specs.Words.{Words}
use Rattle.just_tail.specs.Pieces.{OptionName, Piece, nothing, option_word, words_of, switches_of, IsOptionName, IsNameless}
use Rattle.just_tail.specs.Steps.{Step, use_switch, steps_of_piece, positionals_among, is_open, group_of, Need, unknown, duplicate, no_text, some_text, need, StepsFollow, PiecesFollow, Ends}
use Rattle.just_tail.specs.Cause.{ArgumentFault, invalid_option, unknown_option, duplicate_option, flag_with_value, option_missing_value}
use Rattle.just_errors.specs.declared.switch.Switch.{Switch}

-- the words of a tail, what follows them, how many of them are positional, and the groups that they make
pub record IsTail (ps : List Parameter) (tail after : Words) (found : ℕ) (groups : List Words) : Type 0 where
  pub pieces : List Piece
  pub whole : tail ≡ flat_map words_of pieces
  pub reads : PiecesFollow ps [] pieces
  pub ends : Ends ps (flat_map steps_of_piece pieces) after
  pub counts : found ≡ positionals_among (flat_map steps_of_piece pieces)
  pub each_one : length groups ≡ length ps
  pub each : (j : ℕ) → j < length ps → slice_index_or groups j [] ≡ group_of ps (flat_map steps_of_piece pieces) j

-- the switch is refused: what it asks for, the switches after it, the `V` of `=V`, and the words after the option
abbrev pub RefusesSwitch : Need → Switch → List Switch → Option Text → Words → ArgumentFault → Type 0
RefusesSwitch unknown s after value rest cause = cause ≡ unknown_option s
RefusesSwitch duplicate s after value rest cause = cause ≡ duplicate_option s
RefusesSwitch no_text s after value rest cause = (after ≡ []) × (value ≢ None) × (cause ≡ flag_with_value s)
RefusesSwitch some_text s after value rest cause = ((after ≢ []) ⊎ ((value ≡ None) × (rest ≡ []))) × (cause ≡ option_missing_value s)

-- each switch is given nothing
abbrev pub given_nothing : List Switch → List Step
given_nothing = map (λ s. use_switch s nothing)

-- some of the switches are right, and then one is refused
pub record SwitchIsRefused (ps : List Parameter) (before : List Step) (switches : List Switch) (value : Option Text) (rest : Words) (cause : ArgumentFault) : Type 0 where
  pub front : List Switch
  pub switch : Switch
  pub after : List Switch
  pub whole : switches ≡ front ++ switch ∷ after
  pub reads : StepsFollow ps before (given_nothing front)
  pub refuses : RefusesSwitch (need ps (before ++ given_nothing front) switch) switch after value rest cause

-- the words begin with an option that has a switch which is refused
pub record BadSwitch (ps : List Parameter) (before : List Step) (words : Words) (cause : ArgumentFault) : Type 0 where
  pub name : OptionName
  pub value : Option Text
  pub rest : Words
  pub whole : words ≡ option_word name value ∷ rest
  pub named : IsOptionName name
  pub refused : SwitchIsRefused ps before (switches_of name) value rest cause

-- the words begin with an option that has no name
abbrev pub NamelessOption : Words → ArgumentFault → Type 0
NamelessOption [] cause = ⊥
NamelessOption (w ∷ ws) cause = IsNameless w × (cause ≡ invalid_option w)

-- why the words begin with no piece and end no tail
abbrev pub BadOption : List Parameter → List Step → Words → ArgumentFault → Type 0
BadOption ps before words cause = (is_open ps before ≡ true) × (NamelessOption words cause ⊎ BadSwitch ps before words cause)

-- why the words have no tail: some pieces, and then an option that is none
pub record NoTail (ps : List Parameter) (words : Words) (cause : ArgumentFault) : Type 0 where
  pub pieces : List Piece
  pub rest : Words
  pub whole : words ≡ flat_map words_of pieces ++ rest
  pub reads : PiecesFollow ps [] pieces
  pub bad : BadOption ps (flat_map steps_of_piece pieces) rest cause

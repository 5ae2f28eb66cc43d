-- What the groups of a tail must be.
use Rattle.std.specs.Prelude.{◌≡◌, ◌⊎◌, ℕ, Bool, true, false, not, ◌&&◌, ◌||◌, if◌then◌else◌, is_some, Option, Some, None, List, [], ◌∷◌, ◌++◌, length, count_by, find, option_map}
use Rattle.std.specs.List.{list_any}
use Rattle.just_names.specs.Texts.{Text}
use Rattle.just_names.specs.Name.{text_of_name}
use Rattle.just_errors.specs.declared.fault.Fault.{Fault}
use Rattle.just_patterns.specs.Pattern.{is_match}
use Rattle.just_ast_definitions.specs.Parameter.{is_option, is_required, is_variadic}
use Rattle.just_ast_definitions.specs.declared.parameter.Parameter.{Parameter}
use Rattle.just_tail.specs.Words.{Words}
use Rattle.just_tail.specs.Options.{first_of, positionals}
use Rattle.just_tail.specs.Cause.{ArgumentFault, missing_option, count_mismatch, value_count, pattern_mismatch}
use Rattle.just_tail.specs.Tail.{IsTail, NoTail}
use Rattle.just_errors.specs.declared.switch.Switch.{Switch}
use Rattle.just_errors.specs.declared.switch.Switch.TheVariants.{Long, Short}

-- the group is empty, and may not be
abbrev pub is_missing : Parameter → Words → Bool
is_missing p [] = is_required p
is_missing p (w ∷ ws) = false

-- the switch that names an option: the long one if it has one
abbrev pub named_by : Option Text → Option ℕ → Option Switch
named_by (Some name) short = Some (Long name)
named_by None (Some c) = Some (Short c)
named_by None None = None

-- the switch of an option that is missing
abbrev pub missing_switch : Parameter → Words → Option Switch
missing_switch p group = if is_missing p group then named_by p.long p.short else None

-- the switch of the first option that is missing
abbrev pub first_missing : List Parameter → List Words → Option Switch
first_missing [] groups = None
first_missing (p ∷ ps) [] = None
first_missing (p ∷ ps) (g ∷ gs) = first_of (missing_switch p g) (first_missing ps gs)

-- some group is empty, and may not be
abbrev pub any_missing : List Parameter → List Words → Bool
any_missing [] groups = false
any_missing (p ∷ ps) [] = false
any_missing (p ∷ ps) (g ∷ gs) = is_missing p g || any_missing ps gs

-- a word for each positional parameter that is required
abbrev pub least_positionals : List Parameter → ℕ
least_positionals ps = count_by (λ p. is_required p && not (is_option p)) ps

-- a word for each positional parameter, or without end where one is variadic: the greatest `usize` but one
abbrev pub most_positionals : List Parameter → ℕ
most_positionals ps =
    if list_any (λ (p : Parameter). is_variadic p.kind) (positionals ps) then 18446744073709551614 else length (positionals ps)

-- what is missing: the first option, or else positional words, of which that many were found
abbrev pub lacking : List Parameter → List Words → ℕ → Option ArgumentFault
lacking ps groups found =
    first_of (option_map missing_option (first_missing ps groups))
    (if any_missing ps groups then Some (count_mismatch found (least_positionals ps) (most_positionals ps)) else None)

-- why a parameter may not have so many texts, as the evaluation says it
abbrev pub CountFault : Type 0
CountFault = Parameter → Words → Option Fault

-- what is wrong with how many texts a group has; nothing is with an empty one
abbrev pub wrong_count : CountFault → Parameter → Words → Option ArgumentFault
wrong_count counts p [] = None
wrong_count counts p (w ∷ ws) = option_map (value_count (text_of_name p.name)) (counts p (w ∷ ws))

-- the pattern matches the text; without a pattern any text is right
abbrev pub matches : Option (List ℕ) → Text → Bool
matches None text = true
matches (Some pattern) text = is_match pattern text

-- the first text that the pattern does not match
abbrev pub wrong_pattern : Parameter → Words → Option ArgumentFault
wrong_pattern p group = option_map (pattern_mismatch (text_of_name p.name)) (find (λ w. not (matches p.pattern w)) group)

-- why the texts of a parameter are refused; of one with a value nothing is asked
abbrev pub unfit : CountFault → Parameter → Words → Option ArgumentFault
unfit counts p group = if is_some p.value then None else first_of (wrong_count counts p group) (wrong_pattern p group)

-- why those of the first that is refused are
abbrev pub first_unfit : CountFault → List Parameter → List Words → Option ArgumentFault
first_unfit counts [] groups = None
first_unfit counts (p ∷ ps) [] = None
first_unfit counts (p ∷ ps) (g ∷ gs) = first_of (unfit counts p g) (first_unfit counts ps gs)

-- why groups are refused, by the first case that applies: what is missing, and then the texts that are there
abbrev pub refusal : CountFault → List Parameter → List Words → ℕ → Option ArgumentFault
refusal counts ps groups found = first_of (lacking ps groups found) (first_unfit counts ps groups)

-- the words of a tail whose groups pass, and those that follow it
pub record TakesArguments (counts : CountFault) (ps : List Parameter) (tail after : Words) (groups : List Words) : Type 0 where
  pub found : ℕ
  pub reads : IsTail ps tail after found groups
  pub passes : refusal counts ps groups found ≡ None

-- the words begin with a tail whose groups are refused
pub record Lacks (counts : CountFault) (ps : List Parameter) (words : Words) (cause : ArgumentFault) : Type 0 where
  pub tail : Words
  pub after : Words
  pub found : ℕ
  pub groups : List Words
  pub whole : words ≡ tail ++ after
  pub reads : IsTail ps tail after found groups
  pub refused : refusal counts ps groups found ≡ Some cause

-- why the words begin with no arguments
abbrev pub StopsTail : CountFault → List Parameter → Words → ArgumentFault → Type 0
StopsTail counts ps words cause = NoTail ps words cause ⊎ Lacks counts ps words cause

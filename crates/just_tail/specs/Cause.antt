-- Why words are no arguments.
use Rattle.std.specs.Prelude.{ℕ, Option, Some, None}
use Rattle.just_names.specs.Texts.{Text}
use Rattle.just_errors.specs.declared.fault.Fault.{Fault}
use Rattle.just_errors.specs.declared.switch.Switch.{Switch}
use Rattle.just_tail.specs.declared.error.TailError.{TailError}
use Rattle.just_tail.specs.declared.error.TailError.TheVariants as error

-- why words are no arguments, with the fields of the error that says it
pub data ArgumentFault : Type 0 where
  invalid_option : Text → ArgumentFault
  unknown_option : Switch → ArgumentFault
  duplicate_option : Switch → ArgumentFault
  flag_with_value : Switch → ArgumentFault
  option_missing_value : Switch → ArgumentFault
  missing_option : Switch → ArgumentFault
  count_mismatch : ℕ → ℕ → ℕ → ArgumentFault
  value_count : Text → Fault → ArgumentFault
  pattern_mismatch : Text → Text → ArgumentFault

-- what an error says of the words; want of memory says nothing
abbrev pub tail_cause_of : TailError → Option ArgumentFault
tail_cause_of error.Memory = None
tail_cause_of (error.InvalidOption argument) = Some (invalid_option argument)
tail_cause_of (error.UnknownOption switch) = Some (unknown_option switch)
tail_cause_of (error.DuplicateOption switch) = Some (duplicate_option switch)
tail_cause_of (error.FlagWithValue switch) = Some (flag_with_value switch)
tail_cause_of (error.OptionMissingValue switch) = Some (option_missing_value switch)
tail_cause_of (error.MissingOption switch) = Some (missing_option switch)
tail_cause_of (error.PositionalArgumentCountMismatch found min max) = Some (count_mismatch found min max)
tail_cause_of (error.ValueCount parameter fault) = Some (value_count parameter fault)
tail_cause_of (error.ArgumentPatternMismatch parameter argument) = Some (pattern_mismatch parameter argument)

-- What words are refused for.
use Rattle.std.specs.Prelude.{ℕ, Option, Some, None, List}
use Rattle.just_names.specs.Texts.{Text}
use Rattle.just_errors.specs.declared.error.Error.{Error}
use Rattle.just_errors.specs.declared.error.Error.TheVariants as error
use Rattle.just_errors.specs.declared.fault.Fault.{Fault}
use Rattle.just_errors.specs.declared.invocation_error.InvocationError.{InvocationError}
use Rattle.just_errors.specs.declared.invocation_error.InvocationError.TheVariants as fault
use Rattle.just_errors.specs.declared.switch.Switch.{Switch}
use Rattle.just_tail.specs.Cause as tail

-- why words are no invocations, with the fields of the error that says it
pub data InvocationFault : Type 0 where
  unknown_recipe : Text → InvocationFault
  unknown_submodule : Text → InvocationFault
  expected_submodule : Text → InvocationFault
  recipe_disabled : Text → List Text → InvocationFault
  alias_disabled : Text → List Text → InvocationFault
  module_absent : Text → InvocationFault
  no_recipes : InvocationFault
  no_default : InvocationFault
  default_requires : Text → ℕ → InvocationFault
  invalid_option : Text → InvocationFault
  unknown_option : Text → Switch → InvocationFault
  flag_with_value : Text → Switch → InvocationFault
  option_missing_value : Text → Switch → InvocationFault
  duplicate_option : Text → Switch → InvocationFault
  missing_option : Text → Switch → InvocationFault
  count_mismatch : Text → ℕ → ℕ → ℕ → InvocationFault
  value_count : Text → Text → Fault → InvocationFault
  pattern_mismatch : Text → Text → Text → InvocationFault

-- the cause for which a recipe of a name takes no arguments
abbrev pub with_recipe : Text → tail.ArgumentFault → InvocationFault
with_recipe recipe (tail.invalid_option argument) = invalid_option argument
with_recipe recipe (tail.unknown_option switch) = unknown_option recipe switch
with_recipe recipe (tail.duplicate_option switch) = duplicate_option recipe switch
with_recipe recipe (tail.flag_with_value switch) = flag_with_value recipe switch
with_recipe recipe (tail.option_missing_value switch) = option_missing_value recipe switch
with_recipe recipe (tail.missing_option switch) = missing_option recipe switch
with_recipe recipe (tail.count_mismatch found min max) = count_mismatch recipe found min max
with_recipe recipe (tail.value_count parameter told) = value_count recipe parameter told
with_recipe recipe (tail.pattern_mismatch parameter argument) = pattern_mismatch recipe parameter argument

-- what an error of the words says
abbrev pub cause_of_fault : InvocationError → InvocationFault
cause_of_fault (fault.UnknownRecipe recipe) = unknown_recipe recipe
cause_of_fault (fault.UnknownSubmodule path) = unknown_submodule path
cause_of_fault (fault.ExpectedSubmoduleButFoundRecipe path) = expected_submodule path
cause_of_fault (fault.RecipeDisabled recipe modules) = recipe_disabled recipe modules
cause_of_fault (fault.AliasDisabled alias modules) = alias_disabled alias modules
cause_of_fault (fault.ModuleAbsent path) = module_absent path
cause_of_fault fault.NoRecipes = no_recipes
cause_of_fault fault.NoDefaultRecipe = no_default
cause_of_fault (fault.DefaultRecipeRequiresArguments recipe min) = default_requires recipe min
cause_of_fault (fault.InvalidOption argument) = invalid_option argument
cause_of_fault (fault.UnknownOption recipe switch) = unknown_option recipe switch
cause_of_fault (fault.FlagWithValue recipe switch) = flag_with_value recipe switch
cause_of_fault (fault.OptionMissingValue recipe switch) = option_missing_value recipe switch
cause_of_fault (fault.DuplicateOption recipe switch) = duplicate_option recipe switch
cause_of_fault (fault.MissingOption recipe switch) = missing_option recipe switch
cause_of_fault (fault.PositionalArgumentCountMismatch recipe found min max) = count_mismatch recipe found min max
cause_of_fault (fault.ValueCount recipe parameter told) = value_count recipe parameter told
cause_of_fault (fault.ArgumentPatternMismatch recipe parameter argument) = pattern_mismatch recipe parameter argument

-- what an error says of the words; one that is none of the words, as want of memory, says nothing
abbrev pub cause_of : Error → Option InvocationFault
cause_of (error.Load load) = None
cause_of (error.Compile compile) = None
cause_of (error.Invocation invocation) = Some (cause_of_fault invocation)
cause_of (error.Run e) = None
cause_of error.Exhausted = None
cause_of error.Memory = None

-- the error is one of the words, or want of memory
abbrev pub IsOfWords : Error → Type 0
IsOfWords (error.Load load) = ⊥
IsOfWords (error.Compile compile) = ⊥
IsOfWords (error.Invocation invocation) = Unit {0}
IsOfWords (error.Run e) = ⊥
IsOfWords error.Exhausted = ⊥
IsOfWords error.Memory = Unit {0}

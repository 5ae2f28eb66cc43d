-- What the attributes of a recipe, and the settings of its module, say of its run.
use Rattle.std.specs.Prelude.{◌==◌, Bool, true, false, not, ◌&&◌, ◌||◌, if◌then◌else◌, is_some, List, [], ◌∷◌, length, Option, None, Some}
use Rattle.std.specs.List.{list_any}
use Rattle.std.specs.Option.{option_or}
use Rattle.just_errors.specs.declared.signal.Signal.{Signal}
use Rattle.just_errors.specs.declared.signal.Signal.TheVariants as signal
use Rattle.just_ast_definitions.specs.declared.attribute.Attribute.{Attribute}
use Rattle.just_ast_definitions.specs.declared.attribute.Attribute.TheVariants as attribute
use Rattle.just_ast_definitions.specs.declared.attribute.NamedAttribute.{NamedAttribute}
use Rattle.just_ast_expressions.specs.declared.expression.Expression.{Expression}
use Rattle.just_ast_expressions.specs.declared.settings.Settings.{Settings}
use Rattle.just_recipe.specs.declared.recipe.Recipe.{Recipe}

-- the attributes that say nothing more
abbrev pub says_exit_message : Attribute Expression → Bool
says_exit_message attribute.ExitMessage = true
says_exit_message _ = false

abbrev pub is_exit_message : NamedAttribute Expression → Bool
is_exit_message named = says_exit_message named.attribute

abbrev pub says_no_cd : Attribute Expression → Bool
says_no_cd attribute.NoCd = true
says_no_cd _ = false

abbrev pub is_no_cd : NamedAttribute Expression → Bool
is_no_cd named = says_no_cd named.attribute

abbrev pub says_no_exit_message : Attribute Expression → Bool
says_no_exit_message attribute.NoExitMessage = true
says_no_exit_message _ = false

abbrev pub is_no_exit_message : NamedAttribute Expression → Bool
is_no_exit_message named = says_no_exit_message named.attribute

abbrev pub says_no_quiet : Attribute Expression → Bool
says_no_quiet attribute.NoQuiet = true
says_no_quiet _ = false

abbrev pub is_no_quiet : NamedAttribute Expression → Bool
is_no_quiet named = says_no_quiet named.attribute

abbrev pub says_positional_arguments : Attribute Expression → Bool
says_positional_arguments attribute.PositionalArguments = true
says_positional_arguments _ = false

abbrev pub is_positional_arguments : NamedAttribute Expression → Bool
is_positional_arguments named = says_positional_arguments named.attribute

-- the folder, the format of the time and the signals that an attribute says
abbrev pub directory_in : Attribute Expression → Option Expression
directory_in (attribute.WorkingDirectory folder) = Some folder
directory_in _ = None

abbrev pub timestamp_in : Attribute Expression → Option (Option Expression)
timestamp_in (attribute.Timestamp format) = Some format
timestamp_in _ = None

abbrev pub signals_in : Attribute Expression → Option (List Signal)
signals_in (attribute.Continue signals) = Some signals
signals_in _ = None

-- what the first of some attributes says that says such a thing
abbrev pub first_said : {A : Type 0} → (Attribute Expression → Option A) → List (NamedAttribute Expression) → Option A
first_said said [] = None
first_said said (named ∷ rest) = option_or (said named.attribute) (first_said said rest)

abbrev pub directory_of : List (NamedAttribute Expression) → Option Expression
directory_of = first_said directory_in

abbrev pub timestamp_of : List (NamedAttribute Expression) → Option (Option Expression)
timestamp_of = first_said timestamp_in

abbrev pub signals_of : List (NamedAttribute Expression) → Option (List Signal)
signals_of = first_said signals_in

-- one signal is the other
abbrev pub is_same : Signal → Signal → Bool
is_same signal.Hangup signal.Hangup = true
is_same signal.Interrupt signal.Interrupt = true
is_same signal.Quit signal.Quit = true
is_same signal.Terminate signal.Terminate = true
is_same _ _ = false

-- signals that are listed, where none that is listed means an interrupt
abbrev pub is_listed : List Signal → Signal → Bool
is_listed signals s = list_any (λ (listed : Signal). is_same listed s) signals

abbrev pub lists_signal : List Signal → Signal → Bool
lists_signal signals s = if length signals == 0 then is_same signal.Interrupt s else is_listed signals s

abbrev pub continues_after : Option (List Signal) → Signal → Bool
continues_after None s = false
continues_after (Some signals) s = lists_signal signals s

module _ {D : Type 0} where
  -- it goes on after a signal
  abbrev pub continues_on : Recipe D → Signal → Bool
  continues_on r s = continues_after (signals_of r.attributes) s

  -- it runs in the folder of its module, or in one that it names
  abbrev pub changes_directory : Recipe D → Settings → Bool
  changes_directory r settings = is_some (directory_of r.attributes) || (not (list_any is_no_cd r.attributes) && not settings.no_cd)

  -- it takes its arguments by place too
  abbrev pub takes_positional_arguments : Recipe D → Settings → Bool
  takes_positional_arguments r settings = settings.positional_arguments || list_any is_positional_arguments r.attributes

  -- its failure is told
  abbrev pub prints_message : Recipe D → Settings → Bool
  prints_message r settings = list_any is_exit_message r.attributes || (not settings.no_exit_message && not (list_any is_no_exit_message r.attributes))

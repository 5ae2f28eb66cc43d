-- The names of errors, and what they say.
use Rattle.std.specs.Prelude.{ℕ, ◌==◌, false, List, [], ◌∷◌, length, ◌++◌, Some, None, codes, decimal, if◌then◌else◌}
use Rattle.just_names.specs.ListFeature.{feature_text}
use Rattle.just_names.specs.Texts.{joined, text_of}
use Rattle.just_names.specs.Name.{texts_of_path}
use Rattle.just_names.specs.Token.{Place, lexeme}
use Rattle.just_errors.specs.Wording.{arguments_text, takes_text, place_text, at_text, on_line_text, spaced_text}
use Rattle.std.specs.Fmt.{signed_decimal}
use Rattle.just_names.specs.declared.name.Namepath.{Namepath}
use Rattle.just_errors.specs.declared.load_error.LoadError.{LoadError}
use Rattle.just_errors.specs.declared.load_error.LoadError.TheVariants as load
use Rattle.just_errors.specs.declared.compile_error.Definition.{Definition}
use Rattle.just_errors.specs.declared.compile_error.Definition.TheVariants as definition
use Rattle.just_errors.specs.declared.compile_error.CompileErrorKind.{CompileErrorKind}
use Rattle.just_errors.specs.declared.compile_error.CompileErrorKind.TheVariants as kind
use Rattle.just_errors.specs.declared.compile_error.CompileError.{CompileError}
use Rattle.just_errors.specs.declared.invocation_error.InvocationError.{InvocationError}
use Rattle.just_errors.specs.declared.invocation_error.InvocationError.TheVariants as invocation
use Rattle.just_errors.specs.declared.run_error.RunError.{RunError}
use Rattle.just_errors.specs.declared.run_error.RunError.TheVariants as run
use Rattle.just_errors.specs.declared.signal.Signal.{Signal}
use Rattle.just_errors.specs.declared.signal.Signal.TheVariants as signal
use Rattle.just_errors.specs.declared.status.Status.{Status}
use Rattle.just_errors.specs.declared.status.Status.TheVariants as status
use Rattle.just_errors.specs.declared.error.Error.{Error}
use Rattle.just_errors.specs.declared.error.Error.TheVariants as error

-- the names of the variants
abbrev pub load_name : LoadError → List ℕ
load_name (load.Load path) = codes "Load"
load_name load.Homedir = codes "Homedir"
load_name (load.MissingImportFile path) = codes "MissingImportFile"
load_name (load.MissingModuleFile name) = codes "MissingModuleFile"
load_name (load.AmbiguousModuleFile name found) = codes "AmbiguousModuleFile"
load_name (load.CircularImport current next) = codes "CircularImport"
load_name (load.UnknownOverrides overrides) = codes "UnknownOverrides"

abbrev pub kind_name : CompileErrorKind → List ℕ
kind_name kind.Syntax = codes "Syntax"
kind_name (kind.Evaluate fault) = codes "Evaluate"
kind_name (kind.DuplicateParameter recipe parameter) = codes "DuplicateParameter"
kind_name (kind.RequiredParameterFollowsDefaultParameter parameter) = codes "RequiredParameterFollowsDefaultParameter"
kind_name (kind.DuplicateSet setting first) = codes "DuplicateSet"
kind_name (kind.IncompatibleSettings first first_line second) = codes "IncompatibleSettings"
kind_name (kind.DuplicateUnexport variable) = codes "DuplicateUnexport"
kind_name (kind.DuplicateVariable variable) = codes "DuplicateVariable"
kind_name (kind.ExportUnexported variable) = codes "ExportUnexported"
kind_name (kind.DuplicateFunctionParameter function parameter) = codes "DuplicateFunctionParameter"
kind_name (kind.UndefinedFunction function) = codes "UndefinedFunction"
kind_name (kind.FunctionArgumentCountMismatch function arguments expected) = codes "FunctionArgumentCountMismatch"
kind_name (kind.UndefinedVariable variable) = codes "UndefinedVariable"
kind_name (kind.CircularVariableDependency variable circle) = codes "CircularVariableDependency"
kind_name (kind.ListFeature feature) = codes "ListFeature"
kind_name (kind.Redefinition first_type second_type name first) = codes "Redefinition"
kind_name kind.GuardAndInfallibleSigil = codes "GuardAndInfallibleSigil"
kind_name kind.ExtraLeadingWhitespace = codes "ExtraLeadingWhitespace"
kind_name (kind.InvalidShellRecipeAttribute recipe attribute) = codes "InvalidShellRecipeAttribute"
kind_name (kind.UnknownDependency recipe unknown) = codes "UnknownDependency"
kind_name (kind.CircularRecipeDependency recipe circle) = codes "CircularRecipeDependency"
kind_name kind.ArgumentPatternRegex = codes "ArgumentPatternRegex"
kind_name (kind.DependencyArgumentCountMismatch dependency found least most) = codes "DependencyArgumentCountMismatch"
kind_name kind.MappedDependencyWithoutListsSetting = codes "MappedDependencyWithoutListsSetting"
kind_name (kind.UnknownAliasTarget alias target) = codes "UnknownAliasTarget"
kind_name (kind.DuplicateDefault recipe) = codes "DuplicateDefault"

abbrev pub invocation_name : InvocationError → List ℕ
invocation_name (invocation.UnknownRecipe recipe) = codes "UnknownRecipe"
invocation_name (invocation.UnknownSubmodule path) = codes "UnknownSubmodule"
invocation_name (invocation.ExpectedSubmoduleButFoundRecipe path) = codes "ExpectedSubmoduleButFoundRecipe"
invocation_name (invocation.RecipeDisabled recipe modules) = codes "RecipeDisabled"
invocation_name (invocation.AliasDisabled alias modules) = codes "AliasDisabled"
invocation_name (invocation.ModuleAbsent absent) = codes "ModuleAbsent"
invocation_name invocation.NoRecipes = codes "NoRecipes"
invocation_name invocation.NoDefaultRecipe = codes "NoDefaultRecipe"
invocation_name (invocation.DefaultRecipeRequiresArguments recipe least) = codes "DefaultRecipeRequiresArguments"
invocation_name (invocation.InvalidOption argument) = codes "InvalidOption"
invocation_name (invocation.UnknownOption recipe switch) = codes "UnknownOption"
invocation_name (invocation.FlagWithValue recipe switch) = codes "FlagWithValue"
invocation_name (invocation.OptionMissingValue recipe switch) = codes "OptionMissingValue"
invocation_name (invocation.DuplicateOption recipe switch) = codes "DuplicateOption"
invocation_name (invocation.MissingOption recipe switch) = codes "MissingOption"
invocation_name (invocation.PositionalArgumentCountMismatch recipe found least most) = codes "PositionalArgumentCountMismatch"
invocation_name (invocation.ValueCount recipe parameter fault) = codes "ValueCount"
invocation_name (invocation.ArgumentPatternMismatch recipe parameter argument) = codes "ArgumentPatternMismatch"

abbrev pub run_name : RunError → List ℕ
run_name (run.ExcessInvocations invocations) = codes "ExcessInvocations"
run_name (run.NotConfirmed recipe) = codes "NotConfirmed"
run_name (run.GetConfirmation fault) = codes "GetConfirmation"
run_name (run.Code recipe line code print) = codes "Code"
run_name (run.GuardCode recipe line code) = codes "GuardCode"
run_name (run.Signal recipe line ended print) = codes "Signal"
run_name (run.Unknown recipe line print) = codes "Unknown"
run_name (run.ShellIo recipe message) = codes "ShellIo"
run_name (run.ScriptStart recipe message) = codes "ScriptStart"
run_name (run.InvalidShebang recipe shebang) = codes "InvalidShebang"
run_name (run.Interrupted ended) = codes "Interrupted"
run_name (run.CommandInvoke binary arguments message) = codes "CommandInvoke"
run_name (run.CommandStatus binary arguments ended) = codes "CommandStatus"
run_name (run.EvalUnknownSubmodule component) = codes "EvalUnknownSubmodule"
run_name (run.EvalUnknownSubmoduleOrVariable component) = codes "EvalUnknownSubmoduleOrVariable"
run_name (run.UnstableFeature feature) = codes "UnstableFeature"
run_name (run.Dotenv fault) = codes "Dotenv"
run_name (run.DatetimeFormat fault) = codes "DatetimeFormat"
run_name (run.Evaluate fault) = codes "Evaluate"
run_name run.Write = codes "Write"

-- the name of an error: that of a broken rule is that of its kind
abbrev pub error_name : Error → List ℕ
error_name (error.Load e) = load_name e
error_name (error.Compile e) = kind_name e.kind
error_name (error.Invocation e) = invocation_name e
error_name (error.Run e) = run_name e
error_name error.Exhausted = codes "Exhausted"
error_name error.Memory = codes "Memory"

abbrev pub definition_text : Definition → List ℕ
definition_text definition.Alias = codes "alias"
definition_text definition.Module = codes "module"
definition_text definition.Recipe = codes "recipe"
definition_text definition.Function = codes "function"

-- the text of a path of names
abbrev pub path_text : Namepath → List ℕ
path_text path = text_of (texts_of_path path) false

-- what a circle of recipes says
abbrev pub chain_text : List ℕ → List (List ℕ) → List ℕ
chain_text recipe circle = codes "Recipe `" ++ (recipe ++ (codes "` has circular dependency `" ++ (joined (codes " -> ") circle ++ codes "`")))

-- the same, where one of two names, which are equal, is that of a recipe which depends on itself
abbrev pub circle_text : List ℕ → List (List ℕ) → List ℕ
circle_text recipe circle =
    if length circle == 2 then codes "Recipe `" ++ (recipe ++ codes "` depends on itself") else chain_text recipe circle

-- what a circle of variables says
abbrev pub readings_text : List ℕ → List (List ℕ) → List ℕ
readings_text variable circle = codes "Variable `" ++ (variable ++ (codes "` depends on its own value: `" ++ (joined (codes " -> ") circle ++ codes "`")))

-- the same, where one of two names, which are equal, is that of a variable which reads itself
abbrev pub reading_text : List ℕ → List (List ℕ) → List ℕ
reading_text variable circle =
    if length circle == 2 then codes "Variable `" ++ (variable ++ codes "` is defined in terms of itself") else readings_text variable circle

-- what a broken rule says
abbrev pub kind_text : CompileErrorKind → List ℕ
kind_text kind.Syntax = codes "The line does not follow the grammar"
kind_text (kind.Evaluate fault) = fault.message
kind_text (kind.DuplicateParameter recipe parameter) = codes "Recipe `" ++ (recipe ++ (codes "` has duplicate parameter `" ++ (parameter ++ codes "`")))
kind_text (kind.RequiredParameterFollowsDefaultParameter parameter) = codes "Non-default parameter `" ++ (parameter ++ codes "` follows default parameter")
kind_text (kind.DuplicateSet setting first) =
    codes "Setting `" ++ (setting ++ (codes "` is set again; it is first set on line " ++ (place_text first ++ codes " of this file or of another one of its module")))
kind_text (kind.IncompatibleSettings first first_line second) =
    codes "Setting `" ++ (second ++ (codes "` may not be set beside `" ++ (first ++ (codes "`, which is set on line " ++ (place_text first_line ++ codes " of this file or of another one of its module")))))
kind_text (kind.DuplicateUnexport variable) = codes "Variable `" ++ (variable ++ codes "` is unexported multiple times")
kind_text (kind.DuplicateVariable variable) = codes "Variable `" ++ (variable ++ codes "` has multiple definitions")
kind_text (kind.ExportUnexported variable) = codes "Variable `" ++ (variable ++ codes "` is both assigned and unexported")
kind_text (kind.DuplicateFunctionParameter function parameter) = codes "Function `" ++ (function ++ (codes "` has duplicate parameter `" ++ (parameter ++ codes "`")))
kind_text (kind.UndefinedFunction function) = codes "Call to undefined function `" ++ (function ++ codes "`")
kind_text (kind.FunctionArgumentCountMismatch function arguments expected) =
    codes "Function `" ++ (function ++ (codes "` got " ++ (arguments_text arguments ++ (codes " but takes " ++ takes_text expected.min expected.max))))
kind_text (kind.UndefinedVariable variable) = codes "Variable `" ++ (variable ++ codes "` not defined")
kind_text (kind.CircularVariableDependency variable circle) = reading_text variable circle
kind_text (kind.ListFeature feature) = feature_text feature ++ codes " needs the setting `lists`, which is off"
kind_text (kind.Redefinition first_type second_type name first) =
    codes "`" ++ (name ++ (codes "` is redefined as " ++ (definition_text second_type ++ (codes "; it is first defined as " ++ (definition_text first_type ++ (codes " on line " ++ (place_text first ++ codes " of this file or of another one of its module")))))))
kind_text kind.GuardAndInfallibleSigil = codes "The sigils `?` and `-` may not stand before one line"
kind_text kind.ExtraLeadingWhitespace = codes "The line has extra leading whitespace"
kind_text (kind.InvalidShellRecipeAttribute recipe attribute) = codes "Recipe `" ++ (recipe ++ (codes "` has attribute `" ++ (attribute ++ codes "`, which only a script may have")))
kind_text (kind.UnknownDependency recipe unknown) = codes "Recipe `" ++ (recipe ++ (codes "` has unknown dependency `" ++ (path_text unknown ++ codes "`")))
kind_text (kind.CircularRecipeDependency recipe circle) = circle_text recipe circle
kind_text kind.ArgumentPatternRegex = codes "Failed to parse argument pattern"
kind_text (kind.DependencyArgumentCountMismatch dependency found least most) =
    codes "Dependency `" ++ (path_text dependency ++ (codes "` got " ++ (arguments_text found ++ (codes " but takes " ++ takes_text least most))))
kind_text kind.MappedDependencyWithoutListsSetting = codes "A dependency with a starred argument needs the setting `lists`, which is off"
kind_text (kind.UnknownAliasTarget alias target) = codes "Alias `" ++ (alias ++ (codes "` has unknown target `" ++ (path_text target ++ codes "`")))
kind_text (kind.DuplicateDefault recipe) = codes "Recipe `" ++ (recipe ++ codes "` has attribute `default`, as another recipe of its module has")

-- what stood where reading stopped
abbrev pub lexeme_text : List ℕ → List ℕ
lexeme_text [] = []
lexeme_text (byte ∷ bytes) = codes ", at `" ++ ((byte ∷ bytes) ++ codes "`")

-- what is said after the rule: of a text that does not follow the grammar, what stands at the token
abbrev pub stop_text : CompileErrorKind → Place → List ℕ
stop_text kind.Syntax token = lexeme_text (lexeme token)
stop_text (kind.Evaluate fault) token = []
stop_text (kind.DuplicateParameter recipe parameter) token = []
stop_text (kind.RequiredParameterFollowsDefaultParameter parameter) token = []
stop_text (kind.DuplicateSet setting first) token = []
stop_text (kind.IncompatibleSettings first first_line second) token = []
stop_text (kind.DuplicateUnexport variable) token = []
stop_text (kind.DuplicateVariable variable) token = []
stop_text (kind.ExportUnexported variable) token = []
stop_text (kind.DuplicateFunctionParameter function parameter) token = []
stop_text (kind.UndefinedFunction function) token = []
stop_text (kind.FunctionArgumentCountMismatch function arguments expected) token = []
stop_text (kind.UndefinedVariable variable) token = []
stop_text (kind.CircularVariableDependency variable circle) token = []
stop_text (kind.ListFeature feature) token = []
stop_text (kind.Redefinition first_type second_type name first) token = []
stop_text kind.GuardAndInfallibleSigil token = []
stop_text kind.ExtraLeadingWhitespace token = []
stop_text (kind.InvalidShellRecipeAttribute recipe attribute) token = []
stop_text (kind.UnknownDependency recipe unknown) token = []
stop_text (kind.CircularRecipeDependency recipe circle) token = []
stop_text kind.ArgumentPatternRegex token = []
stop_text (kind.DependencyArgumentCountMismatch dependency found least most) token = []
stop_text kind.MappedDependencyWithoutListsSetting token = []
stop_text (kind.UnknownAliasTarget alias target) token = []
stop_text (kind.DuplicateDefault recipe) token = []

-- what a broken rule says, after the place where it is told
abbrev pub compile_text : CompileError → List ℕ
compile_text e = at_text e.token ++ (codes ": " ++ (kind_text e.kind ++ stop_text e.kind e.token))

abbrev pub signal_text : Signal → List ℕ
signal_text signal.Hangup = codes "SIGHUP"
signal_text signal.Interrupt = codes "SIGINT"
signal_text signal.Quit = codes "SIGQUIT"
signal_text signal.Terminate = codes "SIGTERM"

-- how a program ended
abbrev pub status_text : Status → List ℕ
status_text (status.Code code) = codes "exit status: " ++ signed_decimal code
status_text (status.NoCode (Some number)) = codes "signal: " ++ signed_decimal number
status_text (status.NoCode None) = codes "signal: unknown"
status_text (status.NotStarted reason) = reason

-- what a fault of a run says
abbrev pub run_text : RunError → List ℕ
run_text (run.ExcessInvocations invocations) = codes "Expected 1 command-line recipe invocation but found " ++ decimal invocations
run_text (run.NotConfirmed recipe) = codes "Recipe `" ++ (recipe ++ codes "` was not confirmed")
run_text (run.GetConfirmation fault) = fault.message
run_text (run.Code recipe line code print) = codes "Recipe `" ++ (recipe ++ (codes "` failed" ++ (on_line_text line ++ (codes " with exit code " ++ signed_decimal code))))
run_text (run.GuardCode recipe line code) = codes "Recipe `" ++ (recipe ++ (codes "` failed" ++ (on_line_text line ++ (codes " with exit code " ++ signed_decimal code))))
run_text (run.Signal recipe line ended print) = codes "Recipe `" ++ (recipe ++ (codes "` was terminated" ++ (on_line_text line ++ (codes " by signal " ++ signed_decimal ended))))
run_text (run.Unknown recipe line print) = codes "Recipe `" ++ (recipe ++ (codes "` failed" ++ (on_line_text line ++ codes " for an unknown reason")))
run_text (run.ShellIo recipe message) = codes "Recipe `" ++ (recipe ++ (codes "` could not be run because of an IO error while launching the shell: " ++ message))
run_text (run.ScriptStart recipe message) = codes "Recipe `" ++ (recipe ++ (codes "` failed to start its script: " ++ message))
run_text (run.InvalidShebang recipe shebang) = codes "Recipe `" ++ (recipe ++ (codes "` has an invalid shebang `" ++ (shebang ++ codes "`")))
run_text (run.Interrupted ended) = codes "Interrupted by " ++ signal_text ended
run_text (run.CommandInvoke binary arguments message) = codes "Failed to invoke `" ++ (binary ++ (spaced_text arguments ++ (codes "`: " ++ message)))
run_text (run.CommandStatus binary arguments ended) = codes "Command `" ++ (binary ++ (spaced_text arguments ++ (codes "` failed: " ++ status_text ended)))
run_text (run.EvalUnknownSubmodule component) = codes "Justfile does not contain submodule `" ++ (component ++ codes "`")
run_text (run.EvalUnknownSubmoduleOrVariable component) = codes "Justfile does not contain submodule or variable `" ++ (component ++ codes "`")
run_text (run.UnstableFeature feature) = codes "The feature `" ++ (feature ++ codes "` is unstable, and not enabled")
run_text (run.Dotenv fault) = fault.message
run_text (run.DatetimeFormat fault) = fault.message
run_text (run.Evaluate fault) = fault.message
run_text run.Write = codes "Failed to write output"

-- What runs a script.
use Rattle.std.specs.Prelude.{codes, if◌then◌else◌, List, [], ◌∷◌, map, Option, None, Some, Result, Ok, Err}
use Rattle.std.specs.Option.{unwrap_or}
use Rattle.just_ast_definitions.specs.declared.line.Line.{Line}
use Rattle.just_ast_expressions.specs.declared.interpreter.Interpreter.{Interpreter}
use Rattle.just_ast_expressions.specs.declared.string_literal.StringLiteral.{StringLiteral}
use Rattle.just_errors.specs.declared.run_error.RunError.{RunError}
use Rattle.just_errors.specs.declared.run_error.RunError.TheVariants as run
use Rattle.just_names.specs.Texts.{Text}
use Rattle.just_parts.specs.Syntax.{SyntaxAnswers}
use Rattle.just_parts.specs.declared.layers.shebang.Shebang.{Shebang}
use Rattle.just_run_layers.specs.declared.calls.Executor.{Executor}
use Rattle.just_run_layers.specs.declared.calls.Executor.TheVariants as executor
use Rattle.just_recipe_body.specs.Body.{BodyContents, body_name}
use Rattle.just_script_body.specs.ScriptAttributes.{script_of}

-- an interpreter of quoted texts, by what stands between their quotes
abbrev pub cooked_text : StringLiteral → Text
cooked_text literal = literal.cooked

abbrev pub cooked : Interpreter StringLiteral → Interpreter Text
cooked interpreter = record { command = interpreter.command.cooked; arguments = map cooked_text interpreter.arguments }

-- the interpreter of the settings, or else the usual one
abbrev pub usual_interpreter : Interpreter Text
usual_interpreter = record { command = codes "sh"; arguments = codes "-eu" ∷ [] }

abbrev pub set_interpreter : BodyContents → Interpreter Text
set_interpreter b = unwrap_or b.context.settings.script_interpreter usual_interpreter

-- that of an attribute, or else that of the settings
abbrev pub said_interpreter : BodyContents → Option (Interpreter StringLiteral) → Interpreter Text
said_interpreter b (Some interpreter) = cooked interpreter
said_interpreter b None = set_interpreter b

abbrev pub command_of : Interpreter Text → Executor
command_of interpreter = executor.Command interpreter.command interpreter.arguments

-- what a shebang line names; an error has its text where it names nothing
abbrev pub named : Shebang → Executor
named shebang = executor.Shebang shebang.interpreter shebang.argument

abbrev pub named_in_shebang : BodyContents → Text → Option Shebang → Result Executor RunError
named_in_shebang b text (Some shebang) = Ok (named shebang)
named_in_shebang b text None = Err (run.InvalidShebang (body_name b) text)

-- the text of the first line, where that is a shebang line
abbrev pub shebang_text : SyntaxAnswers → List Line → List Text → Option Text
shebang_text syntax (line ∷ lines) (text ∷ texts) = if syntax.is_shebang line then Some text else None
shebang_text syntax _ _ = None

-- what it names, or else the interpreter of the settings
abbrev pub executor_by : BodyContents → Option Text → Result Executor RunError
executor_by b (Some text) = named_in_shebang b text (b.syntax.shebang text)
executor_by b None = Ok (command_of (set_interpreter b))

-- where an attribute says that the recipe is a script, no line is looked at
abbrev pub executor_said : BodyContents → Option (Option (Interpreter StringLiteral)) → List Text → Result Executor RunError
executor_said b (Some said) texts = Ok (command_of (said_interpreter b said))
executor_said b None texts = executor_by b (shebang_text b.syntax b.recipe.body texts)

-- What runs a script of these texts.
abbrev pub executor_of : BodyContents → List Text → Result Executor RunError
executor_of b texts = executor_said b (script_of b.recipe.attributes) texts

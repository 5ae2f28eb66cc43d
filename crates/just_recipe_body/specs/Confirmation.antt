-- Whether a recipe may run: what is asked where it wants confirmation.
use Rattle.std.specs.Prelude.{Bool, true, ◌||◌, codes, ◌++◌, Option, Some, None}
use Rattle.std.specs.Str.{str_eq_ignore_ascii_case, trim}
use Rattle.just_ast_definitions.specs.declared.attribute.Attribute.{Attribute}
use Rattle.just_ast_definitions.specs.declared.attribute.Attribute.TheVariants as attribute
use Rattle.just_ast_expressions.specs.declared.expression.Expression.{Expression}
use Rattle.just_errors.specs.declared.halt.Halt.TheVariants.{Memory, Failed}
use Rattle.just_errors.specs.declared.run_error.RunError.{RunError}
use Rattle.just_errors.specs.declared.run_error.RunError.TheVariants as run
use Rattle.just_names.specs.Texts.{Text}
use Rattle.just_run_layers.specs.declared.host.Entry.TheVariants.{Confirm}
use Rattle.just_run_layers.specs.Host.{Answer, TextGiven, Refused}
use Rattle.just_run_layers.specs.Interactions.{Ask, Fail, Return, Interaction, ToHost, and_then}
use Rattle.just_recipe_body.specs.Attributes.{first_said}
use Rattle.just_recipe_body.specs.Body.{BodyContents, body_name, string_steps}

-- the prompt that an attribute says, which may be left to the recipe's name
abbrev pub confirmation_in : Attribute Expression → Option (Option Expression)
confirmation_in (attribute.Confirm prompt) = Some prompt
confirmation_in _ = None

-- a line says yes
abbrev pub is_yes : Text → Bool
is_yes line = str_eq_ignore_ascii_case (trim line) (codes "y") || str_eq_ignore_ascii_case (trim line) (codes "yes")

abbrev pub unconfirmed : Text → RunError
unconfirmed message = run.GetConfirmation (record { message = message })

abbrev pub line_answered : Answer → Interaction Bool
line_answered (TextGiven line) = Return (is_yes line)
line_answered (Refused message) = Fail (Failed (unconfirmed message))
line_answered _ = Fail Memory

-- a line is read after a prompt
abbrev pub prompt_steps : Text → Interaction Bool
prompt_steps prompt = Ask (ToHost (Confirm prompt)) line_answered

-- the prompt where none is said, and one that is
abbrev pub usual_prompt : Text → Text
usual_prompt name = codes "Run recipe `" ++ (name ++ codes "`? ")

abbrev pub said_prompt : Text → Text
said_prompt text = text ++ codes " "

abbrev pub confirm_by : BodyContents → Option (Option Expression) → Interaction Bool
confirm_by b None = Return true
confirm_by b (Some None) = prompt_steps (usual_prompt (body_name b))
confirm_by b (Some (Some prompt)) = and_then (string_steps b prompt) (λ text. prompt_steps (said_prompt text))

-- A recipe that wants no confirmation may run; another one where the line after its prompt says yes.
abbrev pub confirm_steps : BodyContents → Interaction Bool
confirm_steps b = confirm_by b (first_said confirmation_in b.recipe.attributes)

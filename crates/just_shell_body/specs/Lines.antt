-- The lines of a shell body: the groups that a shell is handed as one command each.
use Rattle.std.specs.Prelude.{◌≡◌, ℕ, ◌-◌, Bool, true, false, ◌&&◌, cond, List, [], ◌∷◌, ◌++◌, drop, take, length, Option, Some, None}
use Rattle.std.specs.List.{All}
use Rattle.just_ast_definitions.specs.declared.line.Line.{Line}
use Rattle.just_ast_expressions.specs.declared.scope.Scope.{Scope}
use Rattle.just_ast_expressions.specs.declared.settings.Settings.{Settings}
use Rattle.just_ast_expressions.specs.declared.sigil.Sigil.{Sigil}
use Rattle.just_names.specs.Texts.{Text}
use Rattle.just_parts.specs.Groups.{ends_group}
use Rattle.just_parts.specs.Known.{Known}
use Rattle.just_parts.specs.Syntax.{SyntaxAnswers}
use Rattle.just_run_layers.specs.Interactions.{Return, Interaction, and_then}
use Rattle.just_recipe_body.specs.Body.{BodyContents, line_steps}
use Rattle.just_recipe_body.specs.Covering.{IsLineCovered}
use Rattle.just_recipe_body.specs.Judging.{marks_of, number_from_one}
use Rattle.just_shell_body.specs.declared.lines.GroupCommand.{GroupCommand}

abbrev pub is_none : {A : Type 0} → List A → Bool
is_none [] = true
is_none (x ∷ xs) = false

-- Lines cut into groups, where some lines of the first one are there: a group ends with a line that does not go on, and a comment that begins a group is one of its own where comments are ignored.
abbrev pub groups_after : SyntaxAnswers → Settings → List Line → List Line → List (List Line)
groups_after syntax settings [] [] = []
groups_after syntax settings (first ∷ more) [] = (first ∷ more) ∷ []
groups_after syntax settings before (line ∷ lines) =
    cond (ends_group syntax settings line (is_none before))
    ((before ++ line ∷ []) ∷ groups_after syntax settings [] lines)
    (groups_after syntax settings (before ++ line ∷ []) lines)

abbrev pub groups : SyntaxAnswers → Settings → List Line → List (List Line)
groups syntax settings lines = groups_after syntax settings [] lines

-- a group is skipped where its first line is a comment and comments are ignored
abbrev pub is_skipped : SyntaxAnswers → Settings → Line → Bool
is_skipped syntax settings line = settings.ignore_comments && syntax.is_comment line

-- the text of a line without its last byte, where the next line goes on with it
abbrev pub trimmed : Bool → Text → Text
trimmed continues text = cond continues (take (length text - 1) text) text

-- the joined text of lines, after a text
abbrev pub lines_text_steps : BodyContents → Bool → Text → List Line → Interaction Text
lines_text_steps b continued text [] = Return text
lines_text_steps b continued text (line ∷ lines) =
    and_then (line_steps b line continued) (λ part. lines_text_steps b true (text ++ trimmed (b.syntax.is_continuation line) part) lines)

-- the number of the last line
abbrev pub last_number : ℕ → List Line → ℕ
last_number number [] = number
last_number number (line ∷ lines) = last_number line.number lines

-- the command of a group is its text without the sigils of its first line; none where nothing is left
abbrev pub command_said : List Sigil → Line → List Line → Text → Option GroupCommand
command_said sigils line lines [] = None
command_said sigils line lines (byte ∷ bytes) =
    Some (record { text = byte ∷ bytes; marks = marks_of sigils; line_number = number_from_one (last_number line.number lines) })

abbrev pub command_of_group : List Sigil → Line → List Line → Text → Option GroupCommand
command_of_group sigils line lines text = command_said sigils line lines (drop (length sigils) text)

-- A group of lines: it is skipped, or its lines are evaluated one after another, and come to a command or none.
abbrev pub group_command_steps : BodyContents → List Line → Interaction (Option GroupCommand)
group_command_steps b [] = Return None
group_command_steps b (line ∷ lines) =
    cond (is_skipped b.syntax b.context.settings line) (Return None)
    (and_then (lines_text_steps b false [] (line ∷ lines)) (λ text. Return (command_of_group (b.syntax.sigils line b.context.settings) line lines text)))

-- for the private functions: what the lines of a group read is bound where it is not skipped
abbrev pub IsGroupCovered : SyntaxAnswers → Settings → Known → Scope → List Line → Type 0
IsGroupCovered syntax settings known scope [] = Unit {0}
IsGroupCovered syntax settings known scope (line ∷ lines) = is_skipped syntax settings line ≡ false → All (IsLineCovered known scope) (line ∷ lines)

abbrev pub AreGroupsCovered : SyntaxAnswers → Settings → Known → Scope → List Line → Type 0
AreGroupsCovered syntax settings known scope lines = All (IsGroupCovered syntax settings known scope) (groups syntax settings lines)

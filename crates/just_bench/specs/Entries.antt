-- The lines that are written of a run.
use Rattle.std.specs.Prelude.{List, [], ◌∷◌, ◌++◌, codes}
use Rattle.std.specs.List.{flat_map}
use Rattle.just_names.specs.Texts.{Text, text_of}
use Rattle.just_run_layers.specs.declared.host.Entry.{Entry}
use Rattle.just_run_layers.specs.declared.host.Entry.TheVariants.{Begin, Confirm, Script, Shell, Show}

-- the texts of a group in brackets, with commas between them
abbrev pub further : List Text → Text
further = flat_map (λ text. codes ", " ++ text)

abbrev pub group_text : List Text → Text
group_text [] = codes " []"
group_text (text ∷ texts) = (codes " [" ++ text) ++ (further texts ++ codes "]")

abbrev pub groups_text : List (List Text) → Text
groups_text = flat_map group_text

-- lines of a script
abbrev pub script_line : Text → Text
script_line line = codes "    script " ++ (line ++ codes "\n")

abbrev pub script_lines : List Text → Text
script_lines = flat_map script_line

-- the path of a recipe that began, and the groups of its arguments; and behind blanks a prompt, a line that is shown, the command of a shell, and the lines of a script
abbrev pub entry_line : Entry → Text
entry_line (Begin path groups) = text_of path.components path.spaced ++ (groups_text groups ++ codes "\n")
entry_line (Confirm prompt) = codes "    confirm " ++ (prompt ++ codes "\n")
entry_line (Show line) = codes "    show " ++ (line ++ codes "\n")
entry_line (Shell call) = codes "    shell " ++ (call.command ++ codes "\n")
entry_line (Script call) = script_lines call.lines
entry_line entry = []

-- the lines of the calls of a host
abbrev pub entry_lines : List Entry → Text
entry_lines = flat_map entry_line

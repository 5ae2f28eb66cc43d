-- Justfiles under labels, by their names.
use Rattle.std.specs.Prelude.{◌≡◌, ℕ, List, [], ◌∷◌, map, get_or, Option, None, Some}
use Rattle.std.specs.Map.{values_of}
use Rattle.just_justfile.specs.Module.{module_name}
use Rattle.just_justfile.specs.declared.justfile.Justfile.{Justfile, out-Justfile, roll-Justfile}
use Rattle.just_names.specs.Texts.{Text}
use Rattle.just_module_contents.specs.declared.labels.Label.{Label}
use Rattle.just_module_contents.specs.declared.notes.Notes.{Notes}
use Rattle.just_table.specs.Entries.{put}

-- what a justfile has of what is noted
abbrev pub notes_in : Justfile → Notes
notes_in j = record { absent_modules = (out-Justfile j).absent_modules; unstable_features = (out-Justfile j).unstable_features; warnings = (out-Justfile j).warnings }

-- modules under their names, one after another
abbrev pub held_by_name : List (Text × Justfile) → List Justfile → List (Text × Justfile)
held_by_name held [] = held
held_by_name held (j ∷ js) = held_by_name (put (module_name j) j held) js

-- modules in byte order of their names
abbrev pub by_name : List Justfile → List Justfile
by_name js = values_of (held_by_name [] js)

-- the label that a justfile has, whose doc is evaluated
abbrev pub label_in : Justfile → Label
label_in j = record { name = (out-Justfile j).name; doc = (out-Justfile j).doc; doc_expression = None; groups = (out-Justfile j).groups; private = (out-Justfile j).private }

-- a justfile under a label
abbrev pub labelled_as : Label → Justfile → Justfile
labelled_as label j = roll-Justfile (record (out-Justfile j) { name = label.name; doc = label.doc; groups = label.groups; private = label.private })

-- each under the label beside it
abbrev pub with_labels : List Justfile → List Label → List Justfile
with_labels [] labels = []
with_labels (j ∷ js) [] = []
with_labels (j ∷ js) (label ∷ labels) = labelled_as label j ∷ with_labels js labels

-- what is held at a place
abbrev pub slot : List (Option Justfile) → ℕ → Option Justfile
slot slots q = get_or slots q None

-- what is held at the places of a row, each under the label beside it, by their names
abbrev pub AreTaken : List (Option Justfile) → List ℕ → List Label → List Justfile → Type 0
AreTaken slots row labels modules = (js : List Justfile) → map Some js ≡ map (slot slots) row → modules ≡ by_name (with_labels js labels)

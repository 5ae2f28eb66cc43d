-- What is noted of files at places.
use Rattle.std.specs.Prelude.{ℕ, Bool, List, flat_map, slice_get}
use Rattle.just_parts.specs.Items.{Ast, Item}
use Rattle.just_module_contents.specs.Notes.{absent_by, features_by, notes_of, warnings_by}
use Rattle.just_module_contents.specs.declared.notes.Notes.{Notes}
use Rattle.just_module_contents.specs.Named.{said_from}

-- what is noted of them, file after file
abbrev pub notes_from : (Item → Bool) → List Ast → List ℕ → Notes
notes_from enabled asts files =
    notes_of (said_from absent_by enabled asts files) (flat_map (λ p. features_by (slice_get asts p)) files) (flat_map (λ p. warnings_by (slice_get asts p)) files)

-- What private functions say beside `Noted.antt`.
use Rattle.std.specs.Prelude.{ℕ, Bool}
use Rattle.just_graph.specs.Graph.{targets}
use Rattle.just_parts.specs.Items.{Item}
use Rattle.just_module_contents.specs.declared.notes.Notes.{Notes}
use Rattle.just_module_headers.specs.Files.{asts_in}
use Rattle.just_module_headers.specs.declared.files.Files.{Files}
use Rattle.just_module_headers.specs.declared.join.Joined.{Joined}
use Rattle.just_module_assembly.specs.Noted.{notes_from}

-- the same of the module at a place
abbrev pub notes_of_place : (Item → Bool) → Files → Joined → ℕ → Notes
notes_of_place enabled files joined p = notes_from enabled (asts_in files) (targets joined.files.items p)

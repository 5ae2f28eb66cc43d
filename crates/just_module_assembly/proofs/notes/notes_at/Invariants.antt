use Rattle.std.proofs.Common.{◌≡◌, take}
use Rattle.just_module_headers.specs.Files.{asts_in}
use Rattle.just_module_assembly.specs.Noted.{notes_from}
use Rattle.just_module_assembly.proofs.notes.notes_at.Given as goal

abbrev pub invariant-loop-place : goal.invariant-loop-place
invariant-loop-place g l = l.notes ≡ notes_from (g.S.Syntax.answers l.syntax).enabled (asts_in l.files) (take l.place-index l.places)

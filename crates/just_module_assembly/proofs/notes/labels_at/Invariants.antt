use Rattle.std.proofs.Common.{◌≡◌, take}
use Rattle.just_module_headers.specs.Files.{asts_in}
use Rattle.just_module_contents.specs.Named.{said_from}
use Rattle.just_module_contents.specs.Labels.{label_by}
use Rattle.just_module_assembly.proofs.notes.labels_at.Given as goal

abbrev pub invariant-loop-place : goal.invariant-loop-place
invariant-loop-place g l = l.labels.items ≡ said_from label_by (g.S.Syntax.answers l.syntax).enabled (asts_in l.files) (take l.place-index l.places)

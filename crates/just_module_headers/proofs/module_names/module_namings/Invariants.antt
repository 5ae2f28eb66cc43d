use Rattle.std.proofs.Common.{◌≡◌, take}
use Rattle.just_module_headers.specs.Files.{asts_in}
use Rattle.just_module_contents.specs.Named.{naming_by, said_from}
use Rattle.just_module_headers.proofs.module_names.module_namings.Given as goal

abbrev pub invariant-loop-place : goal.invariant-loop-place
invariant-loop-place g l = l.namings.items ≡ said_from naming_by (g.S.Syntax.answers l.syntax).enabled (asts_in l.files) (take l.place-index l.places)

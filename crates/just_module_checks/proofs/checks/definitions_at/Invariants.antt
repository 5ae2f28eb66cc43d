use Rattle.std.proofs.Common.{◌≡◌, take}
use Rattle.just_module_contents.specs.Definitions.{contents_in}
use Rattle.just_module_headers.specs.Files.{asts_in}
use Rattle.just_module_contents.specs.Named.{contents_from}
use Rattle.just_module_checks.proofs.checks.definitions_at.Given as goal

abbrev pub invariant-loop-place : goal.invariant-loop-place
invariant-loop-place g l = contents_in l.definitions ≡ contents_from (g.S.Syntax.answers l.syntax).enabled (asts_in l.files) (take l.place-index l.places)

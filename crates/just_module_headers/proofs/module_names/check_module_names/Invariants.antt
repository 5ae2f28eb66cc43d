use Rattle.std.proofs.Common.{ℕ, ◌<◌, slice_index}
use Rattle.just_module_contents.specs.Contents.{texts_of_named}
use Rattle.just_names.specs.Index.{AreDifferent}
use Rattle.just_module_headers.specs.OfPlaces.{namings_of_place}
use Rattle.just_module_headers.proofs.module_names.check_module_names.Given as goal

abbrev pub invariant-loop-place : goal.invariant-loop-place
invariant-loop-place g l = (k : ℕ) → k < l.place-index → AreDifferent (texts_of_named (namings_of_place (g.S.Syntax.answers l.syntax).enabled l.files l.joined (slice_index l.order k)))

use Rattle.std.proofs.Common.{◌≡◌, drop}
use Rattle.just_module_contents.specs.Labels.{doc_of}
use Rattle.just_module_contents.proofs.labels.doc_of.Given as goal

abbrev pub invariant-loop-named : goal.invariant-loop-named
invariant-loop-named l = doc_of l.attributes ≡ doc_of (drop l.named-index l.attributes)

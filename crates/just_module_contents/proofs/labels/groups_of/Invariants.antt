use Rattle.std.proofs.Common.{◌≡◌, ◌++◌, drop}
use Rattle.just_module_contents.specs.Labels.{groups_of}
use Rattle.just_module_contents.proofs.labels.groups_of.Given as goal

abbrev pub invariant-loop-named : goal.invariant-loop-named
invariant-loop-named l = groups_of l.attributes ≡ l.groups ++ groups_of (drop l.named-index l.attributes)

use Rattle.std.proofs.Common.{◌≡◌, take}
use Rattle.just_module_contents.specs.Contents.{with_lists}
use Rattle.just_module_contents.specs.Definitions.{contents_in}
use Rattle.just_module_contents.proofs.definitions.Definitions.add_lists.Given as goal

abbrev pub invariant-loop-used : goal.invariant-loop-used
invariant-loop-used l = contents_in l.self ≡ with_lists (contents_in l.initial.self) (take l.used-index l.uses)

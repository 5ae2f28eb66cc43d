use Rattle.std.proofs.Common.{◌≡◌, take}
use Rattle.just_module_contents.specs.Contents.{texts_of_named}
use Rattle.just_module_contents.proofs.definitions.Naming.texts.Given as goal

abbrev pub invariant-loop-naming : goal.invariant-loop-naming
invariant-loop-naming l = l.texts.items ≡ texts_of_named (take l.naming-index l.named)

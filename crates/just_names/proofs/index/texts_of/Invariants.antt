use Rattle.std.proofs.Common.{◌≡◌, map, take}
use Rattle.just_names.specs.Name.{text_of_name}
use Rattle.just_names.proofs.index.texts_of.Given as goal

abbrev pub invariant-loop-name : goal.invariant-loop-name
invariant-loop-name l = l.texts.items ≡ map text_of_name (take l.name-index l.names)

use Rattle.std.proofs.Common.{◌≡◌, map, take}
use Rattle.just_names.specs.Name.{text_of_name}
use Rattle.just_justfile.proofs.resolution.along.Given as goal

abbrev pub invariant-loop-name : goal.invariant-loop-name
invariant-loop-name l = l.components.items ≡ map text_of_name (take l.name-index l.names)

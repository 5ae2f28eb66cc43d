use Rattle.std.proofs.Common.{◌≡◌, map, take, drop}
use Rattle.std.specs.Option.{option_copied}
use Rattle.just_names.specs.Name.{text_of_name}
use Rattle.just_justfile.specs.Walks.{AreOrdered, end_of_names}
use Rattle.just_justfile.specs.loops.Walks.{absent_there}
use Rattle.just_justfile.proofs.Walking.{resumed}
use Rattle.just_justfile.proofs.resolution.walk.Given as goal

abbrev pub invariant-loop-at : goal.invariant-loop-at
invariant-loop-at l = record {
  goes_on : end_of_names l.absent l.modules-2 (map text_of_name l.front) ≡ resumed (take l.at (map text_of_name l.front)) (option_copied l.inside) (end_of_names (absent_there l.absent (option_copied l.inside)) l.modules (drop l.at (map text_of_name l.front)));
  ordered : AreOrdered l.modules;
}

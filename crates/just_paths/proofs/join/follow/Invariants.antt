use Rattle.std.proofs.Common.{◌≡◌}
use Rattle.std.specs.List.{fold}
use Rattle.just_paths.specs.Join.{step}
use Rattle.just_names.specs.Texts.{texts}
use Rattle.just_paths.proofs.join.follow.Given as goal

abbrev pub invariant-loop-component : goal.invariant-loop-component
invariant-loop-component l = texts l.components.items ≡ fold step (texts l.initial.components.items) (texts l.yielded)

use Rattle.just_run_layers.specs.Covering.{module_of}
use Rattle.just_examples_values.proofs.Covered.{covers_each}
use Rattle.just_examples_values.proofs.bodies.add_lines.Goals as goal

pub line-requires : goal.line-requires
line-requires g c = record { covered = covers_each (module_of c.args.place.now.context.now) c.args.place.now.scope.now c.requires _ }

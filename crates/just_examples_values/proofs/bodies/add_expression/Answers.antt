use Rattle.just_run_layers.specs.Covering.{module_of}
use Rattle.just_examples_values.proofs.Covered.{covers_one}
use Rattle.just_examples_values.proofs.bodies.add_expression.Goals as goal

pub string-requires : goal.string-requires
string-requires g c = record { covered = covers_one (module_of c.args.place.now.context.now) c.args.place.now.scope.now c.requires c.args.expression.now }

pub value-requires : goal.value-requires
value-requires g c = record { covered = covers_one (module_of c.args.place.now.context.now) c.args.place.now.scope.now c.requires c.args.expression.now }

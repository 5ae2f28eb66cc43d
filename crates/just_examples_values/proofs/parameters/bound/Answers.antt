use Rattle.just_parts.specs.Known.{none_hidden}
use Rattle.just_run_layers.specs.Covering.{module_of}
use Rattle.just_examples_values.proofs.Binding.{still_bound}
use Rattle.just_examples_values.proofs.Covered.{covers_parameters}
use Rattle.just_examples_values.proofs.parameters.bound.Goals as goal

pub parameters-requires : goal.parameters-requires
parameters-requires g c = record { covered = covers_parameters (module_of c.args.place.now.context.now) c.args.place.now.scope.now c.requires none_hidden c.as_slice.result.now }

pub returns : goal.returns
returns g c = still_bound c.args.place.now.context.now c.args.place.now.scope.now c.as_slice.result.now c.parameters.result c.requires c.parameters.ensures.binds

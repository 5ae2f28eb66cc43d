use Rattle.just_examples_values.proofs.Binding.{all_bound}
use Rattle.just_examples_values.proofs.variables.all_values.Goals as goal

pub returns : goal.returns
returns g c = all_bound c.args.context.now c.assignments.result c.assignments.ensures.binds

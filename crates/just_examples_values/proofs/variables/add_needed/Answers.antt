use Rattle.std.proofs.Common.{◌≡◌, Some}
use Rattle.just_parts.specs.Needs.{has_number}
use Rattle.just_run_layers.specs.Covering.{module_of}
use Rattle.just_examples_values.proofs.Closed.{found_closed}
use Rattle.just_examples_values.proofs.variables.add_needed.Goals as goal

pub add_set-requires-clause-closed : goal.add_set-requires-clause-closed
add_set-requires-clause-closed g c =
    let is : c.in_ok-set.field-0 ≡ Some c.in-Some.set = (let e = c.in-Some.is in cc) in
    let same : c.in_ok-set-in-Some.set ≡ c.in-Some.set = (let e = c.in_ok-set-in-Some.ensures in cc) in
    found_closed (module_of c.args.context.now) (has_number c.args.context.now.overrides.now) c.args.name.now c.in_ok-set.field-0 c.in-Some.set c.in_ok-set-in-Some.set c.requires.apart c.in_ok-set.ensures.needed is same

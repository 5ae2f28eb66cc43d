use Rattle.std.specs.HashMap.{get}
use Rattle.std.specs.Str.{bytes_eq}
use Rattle.just_parts.specs.Evaluator.{scope_values}
use Rattle.just_parts.specs.Needs.{has_number}
use Rattle.just_recipe_resolver.proofs.recipe_resolver.resolving_by.Goals as goal

pub returns-clause-basis : goal.returns-clause-basis
returns-clause-basis g c = λ i. record {
  numbers = get bytes_eq (c.bindings.ensures i);
  assignments = (c.known-known.ensures i).assignments.now;
  functions = (c.known-known.ensures i).functions.now;
  constants = scope_values c.args.constants.now;
  overridden = has_number (c.overrides.ensures i);
  settings = c.args.settings.now;
}

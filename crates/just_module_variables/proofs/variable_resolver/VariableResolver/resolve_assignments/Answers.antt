use Rattle.std.proofs.Common.{◌∙◌, map}
use Rattle.std.specs.HashMap.{get}
use Rattle.std.specs.List.{slice_get}
use Rattle.std.specs.Str.{bytes_eq}
use Rattle.just_module_variables.proofs.Outcome.{resolved}
use Rattle.just_module_variables.proofs.variable_resolver.VariableResolver.resolve_assignments.Goals as goal
use Rattle.just_parts.specs.Known.{known}

pub returns-clause-resolved : goal.returns-clause-resolved
returns-clause-resolved g c =
    resolved (known (g.S.Syntax.answers c.args.syntax.now) c.args.assignments.now c.args.functions.now) c.in_ok-numbered_assignments.ensures.sorted c.in_ok-numbered_functions.ensures.sorted
    (get bytes_eq c.in_ok-bindings.bindings) c.in_ok-bindings.ensures c.in_ok-names.names.items c.in_ok-order.order.items c.in_ok-places.places.items c.replace.new.dest c.replace-2.new.dest
    c.in_ok-names.ensures (c.in_ok-order.ensures ∙ (λ i. map (slice_get (c.as_slice.ensures.value i)) (c.as_slice-2.ensures.value i))) c.in_ok-places.ensures.ordered
    (c.replace.ensures.after ∙ c.in_ok-numbered_assignments.ensures.made) (c.replace-2.ensures.after ∙ c.in_ok-numbered_functions.ensures.made)

use Rattle.std.proofs.Common.{map}
use Rattle.std.specs.HashMap.{get}
use Rattle.std.specs.Map.{values_of}
use Rattle.std.specs.Str.{bytes_eq}
use Rattle.just_parts.specs.loops.Scopes.{body_scoped, value_scoped}
use Rattle.just_module_variables.proofs.Rows.{rows_are}
use Rattle.just_module_variables.proofs.nodes.nodes_of.Goals as goal

pub returns-clause-rows : goal.returns-clause-rows
returns-clause-rows g c = record {
  variable = get bytes_eq c.in_ok-places.places.variables;
  function = get bytes_eq c.in_ok-places.places.functions;
  variables = c.in_ok-places.ensures.variables;
  functions = c.in_ok-places.ensures.functions;
  are = rows_are (get bytes_eq c.in_ok-places.places.variables) (get bytes_eq c.in_ok-places.places.functions) _ _
      (map value_scoped (values_of c.args.known.now.assignments.now)) (map body_scoped (values_of c.args.known.now.functions.now)) _ _
      c.in_ok-places.ensures.count c.in_ok-rows.ensures c.in_ok-add_body_rows.ensures;
}

use Rattle.std.specs.HashSet.{contains}
use Rattle.std.specs.Str.{bytes_eq}
use Rattle.just_name_resolution.proofs.LookingAt.{found_some}
use Rattle.just_name_resolution.specs.Lent.{tables_in}
use Rattle.just_parts.specs.Needs.{has_number, same_number}
use Rattle.just_recipe_needs.proofs.Gathering.{variable_collected}
use Rattle.just_recipe_needs.proofs.collection.collect_variable.Goals as goal

pub returns : goal.returns
returns c =
    let m = tables_in c.args.sources.now.tables in
    let variable = c.args.variable.now in
    let a = c.in-Some.assignment.now in
    variable_collected m (has_number c.args.sources.now.overrides.now) variable a
    (found_some c.get.result c.in-Some.assignment c.as_str.result.now variable m.assignments c.get.ensures c.as_str.ensures c.in-Some.is)
    (contains same_number c.args.references.now) (contains same_number c.collect_value.new.references) (contains same_number c.insert.new.self)
    (contains bytes_eq c.args.visited.now) (contains bytes_eq c.collect_value.new.visited) c.in_ok-collect_value.ensures (λ n. c.in_ok-insert.ensures.updates.0 n)

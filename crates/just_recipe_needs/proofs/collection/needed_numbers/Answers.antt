use Rattle.std.proofs.Common.{ap}
use Rattle.std.specs.HashSet.{contains}
use Rattle.std.specs.List.{list_any}
use Rattle.std.specs.Str.{bytes_eq}
use Rattle.just_name_resolution.specs.Lent.{tables_in}
use Rattle.just_parts.specs.Needs.{has_number, same_number}
use Rattle.just_recipe_needs.proofs.Gathering.{all_collected}
use Rattle.just_recipe_needs.proofs.collection.needed_numbers.Goals as goal

pub returns : goal.returns
returns c =
    let m = tables_in c.args.sources.now.tables in
    all_collected m (has_number c.args.sources.now.overrides.now) (contains same_number c.new-references.result) (contains bytes_eq c.new-visited.result)
    (λ n. ap (list_any (same_number n)) c.new-references.ensures.empty) (λ x. ap (list_any (bytes_eq x)) c.new-visited.ensures.empty)
    c.args.names.now.variables.keys c.args.names.now.functions.keys
    (contains same_number c.collect_bodies.new.references) (contains same_number c.collect_variables.new.references)
    (contains bytes_eq c.collect_bodies.new.visited) (contains bytes_eq c.collect_variables.new.visited)
    c.in_ok-collect_bodies.ensures c.in_ok-collect_variables.ensures c.in_ok-numbers.numbers c.in_ok-numbers.ensures.once c.in_ok-numbers.ensures.all

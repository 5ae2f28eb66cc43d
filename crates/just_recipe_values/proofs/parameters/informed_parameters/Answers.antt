use Rattle.std.proofs.Common.{rules, ◌≡◌, ◌∙◌, [], length, map}
use Rattle.std.proofs.lemmas.List.{nil_from_length}
use Rattle.std.specs.HashMap.{get}
use Rattle.std.specs.Str.{bytes_eq}
use Rattle.just_recipe_values.specs.loops.Judged.{informed_by}
use Rattle.just_recipe_values.proofs.Saying.{all_made, informed_said}
use Rattle.just_recipe_values.proofs.parameters.informed_parameters.Goals as goal

pub returns : goal.returns
returns c =
    let helps = get bytes_eq c.in_ok-helps.helps in
    let patterns = get bytes_eq c.in_ok-patterns.patterns in
    let by = informed_by helps patterns in
    let zero : length c.loop-parameter.parameter-iterator.rest.items ≡ 0 = search rules in
    let none : c.loop-parameter.parameter-iterator.rest.items ≡ [] = nil_from_length c.loop-parameter.parameter-iterator.rest.items zero in
    c.from_vec.ensures
    ∙ (all_made by (map by c.args.parameters) c.loop-parameter.made.items c.loop-parameter.parameter-iterator.rest.items c.loop-parameter.invariant none
    ∙ informed_said c.args.attributes.now helps patterns c.in_ok-helps.ensures c.in_ok-patterns.ensures c.args.parameters)

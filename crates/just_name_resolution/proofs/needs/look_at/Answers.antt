use Rattle.std.proofs.Common.{◌∙◌, true, false}
use Rattle.std.specs.HashSet.{contains}
use Rattle.std.specs.Str.{bytes_eq}
use Rattle.just_names.specs.Name.{text_of_name}
use Rattle.just_parts.specs.Needs.{has_number, same_number}
use Rattle.just_name_resolution.specs.loops.Search.{found_in}
use Rattle.just_name_resolution.proofs.LookingAt.{asked, reference_called, reference_hidden, reference_named}
use Rattle.just_name_resolution.proofs.needs.look_at.Goals as goal
use Rattle.just_name_resolution.specs.Lent.{tables_in}

pub returns-in-Call : goal.returns-in-Call
returns-in-Call c =
    let m = tables_in c.args.tables.now in
    reference_called m (has_number c.args.overrides.now) (contains bytes_eq c.args.hidden.now) (contains same_number c.args.references.now) (contains bytes_eq c.args.visited.now) c.in-Call.name c.args.reference.now
    c.in-Call.arguments c.in-Call.is c.args.search.now c.look_at_call.new.search c.look_at_call.result c.look_at_call.ensures

pub returns-then-contains : goal.returns-then-contains
returns-then-contains c =
    let m = tables_in c.args.tables.now in
    let name = text_of_name c.in-Variable.name in
    let hidden = contains bytes_eq c.args.hidden.now in
    reference_hidden m (has_number c.args.overrides.now) hidden (contains same_number c.args.references.now) (contains bytes_eq c.args.visited.now) c.in-Variable.name c.args.reference.now c.in-Variable.is
    (asked hidden c.new.result name c.contains.result true c.contains.ensures (c.new.ensures ∙ c.lexeme.ensures) c.if-contains.true) (found_in (contains same_number c.args.references.now) (contains bytes_eq c.args.visited.now) c.args.search.now)

pub returns-else-contains : goal.returns-else-contains
returns-else-contains c =
    let m = tables_in c.args.tables.now in
    let name = text_of_name c.in-Variable.name in
    let hidden = contains bytes_eq c.args.hidden.now in
    reference_named m (has_number c.args.overrides.now) hidden (contains same_number c.args.references.now) (contains bytes_eq c.args.visited.now) c.in-Variable.name c.args.reference.now c.in-Variable.is
    (asked hidden c.new.result name c.contains.result false c.contains.ensures (c.new.ensures ∙ c.lexeme.ensures) c.if-contains.false) c.args.search.now c.look_at_name.new.search c.look_at_name.result c.look_at_name.ensures

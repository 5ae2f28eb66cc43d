use Rattle.std.proofs.Common.{◌∙◌, refl, sym}
use Rattle.std.specs.HashSet.{contains}
use Rattle.just_names.specs.Name.{text_of_name}
use Rattle.just_parts.specs.Needs.{has_number, same_number}
use Rattle.just_name_resolution.proofs.LookingAt.{found_none, found_some, name_overridden, name_settled, name_unknown, name_waits}
use Rattle.just_name_resolution.proofs.Sets.{or_left, or_right}
use Rattle.just_name_resolution.proofs.needs.look_at_name.Goals as goal
use Rattle.just_name_resolution.specs.Lent.{tables_in}

pub returns-in_default : goal.returns-in_default
returns-in_default c =
    let m = tables_in c.args.tables.now in
    let name = text_of_name c.args.name.now in
    name_unknown m (has_number c.args.overrides.now) (contains same_number c.args.references.now) name c.args.search.now
    (found_none c.get.result c.lexeme.result.now name m.assignments c.get.ensures c.lexeme.ensures c.in_default.is)

pub returns-then-contains : goal.returns-then-contains
returns-then-contains c =
    let m = tables_in c.args.tables.now in
    let name = text_of_name c.args.name.now in
    let a = c.in-Some.assignment.now in
    name_settled m (has_number c.args.overrides.now) (contains same_number c.args.references.now) name c.args.search.now a
    (found_some c.get.result c.in-Some.assignment c.lexeme.result.now name m.assignments c.get.ensures c.lexeme.ensures c.in-Some.is)
    (or_left (contains same_number c.args.references.now a.number) (contains same_number c.args.search.now.numbers a.number) (sym c.contains.ensures ∙ c.if-contains.true))

pub returns-then-contains-2 : goal.returns-then-contains-2
returns-then-contains-2 c =
    let m = tables_in c.args.tables.now in
    let name = text_of_name c.args.name.now in
    let a = c.in-Some.assignment.now in
    name_settled m (has_number c.args.overrides.now) (contains same_number c.args.references.now) name c.args.search.now a
    (found_some c.get.result c.in-Some.assignment c.lexeme.result.now name m.assignments c.get.ensures c.lexeme.ensures c.in-Some.is)
    (or_right (contains same_number c.args.references.now a.number) (contains same_number c.args.search.now.numbers a.number) (sym c.contains-2.ensures ∙ c.if-contains-2.true))

pub returns-then-contains_key : goal.returns-then-contains_key
returns-then-contains_key c =
    let m = tables_in c.args.tables.now in
    let name = text_of_name c.args.name.now in
    name_overridden m (has_number c.args.overrides.now) (contains same_number c.args.references.now) name c.args.search.now c.in-Some.assignment.now
    (found_some c.get.result c.in-Some.assignment c.lexeme.result.now name m.assignments c.get.ensures c.lexeme.ensures c.in-Some.is)
    (record { numbers = c.insert.new.self; functions = c.args.search.now.functions; stack = c.args.search.now.stack })
    (sym c.contains.ensures ∙ c.if-contains.false) (sym c.contains-2.ensures ∙ c.if-contains-2.false) refl (λ n. c.in_ok-insert.ensures.updates.0 n)
    (sym c.contains_key.ensures ∙ c.if-contains_key.true) refl

pub returns : goal.returns
returns c =
    let m = tables_in c.args.tables.now in
    let name = text_of_name c.args.name.now in
    name_waits m (has_number c.args.overrides.now) (contains same_number c.args.references.now) name c.args.search.now c.in-Some.assignment.now
    (found_some c.get.result c.in-Some.assignment c.lexeme.result.now name m.assignments c.get.ensures c.lexeme.ensures c.in-Some.is)
    (record { numbers = c.insert.new.self; functions = c.args.search.now.functions; stack = c.push.new.self })
    (sym c.contains.ensures ∙ c.if-contains.false) (sym c.contains-2.ensures ∙ c.if-contains-2.false) refl (λ n. c.in_ok-insert.ensures.updates.0 n)
    (sym c.contains_key.ensures ∙ c.if-contains_key.false) _ c.in_ok-push.ensures.items refl

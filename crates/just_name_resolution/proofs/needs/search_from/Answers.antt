use Rattle.std.proofs.Common.{refl}
use Rattle.std.specs.HashSet.{contains}
use Rattle.std.specs.Str.{bytes_eq}
use Rattle.just_parts.specs.Needs.{has_number, same_number}
use Rattle.just_name_resolution.proofs.LookingAt.{searches_first, searches_less, searches_next, searches_still}
use Rattle.just_name_resolution.proofs.needs.search_from.Goals as goal
use Rattle.just_name_resolution.specs.Lent.{tables_in}

pub loop-next-init : goal.loop-next-init
loop-next-init c =
    let m = tables_in c.args.tables.now in
    searches_first m (has_number c.args.overrides.now) c.args.stack.items (contains same_number c.args.references.now) (contains bytes_eq c.args.visited.now)
    (record { numbers = c.new.result; functions = c.new-2.result; stack = c.args.stack }) c.new.ensures.empty c.new-2.ensures.empty refl

pub loop-next-preserved : goal.loop-next-preserved
loop-next-preserved c =
    let m = tables_in c.args.tables.now in
    searches_next m (has_number c.args.overrides.now) c.args.stack.items (contains same_number c.args.references.now) (contains bytes_eq c.args.visited.now)
    c.loop-next.search (record { numbers = c.loop-next.search.numbers; functions = c.loop-next.search.functions; stack = c.pop.new.self }) c.look_into.new.search c.in-Some.next refl refl c.in-Some.ensures.items
    c.loop-next.invariant c.in_ok-look_into.ensures

pub loop-next-smaller : goal.loop-next-smaller
loop-next-smaller c =
    let m = tables_in c.args.tables.now in
    searches_less m (has_number c.args.overrides.now) c.args.stack.items (contains same_number c.args.references.now) (contains bytes_eq c.args.visited.now)
    c.loop-next.search (record { numbers = c.loop-next.search.numbers; functions = c.loop-next.search.functions; stack = c.pop.new.self }) c.look_into.new.search c.in-Some.next refl refl c.in-Some.ensures.items
    c.loop-next.invariant c.in_ok-look_into.ensures

pub returns-clause-found : goal.returns-clause-found
returns-clause-found c =
    let m = tables_in c.args.tables.now in
    searches_still m (has_number c.args.overrides.now) c.args.stack.items (contains same_number c.args.references.now) (contains bytes_eq c.args.visited.now)
    c.loop-next.search (record { numbers = c.loop-next.search.numbers; functions = c.loop-next.search.functions; stack = c.pop.new.self }) refl refl c.in_default.ensures.items c.loop-next.invariant

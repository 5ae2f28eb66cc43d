use Rattle.std.proofs.Common.{◌∙◌, ap}
use Rattle.std.specs.HashSet.{contains}
use Rattle.std.specs.Str.{bytes_eq}
use Rattle.just_parts.specs.Needs.{has_number, same_number}
use Rattle.just_name_resolution.specs.loops.Search.{found_in, hidden_by}
use Rattle.just_name_resolution.proofs.Looking.{looked_all, looked_more, looked_none}
use Rattle.just_name_resolution.proofs.needs.look_into.Goals as goal
use Rattle.just_ast_references.specs.Mentions.{mention_of}
use Rattle.just_name_resolution.specs.Lent.{tables_in}
use Rattle.just_parts.specs.Reading.{mentions}
use Rattle.std.specs.Prelude.{map}

pub loop-reference-init : goal.loop-reference-init
loop-reference-init c =
    let m = tables_in c.args.tables.now in
    let found = found_in (contains same_number c.args.references.now) (contains bytes_eq c.args.visited.now) in
    looked_none m (has_number c.args.overrides.now) (contains bytes_eq c.in_ok-hidden.hidden) (found c.args.search.now) (found c.args.search.now) (mentions c.args.waiting.now.expression.now) c.into_iter-reference-iterator.result
    (ap (map mention_of) (c.into_iter-reference-iterator.ensures.into_iter_gives ∙ c.in_ok-reference-items.ensures))

pub loop-reference-preserved : goal.loop-reference-preserved
loop-reference-preserved c =
    let m = tables_in c.args.tables.now in
    let found = found_in (contains same_number c.args.references.now) (contains bytes_eq c.args.visited.now) in
    looked_more m (has_number c.args.overrides.now) (contains bytes_eq c.in_ok-hidden.hidden) (found c.args.search.now) (found c.loop-reference.search) (mentions c.args.waiting.now.expression.now)
    c.loop-reference.reference-iterator c.next.new.self c.in-Some.reference (found c.look_at.new.search) c.in-Some.ensures.steps c.loop-reference.invariant c.in_ok-look_at.ensures

pub returns : goal.returns
returns c =
    let m = tables_in c.args.tables.now in
    let found = found_in (contains same_number c.args.references.now) (contains bytes_eq c.args.visited.now) in
    looked_all m (has_number c.args.overrides.now) (contains bytes_eq c.in_ok-hidden.hidden) (found c.args.search.now) (found c.loop-reference.search) (mentions c.args.waiting.now.expression.now)
    c.loop-reference.reference-iterator (hidden_by c.args.waiting.now.parameters) c.in-None.ensures.steps.0 c.in_ok-hidden.ensures c.loop-reference.invariant

use Rattle.std.proofs.Common.{◌≡◌, ◌∙◌, true, false, cond, refl, ap}
use Rattle.std.specs.HashSet.{contains}
use Rattle.std.specs.Str.{bytes_eq}
use Rattle.std.proofs.lemmas.Result.{IfOk-from_err}
use Rattle.just_names.specs.Name.{text_of_name}
use Rattle.just_name_resolution.proofs.LookingAt.{asked, call_found, call_settled, call_unknown, found_none, found_some}
use Rattle.just_name_resolution.proofs.Sets.{or_left, or_right}
use Rattle.just_name_resolution.proofs.needs.look_at_call.Goals as goal
use Rattle.just_parts.specs.Known.{hides}
use Rattle.just_name_resolution.specs.Lent.{tables_in}
use Rattle.just_parts.specs.Scopes.{scoped}

pub returns-in_default : goal.returns-in_default
returns-in_default c =
    let m = tables_in c.args.tables.now in
    let name = text_of_name c.args.name.now in
    call_unknown m (contains bytes_eq c.args.visited.now) name c.args.search.now (found_none c.get.result c.lexeme.result.now name m.functions c.get.ensures c.lexeme.ensures c.in_default.is)

pub returns-then-contains : goal.returns-then-contains
returns-then-contains c =
    let m = tables_in c.args.tables.now in
    let name = text_of_name c.args.name.now in
    let visited = contains bytes_eq c.args.visited.now in
    call_settled m visited name c.args.search.now
    (or_left (visited name) (contains bytes_eq c.args.search.now.functions name) (asked visited c.new-name.result name c.contains.result true c.contains.ensures (c.new-name.ensures ∙ c.lexeme-2.ensures) c.if-contains.true))

pub returns-then-contains-2 : goal.returns-then-contains-2
returns-then-contains-2 c =
    let m = tables_in c.args.tables.now in
    let name = text_of_name c.args.name.now in
    let visited = contains bytes_eq c.args.visited.now in
    let functions = contains bytes_eq c.args.search.now.functions in
    call_settled m visited name c.args.search.now
    (or_right (visited name) (functions name) (asked functions c.new-name.result name c.contains-2.result true c.contains-2.ensures (c.new-name.ensures ∙ c.lexeme-2.ensures) c.if-contains-2.true))

pub returns : goal.returns
returns c =
    let m = tables_in c.args.tables.now in
    let name = text_of_name c.args.name.now in
    let visited = contains bytes_eq c.args.visited.now in
    let functions = contains bytes_eq c.args.search.now.functions in
    let key : c.new-name.result ≡ name = c.new-name.ensures ∙ c.lexeme-2.ensures in
    call_found m visited name c.args.search.now c.in-Some.function.now (found_some c.get.result c.in-Some.function c.lexeme.result.now name m.functions c.get.ensures c.lexeme.ensures c.in-Some.is)
    (asked visited c.new-name.result name c.contains.result false c.contains.ensures key c.if-contains.false)
    (asked functions c.new-name.result name c.contains-2.result false c.contains-2.ensures key c.if-contains-2.false)
    (record { numbers = c.args.search.now.numbers; functions = c.insert.new.self; stack = c.push.new.self }) refl
    (λ x. c.in_ok-insert.ensures.updates.0 x ∙ ap (λ k. cond (bytes_eq k x) true (functions x)) key)
    _ c.in_ok-push.ensures.items (ap (λ ps. scoped (hides ps) c.in-Some.function.now.body) c.as_slice.ensures)

pub returns-in_err-insert : goal.returns-in_err-insert
returns-in_err-insert c = IfOk-from_err c.from_residual.result _ c.from_residual.ensures.0

pub returns-in_err-push : goal.returns-in_err-push
returns-in_err-push c = IfOk-from_err c.from_residual-in_err-push.result _ c.from_residual-in_err-push.ensures.0

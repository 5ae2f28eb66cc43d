use Rattle.std.proofs.Common.{List, [], ◌∷◌, ◌++◌, map, Some, ◌∙◌, ap}
use Rattle.std.specs.HashSet.{contains}
use Rattle.std.specs.Str.{bytes_eq}
use Rattle.just_parts.specs.Known.{hides}
use Rattle.just_parts.specs.Needs.{has_number, same_number}
use Rattle.just_name_resolution.specs.loops.Search.{scoped_of}
use Rattle.just_name_resolution.specs.declared.needs.Waiting.{Waiting}
use Rattle.just_name_resolution.proofs.Collecting.{collected, collected_all}
use Rattle.just_name_resolution.proofs.Calling.{collected_calls, collected_whole}
use Rattle.just_name_resolution.proofs.Starts.{gains_all_one, gains_one, searches_from}
use Rattle.just_name_resolution.proofs.needs.collect_references.Goals as goal
use Rattle.just_name_resolution.specs.Lent.{tables_in}
use Rattle.just_parts.specs.Scopes.{scoped}

pub returns-clause-gains : goal.returns-clause-gains
returns-clause-gains c =
    let m = tables_in c.args.tables.now in
    let old = contains same_number c.args.references.now in
    let visited = contains bytes_eq c.args.visited.now in
    let overridden = has_number c.args.overrides.now in
    let hidden = hides c.args.parameters.now in
    let e = c.args.expression.now in
    gains_one m overridden old (contains same_number c.add_numbers.new.references) hidden e
    (collected m overridden (scoped hidden e ∷ []) old visited c.in_ok-found.found
    (searches_from m overridden old visited c.in_ok-found.found (map scoped_of c.push.new.self.items) (scoped hidden e ∷ [])
    (ap (map scoped_of) (c.in_ok-push.ensures.items ∙ ap (λ (xs : List Waiting). xs ++ (record { expression = c.args.expression; parameters = Some c.args.parameters }) ∷ []) c.new-stack.ensures.items)) c.in_ok-found.ensures.found)
    c.in_ok-found.ensures.over (contains same_number c.reserve.new.self) (contains same_number c.add_numbers.new.references) c.in_ok-reserve.ensures.keys.2 c.add_numbers.ensures)

pub returns-clause-all : goal.returns-clause-all
returns-clause-all c read =
    let m = tables_in c.args.tables.now in
    let old = contains same_number c.args.references.now in
    let visited = contains bytes_eq c.args.visited.now in
    let overridden = has_number c.args.overrides.now in
    let hidden = hides c.args.parameters.now in
    let e = c.args.expression.now in
    gains_all_one m overridden old (contains same_number c.add_numbers.new.references) hidden e
    (collected_all m overridden (scoped hidden e ∷ []) old visited c.in_ok-found.found
    (searches_from m overridden old visited c.in_ok-found.found (map scoped_of c.push.new.self.items) (scoped hidden e ∷ [])
    (ap (map scoped_of) (c.in_ok-push.ensures.items ∙ ap (λ (xs : List Waiting). xs ++ (record { expression = c.args.expression; parameters = Some c.args.parameters }) ∷ []) c.new-stack.ensures.items)) c.in_ok-found.ensures.found)
    c.in_ok-found.ensures.over (contains same_number c.reserve.new.self) (contains same_number c.add_numbers.new.references) c.in_ok-reserve.ensures.keys.2 c.add_numbers.ensures read)

pub returns-clause-visited : goal.returns-clause-visited
returns-clause-visited c =
    let m = tables_in c.args.tables.now in
    let old = contains same_number c.args.references.now in
    let visited = contains bytes_eq c.args.visited.now in
    let overridden = has_number c.args.overrides.now in
    let hidden = hides c.args.parameters.now in
    let e = c.args.expression.now in
    collected_calls m overridden hidden e old visited c.in_ok-found.found
    (searches_from m overridden old visited c.in_ok-found.found (map scoped_of c.push.new.self.items) (scoped hidden e ∷ [])
    (ap (map scoped_of) (c.in_ok-push.ensures.items ∙ ap (λ (xs : List Waiting). xs ++ (record { expression = c.args.expression; parameters = Some c.args.parameters }) ∷ []) c.new-stack.ensures.items)) c.in_ok-found.ensures.found)
    c.in_ok-found.ensures.over (contains bytes_eq c.reserve-2.new.self) (contains bytes_eq c.add_functions.new.visited) c.in_ok-reserve-2.ensures.keys.2 c.add_functions.ensures

pub returns-clause-whole : goal.returns-clause-whole
returns-clause-whole c =
    let m = tables_in c.args.tables.now in
    let old = contains same_number c.args.references.now in
    let visited = contains bytes_eq c.args.visited.now in
    let overridden = has_number c.args.overrides.now in
    let hidden = hides c.args.parameters.now in
    let e = c.args.expression.now in
    collected_whole m overridden hidden e old visited c.in_ok-found.found
    (searches_from m overridden old visited c.in_ok-found.found (map scoped_of c.push.new.self.items) (scoped hidden e ∷ [])
    (ap (map scoped_of) (c.in_ok-push.ensures.items ∙ ap (λ (xs : List Waiting). xs ++ (record { expression = c.args.expression; parameters = Some c.args.parameters }) ∷ []) c.new-stack.ensures.items)) c.in_ok-found.ensures.found)
    c.in_ok-found.ensures.over (contains bytes_eq c.reserve-2.new.self) (contains bytes_eq c.add_functions.new.visited) c.in_ok-reserve-2.ensures.keys.2 c.add_functions.ensures
    (contains same_number c.reserve.new.self) (contains same_number c.add_numbers.new.references) c.in_ok-reserve.ensures.keys.2 c.add_numbers.ensures

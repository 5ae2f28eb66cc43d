use Rattle.std.proofs.Common.{rules, ◌≡◌, ◌∙◌, [], ◌∷◌, Bor, ap, map, sym}
use Rattle.std.specs.HashMap.{get}
use Rattle.std.specs.Map.{values_of}
use Rattle.std.specs.Str.{bytes_eq}
use Rattle.std.proofs.lemmas.List.{map-append}
use Rattle.std.proofs.lemmas.Map.Iter.{iter_end}
use Rattle.just_ast_definitions.specs.declared.assignment.Assignment.{Assignment}
use Rattle.just_module_variables.specs.Numbered.{name_of_assignment}
use Rattle.just_module_variables.proofs.Numbers.{last_number, numbers_found, numbers_more}
use Rattle.just_module_variables.proofs.name_numbers.variable_numbers.Goals as goal

pub loop-assignment-preserved : goal.loop-assignment-preserved
loop-assignment-preserved c = λ name.
    let now : Bor Assignment → Assignment = λ a. a.now in
    numbers_more name_of_assignment (λ (a : Assignment). a.number) (map now c.loop-assignment.yielded) c.in-Some.assignment.now (get bytes_eq c.loop-assignment.numbers) (get bytes_eq c.insert.new.self)
    c.new-name.result c.loop-assignment.invariant (c.new-name.ensures ∙ c.lexeme.ensures) c.in_ok-insert.ensures.updates.0 name
    ∙ ap (λ xs. last_number name_of_assignment (λ (a : Assignment). a.number) xs name) (sym (map-append now c.loop-assignment.yielded (c.in-Some.assignment ∷ [])))

pub returns : goal.returns
returns c = λ keyed name.
    let now : Bor Assignment → Assignment = λ a. a.now in
    let start : c.into_iter-assignment-iterator.result ≡ values_of c.args.assignments.now = first_of (search rules, cc) in
    let all = (iter_end now (values_of c.args.assignments.now) c.loop-assignment.yielded c.into_iter-assignment-iterator.result c.loop-assignment.assignment-iterator c.next.new.self c.next.result start c.loop-assignment.yielded_by c.in-None.is c.next.ensures.steps).0 in
    numbers_found name_of_assignment (λ (a : Assignment). a.number) c.args.assignments.now c.values-assignment-items.ensures.sorted keyed (get bytes_eq c.loop-assignment.numbers)
    (λ q. c.loop-assignment.invariant q ∙ ap (λ xs. last_number name_of_assignment (λ (a : Assignment). a.number) xs q) all) name

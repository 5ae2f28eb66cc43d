use Rattle.std.proofs.Common.{rules, ◌≡◌, ◌∙◌, [], Bor, IfOk, ap, map, subst}
use Rattle.std.specs.HashMap.{get}
use Rattle.std.specs.Map.{lookup, values_of}
use Rattle.std.specs.Option.{option_or}
use Rattle.std.specs.Str.{bytes_eq}
use Rattle.std.proofs.lemmas.Map.Iter.{iter_end}
use Rattle.just_ast_definitions.specs.declared.assignment.Assignment.{Assignment}
use Rattle.just_table.specs.Entries.{put_all}
use Rattle.just_module_variables.specs.Numbered.{assignment_by, name_of_assignment, with_value_numbers}
use Rattle.just_module_variables.specs.loops.Numbering.{number_here}
use Rattle.just_module_variables.proofs.Steps.{values_more}
use Rattle.just_module_variables.proofs.resolution.Numbering.numbered_assignments.Goals as goal

pub loop-assignment-preserved : goal.loop-assignment-preserved
loop-assignment-preserved g c =
    let answers = g.S.Syntax.answers c.args.self.now.known.syntax.now in
    values_more (assignment_by (number_here answers c.args.self.now)) c.loop-assignment.made.items c.push.new.self.items c.loop-assignment.yielded c.in-Some.assignment
    c.in_ok-numbered_assignment.field-0 c.loop-assignment.invariant c.in_ok-push.ensures.items
    (c.in_ok-numbered_assignment.ensures ∙ (λ i. with_value_numbers (λ name.
    option_or (lookup (bytes_eq name) (c.new-parameters.ensures.empty i)) (option_or (get bytes_eq c.args.self.now.bindings name) (answers.constant name))) c.in-Some.assignment.now))

pub returns-clause-made : goal.returns-clause-made
returns-clause-made g c =
    let now : Bor Assignment → Assignment = λ a. a.now in
    let start : c.into_iter-assignment-iterator.result ≡ values_of c.args.self.now.known.assignments.now = first_of (search rules, cc) in
    let all = (iter_end now (values_of c.args.self.now.known.assignments.now) c.loop-assignment.yielded c.into_iter-assignment-iterator.result c.loop-assignment.assignment-iterator c.next.new.self c.next.result start c.loop-assignment.yielded_by c.in-None.is c.next.ensures.steps).0 in
    subst (λ xs. IfOk c.from_values.result (λ made. made ≡ put_all name_of_assignment [] xs))
    (c.loop-assignment.invariant ∙ ap (map (assignment_by (number_here (g.S.Syntax.answers c.args.self.now.known.syntax.now) c.args.self.now))) all) c.from_values.ensures.all

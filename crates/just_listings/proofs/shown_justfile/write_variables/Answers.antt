use Rattle.std.proofs.Common.{rules, ◌≡◌, ◌∙◌, [], ◌∷◌, ◌++◌, Bor, List, Some, ap, map, refl, subst}
use Rattle.std.specs.Map.{values_of}
use Rattle.std.proofs.lemmas.Map.Iter.{iter_end}
use Rattle.just_ast_definitions.specs.DefinitionTexts.{assignment_text}
use Rattle.just_ast_definitions.specs.declared.assignment.Assignment.{Assignment}
use Rattle.just_names.specs.Texts.{Text}
use Rattle.just_recipe.proofs.Writing.{Put}
use Rattle.just_listings.specs.Shown.{shown_after, stands_after}
use Rattle.just_listings.proofs.Gaps.{AreWritten, one_mapped, one_written}
use Rattle.just_listings.proofs.shown_justfile.write_variables.Goals as goal

pub loop-assignment-preserved : goal.loop-assignment-preserved
loop-assignment-preserved g c =
    let took = g.W.Write.write_str_gives in
    let now : Bor Assignment → Assignment = λ a. a.now in
    let text : Assignment → Text = λ a. assignment_text a in
    one_written took c.args.f.now c.args.begun.now (map text (map now c.loop-assignment.yielded)) (map text (map now (c.loop-assignment.yielded ++ c.in-Some.assignment ∷ []))) (text c.in-Some.assignment.now)
    c.loop-assignment.f c.write_next.new.f c.loop-assignment.begun c.write_next.new.begun (one_mapped text now c.loop-assignment.yielded c.in-Some.assignment) c.loop-assignment.invariant
    (λ plain. c.in_ok-write_next.ensures.text plain refl) c.in_ok-write_next.ensures.begun

pub returns-clause-text : goal.returns-clause-text
returns-clause-text g c = λ plain ok.
    let took = g.W.Write.write_str_gives in
    let text : Assignment → Text = λ a. assignment_text a in
    let now : Bor Assignment → Assignment = λ x. x.now in
    let start : c.into_iter-assignment-iterator.result ≡ values_of c.args.assignments.now = first_of (search rules, cc) in
    let all = (iter_end now (values_of c.args.assignments.now) c.loop-assignment.yielded c.into_iter-assignment-iterator.result c.loop-assignment.assignment-iterator c.next.new.self c.next.result start c.loop-assignment.yielded_by c.in-None.is c.next.ensures.steps).0 in
    (subst (λ (values : List Assignment). AreWritten took c.args.f.now c.args.begun.now (map text values) c.loop-assignment.f c.loop-assignment.begun) all c.loop-assignment.invariant).0 plain

pub returns-clause-begun : goal.returns-clause-begun
returns-clause-begun g c =
    let text : Assignment → Text = λ a. assignment_text a in
    let now : Bor Assignment → Assignment = λ x. x.now in
    let start : c.into_iter-assignment-iterator.result ≡ values_of c.args.assignments.now = first_of (search rules, cc) in
    let all = (iter_end now (values_of c.args.assignments.now) c.loop-assignment.yielded c.into_iter-assignment-iterator.result c.loop-assignment.assignment-iterator c.next.new.self c.next.result start c.loop-assignment.yielded_by c.in-None.is c.next.ensures.steps).0 in
    c.loop-assignment.invariant.1 ∙ ap (λ (values : List Assignment). stands_after c.args.begun.now (map text values)) all

use Rattle.std.proofs.Common.{◌≡◌, sym, ◌∙◌, subst, arith, refl, [], None}
use Rattle.just_ast_references.specs.References.{shape_mention}
use Rattle.just_ast_references.proofs.MentionsOf.{mentions}
use Rattle.just_bench_values.specs.loops.Tasks.{Goes, call_in, variable_in, with_task}
use Rattle.just_bench_values.specs.Values.{shape_evaluated}
use Rattle.just_bench_values.specs.declared.tasks.Task.TheVariants as task
use Rattle.just_bench_values.proofs.Going as going
use Rattle.just_bench_values.proofs.Shapes.{valueless}
use Rattle.just_bench_values.proofs.tasks.evaluate.Goals as goal

pub returns-in_ok-send-in-StringLiteral : goal.returns-in_ok-send-in-StringLiteral
returns-in_ok-send-in-StringLiteral c =
    let s = c.args.state.now in
    going.goes_to c.args.among.now (with_task (task.Value c.args.expression) s) _ _ _ _ _ _ refl refl c.in_ok-send-in-StringLiteral.ensures
    (going.goes_text c.args.among.now s.tasks s.frame c.args.expression s.sink c.in-StringLiteral.cooked (sym c.get.ensures ∙ c.in-StringLiteral.is))

pub returns-in-Variable : goal.returns-in-Variable
returns-in-Variable c =
    let s = c.args.state.now in
    going.variable_advances c.args.among.now s.tasks s.frame c.args.expression s.sink c.in-Variable.name _ c.variable.new.sink c.variable.result
    (sym c.get.ensures ∙ c.in-Variable.is) c.variable.ensures

pub returns-in_ok-push-in-Group : goal.returns-in_ok-push-in-Group
returns-in_ok-push-in-Group c =
    let s = c.args.state.now in
    going.goes_to c.args.among.now (with_task (task.Value c.args.expression) s) _ _ _ _ _ _ c.in_ok-push-in-Group.ensures refl refl
    (going.goes_group c.args.among.now s.tasks s.frame c.args.expression s.sink _ (sym c.get.ensures ∙ c.in-Group.is))

pub returns-in_ok-push-in-List : goal.returns-in_ok-push-in-List
returns-in_ok-push-in-List c =
    let s = c.args.state.now in
    going.goes_to c.args.among.now (with_task (task.Value c.args.expression) s) _ _ _ _ _ _ c.in_ok-push-in-List.ensures refl refl
    (going.goes_list c.args.among.now s.tasks s.frame c.args.expression s.sink c.as_slice-rest.result c.in-List.elements (sym c.get.ensures ∙ c.in-List.is) c.as_slice-rest.ensures)

pub returns-in_ok-add-in-Concatenation : goal.returns-in_ok-add-in-Concatenation
returns-in_ok-add-in-Concatenation c =
    let s = c.args.state.now in
    subst (Goes c.args.among.now (with_task (task.Value c.args.expression) s)) (sym c.in_ok-add-in-Concatenation.ensures)
    (going.goes_sum c.args.among.now s.tasks s.frame c.args.expression s.sink _ _ (sym c.get.ensures ∙ c.in-Concatenation.is))

pub returns-in_ok-push-in-Call : goal.returns-in_ok-push-in-Call
returns-in_ok-push-in-Call c =
    let s = c.args.state.now in
    going.goes_to c.args.among.now (with_task (task.Value c.args.expression) s) _ _ _ _ _ _ c.in_ok-push-in-Call.ensures refl refl
    (going.goes_call c.args.among.now s.tasks s.frame c.args.expression s.sink _ c.as_slice.result c.in-Call.arguments c.new.result
    (sym c.get.ensures ∙ c.in-Call.is) c.as_slice.ensures c.new.ensures)

pub returns-in-And : goal.returns-in-And
returns-in-And c =
    let s = c.args.state.now in
    let a = c.args.among.now in
    let nameless : shape_mention c.get.result.now ≡ [] = grind (arith, mentions) in
    let none : shape_evaluated (variable_in a s.frame) (call_in a s.frame) c.get.result.now ≡ None = grind (arith, valueless) in
    going.nothing_told a s.tasks s.frame c.args.expression s.sink c.get.result.now c.fault_nowhere.result (sym c.get.ensures) none nameless c.fault_nowhere.ensures.none c.fault_nowhere.ensures.place

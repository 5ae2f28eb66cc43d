use Rattle.std.proofs.Common.{◌≡◌, ap, arith, rules, refl, Some}
use Rattle.just_names.specs.Name.{text_of_name}
use Rattle.just_table.specs.Entries.{find}
use Rattle.just_bench_values.specs.Lookup.{functions_in}
use Rattle.just_bench_values.specs.loops.Tasks.{with_call}
use Rattle.just_bench_values.specs.Values.{bound}
use Rattle.just_bench_values.specs.declared.tasks.Task.TheVariants as task
use Rattle.just_bench_values.proofs.Continuing.{goes_in}
use Rattle.just_bench_values.proofs.Going.{goes_to, pushed_two}
use Rattle.just_bench_values.proofs.tasks.enter.Goals as goal

pub returns : goal.returns
returns c = λ rest none.
    let a = c.args.among.now in
    let s = c.args.state.now in
    let f = c.in-Some.function.now in
    let found : find (text_of_name c.args.name.now) (functions_in a.functions) ≡ Some f = search rules in
    goes_to a (with_call c.args.name rest c.args.arguments s) _ _ _ _ _ _
    (pushed_two c.in_ok-push-2.ensures c.in_ok-push.ensures (ap task.Leave c.replace-outside.ensures.value)) c.replace-outside.ensures.after refl
    (goes_in a s.tasks s.frame s.sink c.args.name rest none c.args.arguments _ _ f found (omega arith) (omega arith) refl
    (ap (λ ps. bound ps c.args.arguments) c.as_slice.ensures) refl)

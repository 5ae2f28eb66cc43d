use Rattle.std.proofs.Common.{◌≡◌, length, arith, rules}
use Rattle.std.proofs.lemmas.Grind.{common_steps}
use Rattle.std.proofs.lemmas.Option.{slice_get_within}
use Rattle.std.proofs.lemmas.Result.{IfErr-weaker}
use Rattle.just_graph.proofs.Index.{map_get}
use Rattle.just_errors.specs.Causes.{Reports}
use Rattle.just_errors.proofs.Lifts.{reports_by}
use Rattle.just_module_contents.specs.Contents.{signature}
use Rattle.just_module_contents.specs.Definitions.{functions_in}
use Rattle.just_module_contents.specs.Rules.{BreaksFunctions, RepeatsParameter, of_function}
use Rattle.just_module_contents.proofs.Signatures.{functions_kept}
use Rattle.just_module_contents.proofs.RecipePlaces.{length-lent}
use Rattle.just_module_headers.proofs.functions.check_functions.Goals as goal

pub returns-in_err-check_function-clause-named : goal.returns-in_err-check_function-clause-named
returns-in_err-check_function-clause-named c =
    let at = map_get signature (functions_in c.args.definitions.now) c.loop-place.place c.function_at.result.now c.function_at.ensures in
    IfErr-weaker c.from_residual-in_err-check_function.result (Reports (RepeatsParameter (signature c.function_at.result.now))) _
    (λ e h. reports_by (RepeatsParameter _) (BreaksFunctions _) (λ x k. of_function c.loop-place.place at k) e h) (search rules)

pub returns-clause-kept : goal.returns-clause-kept
returns-clause-kept c =
    let fs = functions_in c.args.definitions.now in
    let long : length fs ≡ length c.args.definitions.now.functions.items = length-lent c.args.definitions.now.functions.items in
    let count : c.len-place-end.result ≡ length c.args.definitions.now.functions.items = grind (arith, common_steps) in
    functions_kept fs c.in_ok-check_different.ensures.kept (λ k f at. c.loop-place.invariant k f (omega (arith, long, count, slice_get_within fs k f at)) at)

use Rattle.std.proofs.Common.{◌≡◌, length, arith, rules}
use Rattle.std.proofs.lemmas.Grind.{common_steps}
use Rattle.std.proofs.lemmas.Result.{IfErr-weaker}
use Rattle.just_errors.specs.Causes.{Reports}
use Rattle.just_errors.proofs.Lifts.{reports_by}
use Rattle.just_module_contents.specs.Definitions.{sets_in}
use Rattle.just_module_contents.specs.Rules.{SetTwice, BreaksSettings, set_twice}
use Rattle.just_module_headers.proofs.Excluded.{sets_kept}
use Rattle.just_module_contents.proofs.RecipePlaces.{length-lent}
use Rattle.just_module_headers.proofs.settings.check_sets.Goals as goal

pub returns-in_err-index-clause-named : goal.returns-in_err-index-clause-named
returns-in_err-index-clause-named g c =
    IfErr-weaker c.from_residual.result (Reports (SetTwice (sets_in c.args.definitions.now))) _ (λ e h. reports_by (SetTwice _) (BreaksSettings _ _) (λ x k. set_twice k) e h) (search rules)

pub returns-clause-kept : goal.returns-clause-kept
returns-clause-kept g c =
    let sets = sets_in c.args.definitions.now in
    let long : length sets ≡ length c.args.definitions.now.sets.items = length-lent c.args.definitions.now.sets.items in
    let count : c.len-place-end.result ≡ length c.args.definitions.now.sets.items = grind (arith, common_steps) in
    sets_kept (g.S.Syntax.answers c.args.syntax.now).conflicts sets c.in_ok-index.ensures.different (λ j l i h. c.loop-place.invariant j (omega (arith, long, count, l)) i h)

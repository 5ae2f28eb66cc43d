use Rattle.std.proofs.Common.{rules}
use Rattle.std.proofs.lemmas.Result.{IfErr-weaker, on_ok_weaker}
use Rattle.just_errors.specs.Causes.{Reports}
use Rattle.just_errors.proofs.Lifts.{reports_by}
use Rattle.just_module_contents.specs.Definitions.{contents_in, recipes_in, sets_in}
use Rattle.just_module_contents.specs.Rules.{BreaksHeaders, BreaksParameters, BreaksSettings, BreaksUnexports, of_parameters, of_sets, of_unexports}
use Rattle.just_module_contents.proofs.Defining.{headers_kept}
use Rattle.just_module_headers.proofs.headers.check_headers.Goals as goal

pub returns-in_err-check_parameters-clause-named : goal.returns-in_err-check_parameters-clause-named
returns-in_err-check_parameters-clause-named g c =
    IfErr-weaker c.from_residual.result (Reports (BreaksParameters (recipes_in c.args.definitions.now))) _
    (λ e h. reports_by (BreaksParameters _) (BreaksHeaders _ _) (λ x k. of_parameters k) e h) (search rules)

pub returns-in_err-check_sets-clause-named : goal.returns-in_err-check_sets-clause-named
returns-in_err-check_sets-clause-named g c =
    IfErr-weaker c.from_residual-in_err-check_sets.result (Reports (BreaksSettings (g.S.Syntax.answers c.args.syntax.now).conflicts (sets_in c.args.definitions.now))) _
    (λ e h. reports_by (BreaksSettings _ _) (BreaksHeaders _ _) (λ x k. of_sets k) e h) (search rules)

pub returns-clause-kept : goal.returns-clause-kept
returns-clause-kept g c =
    on_ok_weaker c.check_unexports.result (λ different. headers_kept (g.S.Syntax.answers c.args.syntax.now).conflicts (contents_in c.args.definitions.now) c.in_ok-check_parameters.ensures.kept c.in_ok-check_sets.ensures.kept different c.requires)
    c.check_unexports.ensures.kept

pub returns-clause-named : goal.returns-clause-named
returns-clause-named g c =
    IfErr-weaker c.check_unexports.result (Reports (BreaksUnexports c.args.definitions.now.unexports.items)) _
    (λ e h. reports_by (BreaksUnexports _) (BreaksHeaders _ _) (λ x k. of_unexports k) e h) c.check_unexports.ensures.named

use Rattle.std.proofs.Common.{rules}
use Rattle.std.proofs.lemmas.Result.{IfErr-weaker, on_ok_weaker}
use Rattle.just_errors.specs.Causes.{Reports}
use Rattle.just_errors.proofs.Lifts.{reports_by}
use Rattle.just_module_contents.specs.Contents.{signatures, variable_names}
use Rattle.just_module_contents.specs.Definitions.{contents_in, functions_in, sets_in, variables_in}
use Rattle.just_module_contents.specs.Rules.{BreaksFunctions, BreaksDefinitions, BreaksVariables, of_functions, of_variables}
use Rattle.just_module_contents.specs.Settings.{allows_variables}
use Rattle.just_module_contents.proofs.Defining.{names_kept}
use Rattle.just_module_headers.proofs.variables.check_names.Goals as goal

pub returns-in_err-check_variables-clause-named : goal.returns-in_err-check_variables-clause-named
returns-in_err-check_variables-clause-named c =
    IfErr-weaker c.from_residual.result (Reports (BreaksVariables (allows_variables (sets_in c.args.definitions.now)) (variable_names (variables_in c.args.definitions.now)) c.args.definitions.now.unexports.items)) _
    (λ e h. reports_by (BreaksVariables _ _ _) (BreaksDefinitions _) (λ x k. of_variables k) e h) (search rules)

pub returns-clause-kept : goal.returns-clause-kept
returns-clause-kept c = on_ok_weaker c.check_functions.result (λ functions. names_kept (contents_in c.args.definitions.now) c.in_ok-check_variables.ensures.kept functions) c.check_functions.ensures.kept

pub returns-clause-named : goal.returns-clause-named
returns-clause-named c =
    IfErr-weaker c.check_functions.result (Reports (BreaksFunctions (signatures (functions_in c.args.definitions.now)))) _
    (λ e h. reports_by (BreaksFunctions _) (BreaksDefinitions _) (λ x k. of_functions k) e h) c.check_functions.ensures.named

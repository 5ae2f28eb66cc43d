use Rattle.std.proofs.Common.{rules, subst, sym}
use Rattle.std.proofs.lemmas.Result.{IfErr-weaker}
use Rattle.just_module_variables.specs.Constants.{evaluated_in}
use Rattle.just_errors.specs.Causes.{Keeps, Reports}
use Rattle.just_errors.proofs.Lifts.{reports_by}
use Rattle.just_graph.specs.Steps.{IsOnce}
use Rattle.just_names.specs.Index.{AreDifferent}
use Rattle.just_module_headers.specs.Analyzable.{assignment_numbers}
use Rattle.just_module_contents.specs.Constants.{BreaksDocs}
use Rattle.just_module_contents.specs.Contents.{Contents, texts_of_named}
use Rattle.just_module_contents.specs.Definitions.{contents_in}
use Rattle.just_module_headers.specs.Files.{asts_in}
use Rattle.just_module_contents.specs.Groups.{BreaksContents, KeepsBefore, OfBodies}
use Rattle.just_module_contents.specs.Named.{said_from}
use Rattle.just_module_checks.specs.Checked.{HasConstants, no_links}
use Rattle.just_compiled.specs.Evaluated.{AreLabels}
use Rattle.just_module_checks.proofs.GroupGrounds.{docs_broken}
use Rattle.just_module_checks.proofs.checks.check_files.Goals as goal
use Rattle.just_module_contents.specs.Labels.{label_by}
use Rattle.just_parts.specs.Evaluator.{scope_values}
use Rattle.just_parts.specs.Layers.{given_by, layers_at}

pub check_module-requires-clause-named : goal.check_module-requires-clause-named
check_module-requires-clause-named g c = subst (λ (m : Contents). AreDifferent (texts_of_named m.named)) (sym c.in_ok-definitions.ensures) c.requires.names

pub check_module-requires-clause-numbers : goal.check_module-requires-clause-numbers
check_module-requires-clause-numbers g c = subst (λ (m : Contents). IsOnce (assignment_numbers m.variables)) (sym c.in_ok-definitions.ensures) c.requires.numbers

pub returns-in_err-checked-clause-named : goal.returns-in_err-checked-clause-named
returns-in_err-checked-clause-named g c =
    let layers = layers_at (given_by g.S.Syntax.answers g.E.ConstantEvaluation.answers c.args.given.now) c.args.path.now in
    IfErr-weaker c.from_residual-in_err-checked.result (Reports (BreaksContents layers no_links no_links (contents_in c.in_ok-definitions.definitions))) _
    (λ e h. subst (λ m. Reports (BreaksContents layers no_links no_links m) e) c.in_ok-definitions.ensures h) (search rules)

pub returns-in_err-labels-clause-named : goal.returns-in_err-labels-clause-named
returns-in_err-labels-clause-named g c =
    let layers = layers_at (given_by g.S.Syntax.answers g.E.ConstantEvaluation.answers c.args.given.now) c.args.path.now in
    let m = contents_in c.in_ok-definitions.definitions in
    let constants = c.in_ok-checked.checked.1 in
    let docs = BreaksDocs layers.syntax layers.evaluator m (scope_values constants.scope) in
    let named : Reports docs c.in_err-labels.field-0.0 = c.in_err-labels.ensures.named in
    IfErr-weaker c.from_residual-in_err-labels.result (Reports docs) _
    (λ e h. subst (λ n. Reports (BreaksContents layers no_links no_links n) e) c.in_ok-definitions.ensures
    (reports_by docs (BreaksContents layers no_links no_links m) (docs_broken layers no_links m (evaluated_in constants) c.in_ok-checked.ensures.constants.evaluated c.in_ok-checked.ensures.kept) e h)) (search (rules, named, c.from_residual-in_err-labels.ensures.1, c.from_residual-in_err-labels.ensures.0))

pub returns-clause-kept : goal.returns-clause-kept
returns-clause-kept g c =
    let layers = layers_at (given_by g.S.Syntax.answers g.E.ConstantEvaluation.answers c.args.given.now) c.args.path.now in
    subst (KeepsBefore layers no_links OfBodies) c.in_ok-definitions.ensures c.in_ok-checked.ensures.kept

pub returns-clause-checked : goal.returns-clause-checked
returns-clause-checked g c =
    let layers = layers_at (given_by g.S.Syntax.answers g.E.ConstantEvaluation.answers c.args.given.now) c.args.path.now in
    let variables = c.in_ok-checked.checked.0 in
    let constants = c.in_ok-checked.checked.1 in
    let said = said_from label_by layers.syntax.enabled (asts_in c.args.files.now) c.args.places.now in
    record {
      contents = c.in_ok-definitions.ensures;
      constants = subst (λ m. HasConstants layers m variables constants) c.in_ok-definitions.ensures c.in_ok-checked.ensures.constants;
      docs = subst (λ m. Keeps (BreaksDocs layers.syntax layers.evaluator m (scope_values constants.scope))) c.in_ok-definitions.ensures c.in_ok-labels.ensures.kept;
      labels = subst (λ m. AreLabels layers m (scope_values constants.scope) said c.in_ok-labels.labels.items) c.in_ok-definitions.ensures c.in_ok-labels.ensures.labels;
    }

use Rattle.std.proofs.Common.{rules, arith}
use Rattle.std.proofs.lemmas.Result.{IfErr-weaker}
use Rattle.just_errors.specs.Causes.{Reports}
use Rattle.just_errors.proofs.Lifts.{reports_by}
use Rattle.just_parts.specs.Layers.{given_by, layers_at}
use Rattle.just_module_contents.specs.Constants.{BreaksConstants}
use Rattle.just_module_contents.specs.Definitions.{contents_in}
use Rattle.just_module_contents.specs.Groups.{BreaksContents, OfConstants, OfExpressions, OfHeaders, OfNames}
use Rattle.just_module_contents.specs.Known.{known_of}
use Rattle.just_module_contents.specs.Rules.{BreaksHeaders, BreaksDefinitions}
use Rattle.just_parts.specs.Misnaming.{Expressions}
use Rattle.just_module_checks.specs.Checked.{no_links}
use Rattle.just_module_checks.proofs.GroupGrounds.{before_bodies, before_constants, before_expressions, before_names}
use Rattle.just_compiled.proofs.NumbersApart.{numbers_apart}
use Rattle.just_module_checks.proofs.checks.check_module.Goals as goal

pub evaluate_constants-requires-clause-apart : goal.evaluate_constants-requires-clause-apart
evaluate_constants-requires-clause-apart g c = numbers_apart (g.S.Syntax.answers c.args.given.now.syntax.now) (contents_in c.args.definitions.now) c.requires.numbers

pub returns-in_err-check_headers-clause-named : goal.returns-in_err-check_headers-clause-named
returns-in_err-check_headers-clause-named g c =
    IfErr-weaker c.from_residual.result (Reports (BreaksHeaders (g.S.Syntax.answers c.args.given.now.syntax.now).conflicts (contents_in c.args.definitions.now))) _
    (λ e h. reports_by (BreaksHeaders _ _) (BreaksContents _ no_links no_links _) (λ x k. record { group = OfHeaders; earlier = λ f lt. absurd (omega (arith, lt)); broken = k }) e h) (search rules)

pub returns-in_err-check_names-clause-named : goal.returns-in_err-check_names-clause-named
returns-in_err-check_names-clause-named g c =
    let layers = layers_at (given_by g.S.Syntax.answers g.E.ConstantEvaluation.answers c.args.given.now) c.args.path.now in
    let m = contents_in c.args.definitions.now in
    IfErr-weaker c.from_residual-in_err-check_names.result (Reports (BreaksDefinitions m)) _
    (λ e h. reports_by (BreaksDefinitions m) (BreaksContents layers no_links no_links m) (λ x k. record { group = OfNames; earlier = before_names layers no_links m c.in_ok-check_headers.ensures.kept; broken = k }) e h) (search rules)

pub returns-in_err-variables-clause-named : goal.returns-in_err-variables-clause-named
returns-in_err-variables-clause-named g c =
    let layers = layers_at (given_by g.S.Syntax.answers g.E.ConstantEvaluation.answers c.args.given.now) c.args.path.now in
    let m = contents_in c.args.definitions.now in
    IfErr-weaker c.from_residual-in_err-variables.result (Reports (Expressions (known_of layers.syntax m))) _
    (λ e h. reports_by (Expressions _) (BreaksContents layers no_links no_links m)
    (λ x k. record { group = OfExpressions; earlier = before_expressions layers no_links m c.in_ok-check_headers.ensures.kept c.in_ok-check_names.ensures.kept; broken = k }) e h) (search rules)

pub returns-in_err-constants-clause-named : goal.returns-in_err-constants-clause-named
returns-in_err-constants-clause-named g c =
    let layers = layers_at (given_by g.S.Syntax.answers g.E.ConstantEvaluation.answers c.args.given.now) c.args.path.now in
    let m = contents_in c.args.definitions.now in
    IfErr-weaker c.from_residual-in_err-constants.result (Reports (BreaksConstants layers m)) _
    (λ e h. reports_by (BreaksConstants layers m) (BreaksContents layers no_links no_links m)
    (λ x k. record { group = OfConstants; earlier = before_constants layers no_links m c.in_ok-check_headers.ensures.kept c.in_ok-check_names.ensures.kept c.in_ok-variables.ensures.kept; broken = k }) e h) (search rules)

pub returns-clause-kept : goal.returns-clause-kept
returns-clause-kept g c =
    let layers = layers_at (given_by g.S.Syntax.answers g.E.ConstantEvaluation.answers c.args.given.now) c.args.path.now in
    before_bodies layers no_links (contents_in c.args.definitions.now) c.in_ok-check_headers.ensures.kept c.in_ok-check_names.ensures.kept c.in_ok-variables.ensures.kept c.in_ok-constants.ensures.kept

pub returns-clause-constants : goal.returns-clause-constants
returns-clause-constants g c =
    let e = c.in_ok-constants.ensures in
    record { resolved = c.in_ok-variables.ensures.variables; numbers = c.in_ok-variables.ensures.numbers; evaluated = e.evaluated; covered = e.covered; overridden = e.overridden; overrides = e.overrides }

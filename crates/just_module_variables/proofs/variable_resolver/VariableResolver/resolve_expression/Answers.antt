use Rattle.std.proofs.Common.{◌≡◌, ◌∙◌, Bool, ap, rules, subst, sym}
use Rattle.std.proofs.lemmas.Bool.{false≢true}
use Rattle.std.proofs.lemmas.Result.{IfErr-weaker}
use Rattle.std.specs.HashSet.{contains}
use Rattle.std.specs.List.{list_any}
use Rattle.std.specs.Str.{bytes_eq}
use Rattle.just_errors.specs.Causes.{Keeps, Reports}
use Rattle.just_names.specs.Texts.{Text}
use Rattle.just_module_variables.specs.Resolver.{known_by}
use Rattle.just_parts.specs.Known.{hides}
use Rattle.just_parts.specs.Misnaming.{Misnames}
use Rattle.just_module_variables.proofs.variable_resolver.VariableResolver.resolve_expression.Goals as goal

pub returns-in_err-check_expression-clause-named : goal.returns-in_err-check_expression-clause-named
returns-in_err-check_expression-clause-named g c =
    let m = known_by (g.S.Syntax.answers c.args.self.now.known.syntax.now) c.args.self.now in
    let same : contains bytes_eq c.in_ok-hidden.hidden ≡ hides c.args.parameters.now = λ i name. c.in_ok-hidden.ensures name i in
    IfErr-weaker c.from_residual-in_err-check_expression.result (Reports (Misnames m (contains bytes_eq c.in_ok-hidden.hidden) c.args.expression.now)) _
    (λ e h. subst (λ (f : Text → Bool). Reports (Misnames m f c.args.expression.now) e) same h) (search rules)

pub returns-clause-kept : goal.returns-clause-kept
returns-clause-kept g c =
    let m = known_by (g.S.Syntax.answers c.args.self.now.known.syntax.now) c.args.self.now in
    let same : contains bytes_eq c.in_ok-hidden.hidden ≡ hides c.args.parameters.now = λ i name. c.in_ok-hidden.ensures name i in
    subst (λ (f : Text → Bool). Keeps (Misnames m f c.args.expression.now)) same c.in_ok-check_expression.ensures.kept

pub returns-clause-all : goal.returns-clause-all
returns-clause-all g c =
    c.in_ok-collect_references.ensures.all
    (λ function name f a called was. absurd (false≢true (sym (ap (list_any (bytes_eq function)) c.new-visited.ensures.empty) ∙ was)))

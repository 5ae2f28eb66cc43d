use Rattle.std.proofs.Common.{◌≡◌, ◌∙◌, ap, subst, Bool, IfErr, OnOk}
use Rattle.std.specs.HashSet.{contains}
use Rattle.std.specs.Str.{bytes_eq}
use Rattle.just_errors.specs.Causes.{Keeps, Reports}
use Rattle.just_names.specs.Texts.{Text}
use Rattle.just_parts.specs.Known.{hides}
use Rattle.just_name_resolution.specs.Lent.{known_in}
use Rattle.just_parts.specs.Misnaming.{Misnames}
use Rattle.just_name_resolution.proofs.name_checks.check_body.Goals as goal

pub returns-clause-kept : goal.returns-clause-kept
returns-clause-kept g c =
    let same : contains bytes_eq c.in_ok-hidden.hidden ≡ hides c.args.function.now.parameters = (λ i name. c.in_ok-hidden.ensures name i) ∙ ap hides c.as_slice.ensures in
    subst (λ (h : Text → Bool). OnOk c.check_expression.result (Keeps (Misnames (known_in (g.S.Syntax.answers c.args.known.now.syntax.now) c.args.known.now) h c.args.function.now.body))) same c.check_expression.ensures.kept

pub returns-clause-named : goal.returns-clause-named
returns-clause-named g c =
    let same : contains bytes_eq c.in_ok-hidden.hidden ≡ hides c.args.function.now.parameters = (λ i name. c.in_ok-hidden.ensures name i) ∙ ap hides c.as_slice.ensures in
    subst (λ (h : Text → Bool). IfErr c.check_expression.result (Reports (Misnames (known_in (g.S.Syntax.answers c.args.known.now.syntax.now) c.args.known.now) h c.args.function.now.body))) same c.check_expression.ensures.named

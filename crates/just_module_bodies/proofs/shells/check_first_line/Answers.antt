use Rattle.std.proofs.Common.{◌≡◌, ◌∙◌, ap, sym}
use Rattle.just_parts.specs.Groups.{is_indented}
use Rattle.just_ast_expressions.specs.declared.sigil.Sigil.TheVariants as sigil
use Rattle.just_module_contents.specs.Shells.{extra_whitespace, guard_and_infallible}
use Rattle.just_module_bodies.proofs.Grouping.{stands, stands_there}
use Rattle.just_module_bodies.proofs.shells.check_first_line.Goals.{else-contains-via-then-contains+else-contains-2, else-contains-via-else-contains}
use Rattle.just_module_bodies.proofs.shells.check_first_line.Goals as goal

pub returns-then-contains-2-clause-named : goal.returns-then-contains-2-clause-named
returns-then-contains-2-clause-named g c =
    let all = (g.S.Syntax.answers c.args.syntax.now).sigils c.args.line.now c.args.settings.now in
    let same : c.as_slice-sigils.result.now ≡ all = c.as_slice-sigils.ensures ∙ c.in_ok-sigils.ensures.are in
    guard_and_infallible (sym c.front.ensures ∙ c.in-Some.is)
    (stands_there all sigil.Guard (ap (λ xs. stands xs sigil.Guard) (sym same) ∙ sym c.contains.ensures.value ∙ c.if-contains.true))
    (stands_there all sigil.Infallible (ap (λ xs. stands xs sigil.Infallible) (sym same) ∙ sym c.contains-then-contains.ensures.value ∙ c.if-contains-2.true))

pub returns-then-is_indented-clause-named : goal.returns-then-is_indented-clause-named
returns-then-is_indented-clause-named g c = extra_whitespace (sym c.front.ensures ∙ c.in-Some.is) (ap is_indented (sym c.lexeme.ensures) ∙ sym c.is_indented.ensures ∙ c.if-is_indented.true)

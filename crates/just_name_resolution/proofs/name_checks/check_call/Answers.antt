use Rattle.std.proofs.Common.{◌∙◌, sym, None, Some}
use Rattle.just_names.specs.Name.{text_of_name}
use Rattle.just_parts.specs.Known.{none_hidden}
use Rattle.just_name_resolution.specs.Lent.{known_in}
use Rattle.just_name_resolution.proofs.Checked.{range_asked, no_function_told, count_told}
use Rattle.just_name_resolution.proofs.name_checks.check_call.Goals as goal

pub returns-in_default-clause-named : goal.returns-in_default-clause-named
returns-in_default-clause-named g c =
    let m = known_in (g.S.Syntax.answers c.args.known.now.syntax.now) c.args.known.now in
    no_function_told m none_hidden c.args.name.now c.copied.result c.new.result c.copied.ensures (c.new.ensures ∙ c.lexeme-in_default.ensures) c.args.arguments
    (range_asked m (text_of_name c.args.name.now) c.lexeme.result.now c.expected.result None c.expected.ensures c.lexeme.ensures c.in_default.is)

pub returns-clause-named : goal.returns-clause-named
returns-clause-named g c =
    let m = known_in (g.S.Syntax.answers c.args.known.now.syntax.now) c.args.known.now in
    count_told m none_hidden c.args.name.now c.copied-2.result c.new-2.result c.copied-2.ensures (c.new-2.ensures ∙ c.lexeme-2.ensures) c.args.arguments c.in-Some.expected
    (range_asked m (text_of_name c.args.name.now) c.lexeme.result.now c.expected.result (Some c.in-Some.expected) c.expected.ensures c.lexeme.ensures c.in-Some.is) (sym c.contains.ensures ∙ c.if-contains.false)

use Rattle.std.proofs.Common.{◌∙◌, sym}
use Rattle.std.specs.HashSet.{contains}
use Rattle.std.specs.Str.{bytes_eq}
use Rattle.just_name_resolution.specs.Lent.{known_in}
use Rattle.just_name_resolution.proofs.Checked.{variable_told}
use Rattle.just_name_resolution.proofs.name_checks.check_variable.Goals as goal

pub returns-clause-named : goal.returns-clause-named
returns-clause-named g c =
    variable_told (known_in (g.S.Syntax.answers c.args.known.now.syntax.now) c.args.known.now) (contains bytes_eq c.args.hidden.now) c.args.name.now c.copied.result c.new.result
    c.copied.ensures (c.new.ensures ∙ c.lexeme.ensures) (sym c.is_defined.ensures ∙ c.if-is_defined.false)

use Rattle.std.proofs.Common.{◌≡◌, ◌∙◌, ap, true, false}
use Rattle.std.specs.Prelude.{◌||◌, is_some}
use Rattle.std.specs.HashSet.{contains}
use Rattle.std.specs.Str.{bytes_eq}
use Rattle.just_names.specs.Name.{text_of_name}
use Rattle.just_table.specs.Entries.{find}
use Rattle.just_name_resolution.specs.Lent.{known_in}
use Rattle.just_name_resolution.proofs.name_checks.is_defined.Goals as goal

pub returns-then-contains : goal.returns-then-contains
returns-then-contains g c =
    let m = known_in (g.S.Syntax.answers c.args.known.now.syntax.now) c.args.known.now in
    let name = text_of_name c.args.name.now in
    let text : c.new.result ≡ name = c.new.ensures ∙ c.lexeme.ensures in
    let told : true ≡ contains bytes_eq c.args.hidden.now c.new.result = c.if-contains.ensures in
    let hidden : true ≡ contains bytes_eq c.args.hidden.now name = told ∙ ap (contains bytes_eq c.args.hidden.now) text in
    ap (λ b. b || (is_some (find name m.assignments) || is_some (m.constant name))) hidden

pub returns-then-contains_key : goal.returns-then-contains_key
returns-then-contains_key g c =
    let m = known_in (g.S.Syntax.answers c.args.known.now.syntax.now) c.args.known.now in
    let name = text_of_name c.args.name.now in
    let text : c.new.result ≡ name = c.new.ensures ∙ c.lexeme.ensures in
    let told : false ≡ contains bytes_eq c.args.hidden.now c.new.result = c.if-contains.ensures in
    let hidden : false ≡ contains bytes_eq c.args.hidden.now name = told ∙ ap (contains bytes_eq c.args.hidden.now) text in
    let there : true ≡ is_some (find name m.assignments) = c.if-contains_key.ensures ∙ ap (λ n. is_some (find n m.assignments)) c.lexeme-2.ensures in
    λ i. hidden i || (there i || is_some (m.constant name))

pub returns : goal.returns
returns g c =
    let m = known_in (g.S.Syntax.answers c.args.known.now.syntax.now) c.args.known.now in
    let name = text_of_name c.args.name.now in
    let text : c.new.result ≡ name = c.new.ensures ∙ c.lexeme.ensures in
    let told : false ≡ contains bytes_eq c.args.hidden.now c.new.result = c.if-contains.ensures in
    let hidden : false ≡ contains bytes_eq c.args.hidden.now name = told ∙ ap (contains bytes_eq c.args.hidden.now) text in
    let there : false ≡ is_some (find name m.assignments) = c.if-contains_key.ensures ∙ ap (λ n. is_some (find n m.assignments)) c.lexeme-2.ensures in
    let constant : c.is_some.result ≡ is_some (m.constant name) = c.is_some.ensures ∙ ap is_some (c.constant.ensures ∙ ap m.constant c.lexeme-3.ensures) in
    λ i. hidden i || (there i || constant i)

use Rattle.std.proofs.Common.{◌∙◌, refl, true, false}
use Rattle.std.specs.HashSet.{contains}
use Rattle.std.specs.Prelude.{is_some}
use Rattle.std.specs.Str.{bytes_eq}
use Rattle.just_name_resolution.proofs.LookingAt.{asked}
use Rattle.just_name_resolution.specs.Lent.{tables_in}
use Rattle.just_names.specs.Name.{text_of_name}
use Rattle.just_recipe_needs.proofs.Noting.{variable_known}
use Rattle.just_recipe_needs.proofs.direct_names.note_variable.Goals as goal
use Rattle.just_table.specs.Entries.{find}

pub returns : goal.returns
returns c =
    let m = tables_in c.args.tables.now in
    let name = text_of_name c.args.name.now in
    let hidden = contains bytes_eq c.args.hidden.now in
    variable_known m name c.args.names.now hidden
    (asked (λ x. is_some (find x m.assignments)) c.lexeme.result.now name c.contains_key.result true c.contains_key.ensures c.lexeme.ensures c.if-not-contains_key.false)
    (asked hidden c.new.result name c.contains.result false c.contains.ensures (c.new.ensures ∙ c.lexeme-2.ensures) c.if-contains.false)
    _ refl c.in_ok-add.ensures

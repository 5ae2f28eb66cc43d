use Rattle.std.proofs.Common.{refl, true}
use Rattle.std.specs.Prelude.{is_some}
use Rattle.just_name_resolution.proofs.LookingAt.{asked}
use Rattle.just_name_resolution.specs.Lent.{tables_in}
use Rattle.just_names.specs.Name.{text_of_name}
use Rattle.just_recipe_needs.proofs.Noting.{call_known}
use Rattle.just_recipe_needs.proofs.direct_names.note_call.Goals as goal
use Rattle.just_table.specs.Entries.{find}

pub returns : goal.returns
returns c =
    let m = tables_in c.args.tables.now in
    let name = text_of_name c.args.name.now in
    call_known m name c.args.names.now
    (asked (λ x. is_some (find x m.functions)) c.lexeme.result.now name c.contains_key.result true c.contains_key.ensures c.lexeme.ensures c.if-not-contains_key.false)
    _ refl c.in_ok-add.ensures

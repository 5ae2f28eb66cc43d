use Rattle.std.proofs.Common.{◌∷◌, [], OnOk, subst, sym}
use Rattle.std.specs.HashSet.{contains}
use Rattle.std.specs.Str.{bytes_eq}
use Rattle.std.proofs.lemmas.Result.{on_ok_weaker}
use Rattle.just_ast_references.specs.Mentions.{Calls, mention_of}
use Rattle.just_ast_references.specs.declared.references.Reference.{Reference}
use Rattle.just_name_resolution.specs.Lent.{tables_in}
use Rattle.just_names.specs.Name.{text_of_name}
use Rattle.just_recipe_needs.specs.loops.Direct.{Notes, NotesCall}
use Rattle.just_recipe_needs.proofs.direct_names.note.Goals as goal

pub returns-in-Call : goal.returns-in-Call
returns-in-Call c =
    let m = tables_in c.args.tables.now in
    let hidden = contains bytes_eq c.args.hidden.now in
    let name = text_of_name c.in-Call.name in
    let old = c.args.names.now in
    let new = c.note_call.new.names in
    subst (λ (x : Reference). OnOk c.note_call.result (Notes m hidden (mention_of x ∷ []) old new)) (sym c.in-Call.is)
    (on_ok_weaker {P = NotesCall m name old new} {Q = Notes m hidden (Calls name c.in-Call.arguments ∷ []) old new} c.note_call.result (λ notes. notes hidden c.in-Call.arguments) c.note_call.ensures)

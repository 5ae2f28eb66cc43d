use Rattle.std.proofs.Common.{◌∙◌, ap, refl}
use Rattle.just_module_headers.specs.Files.{asts_in}
use Rattle.just_module_contents.specs.Notes.{noted}
use Rattle.just_module_contents.specs.declared.notes.Notes.{Notes}
use Rattle.just_module_assembly.proofs.Adding.{notes_more}
use Rattle.just_module_assembly.proofs.notes.notes_at.Goals as goal

pub loop-place-preserved : goal.loop-place-preserved
loop-place-preserved g c =
    let enabled = (g.S.Syntax.answers c.args.syntax.now).enabled in
    c.in_ok-add.ensures ∙ ap (λ (notes : Notes). noted enabled notes c.ast_at.result.now) c.loop-place.invariant
    ∙ notes_more enabled (asts_in c.args.files.now) c.args.places.now c.loop-place.place-index _ c.ast_at.result.now c.loop-place-test.true refl c.ast_at.ensures

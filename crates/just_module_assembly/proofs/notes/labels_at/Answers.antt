use Rattle.std.proofs.Common.{◌∙◌, ◌++◌, refl}
use Rattle.just_module_headers.specs.Files.{asts_in}
use Rattle.just_module_contents.specs.Labels.{label_by}
use Rattle.just_module_contents.specs.Said.{said}
use Rattle.just_module_assembly.proofs.Adding.{labels_more}
use Rattle.just_module_assembly.proofs.notes.labels_at.Goals as goal

pub loop-place-preserved : goal.loop-place-preserved
loop-place-preserved g c =
    let enabled = (g.S.Syntax.answers c.args.syntax.now).enabled in
    c.in_ok-push_labels.ensures ∙ (λ i. c.loop-place.invariant i ++ said label_by enabled (c.as_slice.ensures i))
    ∙ labels_more enabled (asts_in c.args.files.now) c.args.places.now c.loop-place.place-index _ c.ast_at-ast.result.now c.loop-place-test.true refl c.ast_at-ast.ensures

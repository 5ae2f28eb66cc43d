use Rattle.std.proofs.Common.{◌<◌, ◌++◌, ◌∙◌, length, slice_index, sym, arith}
use Rattle.just_graph.specs.Graph.{targets}
use Rattle.just_module_headers.proofs.Joining.{flat_more, row_read}
use Rattle.just_module_headers.proofs.join.rows_after.Goals as goal

pub loop-file-preserved : goal.loop-file-preserved
loop-file-preserved c =
    let place = slice_index c.args.files.now c.loop-file.file-index in
    let inside : place < length c.args.rows.now = c.requires c.loop-file.file-index 0 (omega arith) in
    let read = row_read c.args.rows.now place c.index-rows-file.result inside c.index-rows-file.is in
    c.in_ok-push_row.ensures ∙ (λ i. c.loop-file.invariant i ++ (c.as_slice.ensures.value ∙ sym read) i)
    ∙ sym (flat_more (targets c.args.rows.now) c.args.files.now c.loop-file.file-index (omega arith))

use Rattle.std.proofs.Common.{◌≡◌, ◌∙◌, ◌++◌, ◌-◌, ap, arith, drop, length, length-drop, sym, take}
use Rattle.std.proofs.Math.Seq.{take-add}
use Rattle.std.proofs.lemmas.List.{append_assoc, take_all}
use Rattle.just_evaluate.proofs.outputs.write_all.Goals as goal

pub loop-at-preserved : goal.loop-at-preserved
loop-at-preserved g c =
    let bytes = c.as_bytes-bytes.result.now in
    let at = c.loop-at.at in
    let n = c.in_ok-at.field-0 in
    let before = g.W.Output.written c.args.writer.now in
    let rest : take (length bytes - at) (drop at bytes) ≡ drop at bytes = take_all (length bytes - at) (drop at bytes) (grind (arith, length-drop)) in
    record {
      within = grind (arith, length-drop);
      written = c.in_ok-at.ensures.written ∙ ap (λ x. g.W.Output.written c.loop-at.writer ++ take n x) rest ∙ ap (λ x. x ++ take n (drop at bytes)) c.loop-at.invariant.written
          ∙ append_assoc before (take at bytes) (take n (drop at bytes)) ∙ ap (λ x. before ++ x) (sym (take-add at n bytes));
      stays = c.in_ok-at.ensures.stays ∙ c.loop-at.invariant.stays;
    }

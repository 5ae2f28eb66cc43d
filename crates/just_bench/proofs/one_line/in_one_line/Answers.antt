use Rattle.std.proofs.Common.{◌∙◌, ◌++◌, ap, sym}
use Rattle.std.proofs.Math.Utf8.{encodes}
use Rattle.std.proofs.lemmas.Str.{encodes-append}
use Rattle.just_bench.proofs.Visible.{both_in_line}
use Rattle.just_bench.proofs.one_line.in_one_line.Goals as goal

pub loop-c-preserved : goal.loop-c-preserved
loop-c-preserved c =
    let before = c.loop-c.invariant in
    let pushed = c.in_ok-push_visible.ensures in
    (before.0 ++ pushed.0, both_in_line before.0 pushed.0 before.1 pushed.1, pushed.2 ∙ ap (λ t. t ++ encodes pushed.0) before.2 ∙ sym (encodes-append before.0 pushed.0))

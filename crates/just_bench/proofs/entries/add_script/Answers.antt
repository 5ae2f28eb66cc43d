use Rattle.std.proofs.Common.{◌++◌, ◌∙◌, ap, append_assoc, string_bytes, sym, take}
use Rattle.just_bench.specs.Entries.{script_line, script_lines}
use Rattle.just_bench.proofs.Written.{one_more}
use Rattle.just_bench.proofs.entries.add_script.Goals as goal

pub loop-line-preserved : goal.loop-line-preserved
loop-line-preserved c =
    let lines = c.args.script.now in
    let item = c.line-item.result in
    let start = string_bytes c.args.lines.now in
    let before = script_lines (take c.loop-line.line-index lines) in
    c.in_ok-add_script_line.ensures ∙ ap (λ t. t ++ script_line item) c.loop-line.invariant ∙ append_assoc start before (script_line item)
    ∙ ap (λ t. start ++ t) (sym (one_more script_line lines c.loop-line.line-index item c.loop-line-test.true c.line-item.is))

use Rattle.std.proofs.Common.{◌∙◌, ap, length, map, max, sym, take}
use Rattle.just_evaluate.specs.loops.Bindings.{bound_behind}
use Rattle.just_evaluate.specs.Lines.{name_width}
use Rattle.just_evaluate.proofs.Widths.{seen_more, width_more}
use Rattle.just_evaluate.proofs.lines.name_width.Goals as goal

pub loop-variable-preserved : goal.loop-variable-preserved
loop-variable-preserved c =
    let variables = c.args.variables.now in
    let at = c.loop-variable.variable-index in
    let item = c.variable-item.result in
    c.max-width.ensures ∙ (λ i. max (c.loop-variable.invariant i) (length (c.lexeme.ensures i)))
    ∙ sym (width_more (map bound_behind (take at variables)) (bound_behind item)) ∙ ap name_width (sym (seen_more bound_behind variables at item c.loop-variable-test.true c.variable-item.is))

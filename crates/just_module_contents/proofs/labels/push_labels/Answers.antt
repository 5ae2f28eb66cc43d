use Rattle.std.proofs.Common.{◌∙◌, ◌++◌, ap, false, sym}
use Rattle.std.proofs.lemmas.List.{append-nil, drop_all}
use Rattle.just_module_contents.specs.Labels.{label_by}
use Rattle.just_module_contents.specs.Said.{said}
use Rattle.just_module_contents.proofs.Walks.{said_on}
use Rattle.just_module_contents.proofs.labels.push_labels.Goals as goal

pub loop-item-preserved-then-not-is_enabled : goal.loop-item-preserved-then-not-is_enabled
loop-item-preserved-then-not-is_enabled g c =
    c.loop-item.invariant ∙ ap (λ s. c.loop-item.labels.items ++ s)
    (said_on label_by (g.S.Syntax.answers c.args.syntax.now).enabled c.args.items.now c.loop-item.item-index c.item-item.result false
    c.loop-item-test.true c.item-item.is c.if-not-is_enabled.ensures)

pub returns : goal.returns
returns g c =
    sym (c.loop-item.invariant
    ∙ ap (λ is. c.loop-item.labels.items ++ said label_by (g.S.Syntax.answers c.args.syntax.now).enabled is) (drop_all c.loop-item.item-index c.args.items.now c.loop-item-test.false)
    ∙ append-nil c.loop-item.labels.items)

use Rattle.std.proofs.Common.{◌≡◌, ◌++◌, drop}
use Rattle.just_module_contents.specs.Labels.{label_by}
use Rattle.just_module_contents.specs.Said.{said}
use Rattle.just_module_contents.proofs.labels.push_labels.Given as goal

abbrev pub invariant-loop-item : goal.invariant-loop-item
invariant-loop-item g l =
    l.initial.labels.items ++ said label_by (g.S.Syntax.answers l.syntax).enabled l.items ≡ l.labels.items ++ said label_by (g.S.Syntax.answers l.syntax).enabled (drop l.item-index l.items)

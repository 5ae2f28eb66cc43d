use Rattle.std.proofs.Common.{◌≡◌, ◌++◌, drop}
use Rattle.just_module_contents.specs.Named.{naming_by}
use Rattle.just_module_contents.specs.Said.{said}
use Rattle.just_module_headers.proofs.module_names.push_namings.Given as goal

abbrev pub invariant-loop-item : goal.invariant-loop-item
invariant-loop-item g l =
    l.initial.namings.items ++ said naming_by (g.S.Syntax.answers l.syntax).enabled l.items ≡ l.namings.items ++ said naming_by (g.S.Syntax.answers l.syntax).enabled (drop l.item-index l.items)

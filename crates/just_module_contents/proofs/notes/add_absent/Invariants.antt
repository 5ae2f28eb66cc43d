use Rattle.std.proofs.Common.{◌≡◌, drop}
use Rattle.just_table.specs.Entries.{put_all}
use Rattle.just_module_contents.specs.Notes.{absent_by}
use Rattle.just_module_contents.specs.Said.{said}
use Rattle.just_module_contents.proofs.notes.add_absent.Given as goal

abbrev pub invariant-loop-item : goal.invariant-loop-item
invariant-loop-item g l =
    put_all (λ t. t) l.initial.names (said absent_by (g.S.Syntax.answers l.syntax).enabled l.items) ≡ put_all (λ t. t) l.names (said absent_by (g.S.Syntax.answers l.syntax).enabled (drop l.item-index l.items))

use Rattle.std.proofs.Common.{◌∙◌, ap, false, sym}
use Rattle.std.proofs.lemmas.List.{drop_all}
use Rattle.just_names.specs.Texts.{Text}
use Rattle.just_table.specs.Entries.{put_all}
use Rattle.just_module_contents.specs.Notes.{absent_by}
use Rattle.just_module_contents.specs.Said.{said}
use Rattle.just_module_contents.proofs.Walks.{said_on}
use Rattle.just_module_contents.proofs.notes.add_absent.Goals as goal

pub loop-item-preserved-then-not-is_enabled : goal.loop-item-preserved-then-not-is_enabled
loop-item-preserved-then-not-is_enabled g c =
    c.loop-item.invariant ∙ ap (put_all {V = Text} (λ t. t) c.loop-item.names)
    (said_on absent_by (g.S.Syntax.answers c.args.syntax.now).enabled c.args.items.now c.loop-item.item-index c.item-item.result false
    c.loop-item-test.true c.item-item.is c.if-not-is_enabled.ensures)

pub returns : goal.returns
returns g c =
    sym (c.loop-item.invariant
    ∙ ap (λ is. put_all {V = Text} (λ t. t) c.loop-item.names (said absent_by (g.S.Syntax.answers c.args.syntax.now).enabled is))
    (drop_all c.loop-item.item-index c.args.items.now c.loop-item-test.false))

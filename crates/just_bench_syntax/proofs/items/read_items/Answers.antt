use Rattle.std.proofs.Common.{◌∙◌, Ok, Err, ap, sym}
use Rattle.just_bench_syntax.specs.Items.{told}
use Rattle.just_bench_syntax.proofs.Faults.{found_told, read_all}
use Rattle.just_bench_syntax.proofs.Steady.{found_proper}
use Rattle.just_bench_syntax.proofs.items.read_items.Goals as goal

pub returns-in-Ok-clause-proper : goal.returns-in-Ok-clause-proper
returns-in-Ok-clause-proper c =
    let read = ap (λ t. told t c.add_lines.new.reading) (sym c.in-Ok.is) ∙ c.in_ok-add_lines.ensures in
    found_proper c.args.path.now c.args.text.now c.finished.result
    (c.finished.ensures ∙ read_all c.args.path.now c.args.text.now c.args.all.now c.unread-reading.result (Ok c.add_lines.new.reading) c.requires.lines c.unread-reading.ensures read)

pub returns-in-Ok-clause-told : goal.returns-in-Ok-clause-told
returns-in-Ok-clause-told c =
    let read = ap (λ t. told t c.add_lines.new.reading) (sym c.in-Ok.is) ∙ c.in_ok-add_lines.ensures in
    found_told c.args.path.now c.args.text.now c.finished.result
    (c.finished.ensures ∙ read_all c.args.path.now c.args.text.now c.args.all.now c.unread-reading.result (Ok c.add_lines.new.reading) c.requires.lines c.unread-reading.ensures read)

pub returns-clause-told : goal.returns-clause-told
returns-clause-told c =
    let read = ap (λ t. told t c.add_lines.new.reading) (sym c.in-Err.is) ∙ c.in_ok-add_lines.ensures in
    found_told c.args.path.now c.args.text.now (Err c.in-Err.at)
    (read_all c.args.path.now c.args.text.now c.args.all.now c.unread-reading.result (Err c.in-Err.at) c.requires.lines c.unread-reading.ensures read)

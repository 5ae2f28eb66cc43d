use Rattle.just_loader.specs.loops.Reading.{was_read}
use Rattle.just_loader.proofs.BroughtIn.{numbers_kept, read_as}
use Rattle.just_loader.proofs.texts.read_text.Goals as goal

pub returns-in_ok-bring_in-in-Some-clause-read : goal.returns-in_ok-bring_in-in-Some-clause-read
returns-in_ok-bring_in-in-Some-clause-read g c =
    read_as c.args.source.now c.in-Some.ast c.in_ok-bring_in-in-Some.field-0 c.in_ok-bring_in-in-Some.ensures (g.S.Syntax.answers c.args.syntax.now) c.args.file.now.relative c.args.file.now.text (c.requires.read c.in-Some.ast c.in-Some.ensures.taken)

pub returns-in_ok-bring_in-in-Some-clause-takes : goal.returns-in_ok-bring_in-in-Some-clause-takes
returns-in_ok-bring_in-in-Some-clause-takes g c =
    was_read c.in-Some.ast c.in-Some.ensures.taken (numbers_kept c.args.source.now c.in-Some.ast c.in_ok-bring_in-in-Some.field-0 c.in_ok-bring_in-in-Some.ensures) c.in-Some.ensures.left c.in-Some.ensures.given

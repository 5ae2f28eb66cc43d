use Rattle.std.proofs.Common.{ap, ◌∙◌, lit<}
use Rattle.std.specs.List.{fold}
use Rattle.std.proofs.lemmas.Iterator.Splits.{YieldsList-from_str_split}
use Rattle.std.proofs.lemmas.Iterator.Consumers.{YieldsList-end}
use Rattle.just_paths.specs.Join.{step}
use Rattle.just_names.specs.Texts.{texts}
use Rattle.just_paths.proofs.join.follow.Goals as goal

pub returns : goal.returns
returns c =
    let all = YieldsList-from_str_split 47 c.args.text.now (lit< tt) (cc) (cc) (cc) in
    let end = YieldsList-end all c.loop-component.yielded _ c.loop-component.yielded_by _ _ c.in-None.is c.next.ensures.steps in
    c.loop-component.invariant ∙ ap (fold step (texts c.args.components.now.items)) end.0

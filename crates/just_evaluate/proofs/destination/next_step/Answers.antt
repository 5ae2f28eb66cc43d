use Rattle.std.proofs.Common.{◌∙◌, ap, sym}
use Rattle.std.specs.Option.{option_copied}
use Rattle.just_evaluate.proofs.Ordered.{named_in_order}
use Rattle.just_evaluate.proofs.destination.next_step.Goals as goal

pub returns-in-Some-submodule_named-clause-ordered : goal.returns-in-Some-submodule_named-clause-ordered
returns-in-Some-submodule_named-clause-ordered c =
    named_in_order c.args.root.now c.args.here.now c.in-Some-submodule_named.inner.now c.args.name.now c.requires.root c.requires.here
    (sym c.submodule_named.ensures ∙ ap option_copied c.in-Some-submodule_named.is)

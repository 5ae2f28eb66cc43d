use Rattle.std.proofs.Common.{◌∙◌, [], ap, arith, drop, sym}
use Rattle.std.proofs.lemmas.List.{drop_all}
use Rattle.just_evaluate.specs.loops.Steps.{destination_by}
use Rattle.just_evaluate.proofs.destination.walk.Goals as goal

pub returns-in-Variable-clause-led : goal.returns-in-Variable-clause-led
returns-in-Variable-clause-led c =
    let root = c.args.root.now in
    c.loop-at.invariant.goes_on ∙ ap (destination_by root (drop c.loop-at.at c.args.components.now)) c.in-Variable.is
    ∙ sym (ap (destination_by root []) c.in-Variable.is) ∙ c.target_of.ensures root

pub returns-clause-led : goal.returns-clause-led
returns-clause-led c =
    let root = c.args.root.now in
    c.loop-at.invariant.goes_on ∙ ap (λ names. destination_by root names c.loop-at.place) (drop_all c.loop-at.at c.args.components.now (omega arith))
    ∙ c.target_of-2.ensures root

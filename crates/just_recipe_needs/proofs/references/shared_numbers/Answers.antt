use Rattle.std.proofs.Common.{◌∙◌, ap, subst, sym}
use Rattle.std.specs.Option.{option_copied}
use Rattle.just_recipe_needs.proofs.Keeping.{known_more, known_same}
use Rattle.just_recipe_needs.specs.Known.{AreRight}
use Rattle.just_recipe_needs.proofs.references.shared_numbers.Goals as goal

pub returns-in-Some-clause-right : goal.returns-in-Some-clause-right
returns-in-Some-clause-right c =
    subst (AreRight c.args.sources.now c.args.names) (sym c.in_ok-clone.ensures.cases)
    (c.requires c.args.names c.in-Some.numbers.now (sym c.get.ensures.value ∙ ap option_copied c.in-Some.is))

pub returns-in_err-insert-clause-known : goal.returns-in_err-insert-clause-known
returns-in_err-insert-clause-known c = known_same c.args.sources.now c.args.known.now c.insert.new.self c.in_err-insert.ensures.err c.requires

pub returns-clause-known : goal.returns-clause-known
returns-clause-known c =
    known_more c.args.sources.now c.args.known.now c.insert.new.self c.args.names c.in_ok-clone-2.field-0 c.requires
    (subst (AreRight c.args.sources.now c.args.names) (sym (c.in_ok-clone-2.ensures.cases ∙ c.in_ok-numbers-2.ensures)) c.in_ok-numbers.ensures)
    (λ q. c.in_ok-insert.ensures.updates.0 q)

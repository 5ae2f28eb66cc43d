use Rattle.std.proofs.Common.{◌≡◌, ◌∙◌, true, false, sym, arith}
use Rattle.std.proofs.lemmas.Bool.{false≢true}
use Rattle.std.proofs.lemmas.Grind.{common_steps}
use Rattle.just_module_recipes.proofs.Counted.{count_told, rightly_given, star_told}
use Rattle.just_recipe.specs.Starred.{has_star}
use Rattle.just_module_recipes.proofs.counts.check_arguments.Goals as goal
use Rattle.just_module_recipes.proofs.counts.check_arguments.Goals.{else-not-settings-via-then-not-settings+else-starred, else-not-settings-via-else-not-settings}

pub returns-then-starred-clause-named : goal.returns-then-starred-clause-named
returns-then-starred-clause-named c =
    let off : c.args.settings.now.lists ≡ false = grind (arith, common_steps) in
    star_told c.args.settings.now.lists c.args.dependency.now c.args.range.now.min c.args.range.now.max c.copied.result off (sym c.starred.ensures ∙ c.if-starred.true) c.copied.ensures

pub returns-then-is_outside-clause-named : goal.returns-then-is_outside-clause-named
returns-then-is_outside-clause-named c =
    count_told c.args.settings.now.lists c.args.dependency.now c.args.range.now.min c.args.range.now.max c.len-found.result c.in_ok-clone.field-0 c.copied-then-is_outside.result
    c.len-found.ensures (c.is_outside.ensures.yes c.if-is_outside.true) c.in_ok-clone.ensures.cases c.copied-then-is_outside.ensures

pub returns-clause-kept : goal.returns-clause-kept
returns-clause-kept c =
    let star : (c.args.settings.now.lists ≡ false → has_star c.args.dependency.now.arguments ≡ true → ⊥) = elim c.else-not-settings.branch [
      | else-not-settings-via-then-not-settings+else-starred w ↦ (λ off on. false≢true (sym w.if-starred.false ∙ (w.starred.ensures ∙ on)))
      | else-not-settings-via-else-not-settings w ↦ (λ off on. let wrong : c.args.settings.now.lists ≡ true = grind (arith, common_steps) in false≢true (sym off ∙ wrong))
    ] in
    rightly_given c.args.settings.now.lists c.args.dependency.now c.args.range.now.min c.args.range.now.max c.len-found.result c.len-found.ensures star (c.is_outside.ensures.no c.if-is_outside.false)

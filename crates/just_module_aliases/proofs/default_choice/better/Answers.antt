use Rattle.std.proofs.Common.{refl, subst, sym, inl, inr}
use Rattle.just_module_contents.specs.Definitions.{recipes_in}
use Rattle.just_module_aliases.proofs.Defaults.{itself, read_before}
use Rattle.just_module_contents.specs.loops.Defaults.{IsBetter}
use Rattle.just_module_contents.specs.Recipes.{recipe_at}
use Rattle.just_module_aliases.proofs.default_choice.better.Goals as goal

pub returns-then-comes_before : goal.returns-then-comes_before
returns-then-comes_before c =
    let rs = recipes_in c.args.own.now in
    let before = read_before _ _ _ _ c.recipe_at.ensures.there c.recipe_at-in-Some.ensures.there (c.comes_before.ensures.yes c.if-comes_before.true) in
    subst (λ b. IsBetter rs b c.args.place c.args.place) (sym c.in-Some.is) (inr refl, before, itself (recipe_at rs c.args.place))

pub returns-else-comes_before : goal.returns-else-comes_before
returns-else-comes_before c =
    let rs = recipes_in c.args.own.now in
    let before = read_before _ _ _ _ c.recipe_at-in-Some.ensures.there c.recipe_at.ensures.there (c.comes_before.ensures.no c.if-comes_before.false) in
    subst (λ b. IsBetter rs b c.args.place c.in-Some.best) (sym c.in-Some.is) (inl refl, itself (recipe_at rs c.in-Some.best), before)

use Rattle.std.proofs.Common.{List, ◌++◌, None, length, ap, sym, subst, ◌∙◌}
use Rattle.just_recipe.specs.declared.dependency.UnresolvedDependency.{UnresolvedDependency}
use Rattle.just_recipe.specs.declared.recipe.Recipe.{Recipe}
use Rattle.just_recipe.specs.Recipes.{numbers}
use Rattle.just_module_contents.specs.Contents.{Contents}
use Rattle.just_module_contents.specs.Definitions.{recipes_in}
use Rattle.just_module_contents.specs.Recipes.{recipes_of}
use Rattle.just_module_contents.proofs.RecipePlaces.{length-lent}
use Rattle.just_module_contents.specs.Defaults.{IsDefaultPlace}
use Rattle.just_module_aliases.proofs.default_choice.own_default.Goals as goal

pub returns-in-None : goal.returns-in-None
returns-in-None c = λ c'.
    let ns = numbers c'.args.resolved.now in
    let by = recipes_of (c.S.Syntax.answers c'.args.syntax.now).enabled in
    let all = c'.in_ok-add.ensures.recipes ∙ ap (λ (old : List (Recipe UnresolvedDependency)). old ++ by c'.as_slice.result.now) (ap (λ (m : Contents). m.recipes) c'.new-own.ensures) ∙ ap by c'.as_slice.ensures in
    let none = subst (IsDefaultPlace ns (recipes_in c'.add.new.self) (length c'.add.new.self.recipes.items)) c'.in-None.is c'.default_place.ensures in
    subst (λ rs. IsDefaultPlace ns rs (length rs) None) all (subst (λ n. IsDefaultPlace ns (recipes_in c'.add.new.self) n None) (sym (length-lent c'.add.new.self.recipes.items)) none)

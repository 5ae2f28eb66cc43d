use Rattle.std.proofs.Common.{◌≡◌, ◌<◌, ◌∙◌, List, Some, length, map, ap, subst, refl, arith, sym}
use Rattle.std.specs.List.{slice_get}
use Rattle.std.proofs.lemmas.Option.{slice_get_read}
use Rattle.just_graph.proofs.Index.{map_get}
use Rattle.just_names.specs.Name.{text_of_name}
use Rattle.just_ast_definitions.specs.declared.parameter.Parameter.{Parameter}
use Rattle.just_recipe.specs.declared.dependency.UnresolvedDependency.{UnresolvedDependency}
use Rattle.just_recipe.specs.declared.recipe.Recipe.{Recipe}
use Rattle.just_module_contents.specs.Recipes.{FollowsDefault}
use Rattle.just_module_contents.specs.loops.Recipes.{NoneFollows}
use Rattle.just_module_contents.specs.Definitions.{recipes_in}
use Rattle.just_module_contents.proofs.RecipePlaces.{has_needed, length-lent}
use Rattle.just_module_headers.proofs.headers.check_defaults_at.Goals as goal

pub returns-in-None-clause-kept : goal.returns-in-None-clause-kept
returns-in-None-clause-kept c =
    subst NoneFollows (c.as_slice-parameters.ensures ∙ ap (λ (r : Recipe UnresolvedDependency). r.parameters) c.recipe_at.ensures.there) c.in-None.ensures.none

pub returns-in-Some-clause-named : goal.returns-in-Some-clause-named
returns-in-Some-clause-named c =
    let rs : List (Recipe UnresolvedDependency) = recipes_in c.args.definitions.now in
    let long : length rs ≡ length c.args.definitions.now.recipes.items = length-lent c.args.definitions.now.recipes.items in
    let inside : c.args.place < length rs = omega (arith, long, c.requires) in
    let lent : List Parameter = c.as_slice-parameters.result.now in
    let told = c.index-parameters-at.result in
    let at : slice_get lent c.in-Some.at ≡ Some told = slice_get_read lent (length lent) c.in-Some.at told refl c.in-Some.ensures.within c.index-parameters-at.is in
    has_needed rs c.args.place c.in-Some.at c.recipe_at.result.now told.name c.copied.result c.new.result inside c.recipe_at.ensures.there
    (subst (λ ps. FollowsDefault ps c.in-Some.at) c.as_slice-parameters.ensures c.in-Some.ensures.found)
    (subst (λ (ps : List Parameter). slice_get (map (λ (p : Parameter). p.name) ps) c.in-Some.at ≡ Some told.name) c.as_slice-parameters.ensures (map_get (λ (p : Parameter). p.name) lent c.in-Some.at told at))
    (c.copied.ensures ∙ ap (λ (p : Parameter). p.name.token) (sym c.index-parameters-at.is)) (c.new.ensures ∙ (c.lexeme.ensures ∙ ap (λ (p : Parameter). text_of_name p.name) (sym c.index-parameters-at.is)))

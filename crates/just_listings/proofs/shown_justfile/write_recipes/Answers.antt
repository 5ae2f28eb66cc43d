use Rattle.std.proofs.Common.{rules, ◌≡◌, ◌∙◌, [], ◌∷◌, ◌++◌, Bor, List, None, Ok, Some, ap, map, refl, subst, sym}
use Rattle.std.specs.Fmt.{◌++?◌}
use Rattle.std.specs.Map.{values_of}
use Rattle.std.specs.Option.{option_map}
use Rattle.std.proofs.lemmas.List.{map-append}
use Rattle.std.proofs.lemmas.Map.Iter.{iter_end}
use Rattle.just_justfile.specs.declared.justfile.RecipeKey.{RecipeKey}
use Rattle.just_names.specs.Texts.{Text}
use Rattle.just_recipe.specs.RecipeTexts.{known_recipe_text, recipe_text}
use Rattle.just_recipe.specs.Recipes.{find_number}
use Rattle.just_recipe.specs.declared.dependency.Dependency.{Dependency}
use Rattle.just_recipe.proofs.Writing.{all_known_texts, put_along, put_ok}
use Rattle.just_listings.specs.Public.{recipes_named}
use Rattle.just_listings.specs.Shown.{dependency_shown, gap_after, recipe_shown}
use Rattle.just_listings.proofs.Gaps.{AreWritten, none_found, one_found, one_written}
use Rattle.just_listings.proofs.shown_justfile.write_recipes.Goals as goal

pub loop-key-preserved-in_default : goal.loop-key-preserved-in_default
loop-key-preserved-in_default g c =
    let took = g.W.Write.write_str_gives in
    let found = λ (key : RecipeKey). find_number c.args.recipes.now key.number.0 in
    let now : Bor RecipeKey → RecipeKey = λ key. key.now in
    let leads : find_number c.args.recipes.now c.in-Some.key.now.number.0 ≡ None = search rules in
    subst (λ (texts : List Text). AreWritten took c.args.f.now c.args.begun.now texts c.loop-key.f c.loop-key.begun)
    (sym (ap (map recipe_shown) (none_found found now c.loop-key.yielded c.in-Some.key leads))) c.loop-key.invariant

pub loop-key-preserved : goal.loop-key-preserved
loop-key-preserved g c =
    let took = g.W.Write.write_str_gives in
    let found = λ (key : RecipeKey). find_number c.args.recipes.now key.number.0 in
    let now : Bor RecipeKey → RecipeKey = λ key. key.now in
    let recipe = c.in-Some-get.recipe.now in
    let leads : find_number c.args.recipes.now c.in-Some.key.now.number.0 ≡ Some recipe = search rules in
    let before = recipes_named c.args.recipes.now (map now c.loop-key.yielded) in
    let after = recipes_named c.args.recipes.now (map now (c.loop-key.yielded ++ c.in-Some.key ∷ [])) in
    let more : map recipe_shown after ≡ map recipe_shown before ++ recipe_shown recipe ∷ [] =
    ap (map recipe_shown) (one_found found now c.loop-key.yielded c.in-Some.key recipe leads) ∙ map-append recipe_shown before (recipe ∷ []) in
    let text : known_recipe_text (λ (d : Dependency). Some (dependency_shown d)) recipe ≡ Some (recipe_shown recipe) = ap (option_map (recipe_text recipe)) (all_known_texts dependency_shown recipe.dependencies) in
    let gap = Some (gap_after c.loop-key.begun) in
    let put = put_along took c.loop-key.f c.write_next.new.f (gap ++? known_recipe_text (λ (d : Dependency). Some (dependency_shown d)) recipe) (gap ++? Some (recipe_shown recipe)) (ap (λ o. gap ++? o) text)
    (put_ok took c.loop-key.f c.write_next.new.f (Ok tt) (gap ++? known_recipe_text (λ (d : Dependency). Some (dependency_shown d)) recipe) refl c.in_ok-write_next.ensures.text) in
    one_written took c.args.f.now c.args.begun.now (map recipe_shown before) (map recipe_shown after) (recipe_shown recipe)
    c.loop-key.f c.write_next.new.f c.loop-key.begun c.write_next.new.begun more c.loop-key.invariant put c.in_ok-write_next.ensures.begun

pub returns : goal.returns
returns g c = λ plain ok.
    let took = g.W.Write.write_str_gives in
    let now : Bor RecipeKey → RecipeKey = λ x. x.now in
    let start : c.into_iter-key-iterator.result ≡ values_of c.args.named.now = first_of (search rules, cc) in
    let all = (iter_end now (values_of c.args.named.now) c.loop-key.yielded c.into_iter-key-iterator.result c.loop-key.key-iterator c.next.new.self c.next.result start c.loop-key.yielded_by c.in-None.is c.next.ensures.steps).0 in
    (subst (λ (keys : List RecipeKey). AreWritten took c.args.f.now c.args.begun.now (map recipe_shown (recipes_named c.args.recipes.now keys)) c.loop-key.f c.loop-key.begun) all c.loop-key.invariant).0 plain

use Rattle.std.proofs.Common.{◌≡◌, ◌<◌, ◌∙◌, List, Some, ap, length, map, arith, refl, subst, sym}
use Rattle.std.specs.List.{slice_get}
use Rattle.std.proofs.lemmas.List.{length-map}
use Rattle.std.proofs.lemmas.Option.{slice_get_read}
use Rattle.just_graph.proofs.Index.{map_get}
use Rattle.just_names.specs.Name.{text_of_name}
use Rattle.just_ast_definitions.specs.declared.parameter.Parameter.{Parameter}
use Rattle.just_names.specs.Index.{Repeats}
use Rattle.just_module_contents.specs.Definitions.{recipes_in}
use Rattle.just_module_contents.proofs.RecipePlaces.{length-lent, has_duplicate}
use Rattle.just_module_headers.proofs.headers.check_names_at.Goals as goal

pub returns-clause-named : goal.returns-clause-named
returns-clause-named c =
    let first = c.in-Err.field-0-0 in
    let second = c.in-Err.second in
    let lent : List Parameter = c.as_slice-parameters.result.now in
    let told = c.index-parameters-second.result in
    let long : length (recipes_in c.args.definitions.now) ≡ length c.args.definitions.now.recipes.items = length-lent c.args.definitions.now.recipes.items in
    let inside : c.args.place < length (recipes_in c.args.definitions.now) = omega arith in
    let repeats : Repeats c.as_slice.result.now first second = rw c.in-Err.is at c.in_ok-index_names.ensures.repeated in
    let named = c.as_slice.ensures.value ∙ c.in_ok-names.ensures in
    let within : second < length lent = omega (arith, repeats.within, ap length named, length-map lent (λ (p : Parameter). text_of_name p.name)) in
    let at : slice_get lent second ≡ Some told = slice_get_read lent (length lent) second told refl within c.index-parameters-second.is in
    has_duplicate (recipes_in c.args.definitions.now) c.args.place first second c.recipe_at-recipe.result.now c.as_slice.result.now told.name c.copied.result c.new.result c.new-in-Err.result inside
    c.recipe_at-recipe.ensures.there (c.new.ensures ∙ c.lexeme.ensures) (named ∙ ap (map (λ (p : Parameter). text_of_name p.name)) c.as_slice-parameters.ensures) repeats
    (subst (λ (ps : List Parameter). slice_get (map (λ (p : Parameter). p.name) ps) second ≡ Some told.name) c.as_slice-parameters.ensures (map_get (λ (p : Parameter). p.name) lent second told at))
    (c.copied.ensures ∙ ap (λ (p : Parameter). p.name.token) (sym c.index-parameters-second.is)) (c.new-in-Err.ensures ∙ (c.lexeme-in-Err.ensures ∙ ap (λ (p : Parameter). text_of_name p.name) (sym c.index-parameters-second.is)))

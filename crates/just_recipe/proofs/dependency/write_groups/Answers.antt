use Rattle.std.proofs.Common.{◌≡◌, refl, sym, ap, ◌∙◌, [], ◌∷◌, ◌+◌, ◌++◌, map, take, codes, Ok}
use Rattle.std.proofs.lemmas.Grind.{put_two}
use Rattle.std.proofs.lemmas.List.{take_more}
use Rattle.just_recipe.specs.Grouping.{concatenated}
use Rattle.just_recipe.specs.RecipeTexts.{blanked, dependency_argument_text}
use Rattle.just_recipe.proofs.Headings.{blanked_more, known_written}
use Rattle.just_recipe.proofs.dependency.write_groups.Goals as goal

pub loop-group-preserved : goal.loop-group-preserved
loop-group-preserved g c = λ plain.
    let took = g.W.Write.write_str_gives in
    let groups = c.args.groups.now in
    let i = c.loop-group.group-index in
    let group = c.group-item.result in
    let slice = c.as_slice.result.now in
    let is : take (i + 1) groups ≡ take i groups ++ group ∷ [] = take_more groups i group c.loop-group-test.true ∙ ap (λ x. take i groups ++ x ∷ []) (sym c.group-item.is) in
    let one = c.loop-group.invariant plain in
    let two = known_written took c.loop-group.f c.write_each.new.f (Ok tt) (codes " ") dependency_argument_text slice refl c.in_ok-write_each.ensures one.plain in
    put_two took _ _ _ _ _ _ one two
    (ap (λ xs. blanked (map dependency_argument_text (concatenated (take i groups))) ++ blanked (map dependency_argument_text xs)) c.as_slice.ensures
    ∙ blanked_more (take i groups) group ∙ ap (λ gs. blanked (map dependency_argument_text (concatenated gs))) (sym is))

use Rattle.std.proofs.Common.{rules, ◌≡◌, refl, ap, ◌∙◌, not, ◌==◌, length, map, take, drop, min, codes, Ok}
use Rattle.std.specs.Option.{option_map}
use Rattle.std.proofs.Output.{has_written_of_eq}
use Rattle.std.proofs.lemmas.List.{take_min, drop_min}
use Rattle.just_ast_definitions.specs.DefinitionTexts.{text_if}
use Rattle.just_recipe.specs.RecipeTexts.{all_texts, dependencies_text, each_after}
use Rattle.just_recipe.proofs.Headings.{dependencies_put}
use Rattle.just_recipe.proofs.Writing.{put_ok, put_where_ok}
use Rattle.just_recipe.proofs.recipe.write_dependencies.Goals as goal

pub returns : goal.returns
returns g c =
    let took = g.W.Write.write_str_gives in
    let output = g.D.Display.output in
    let ds = c.args.dependencies.now in
    let n = c.args.priors in
    let front = c.split_at.result.0.now in
    let back = c.split_at.result.1.now in
    let known = all_texts (map output ds) in
    let same : known ≡ known = refl in
    let place : c.min.result ≡ min n (length ds) = search rules in
    let first : front ≡ take n ds = c.split_at.ensures.front ∙ ap (λ k. take k ds) place ∙ take_min n ds in
    let last : back ≡ drop n ds = c.split_at.ensures.back ∙ ap (λ k. drop k ds) place ∙ drop_min n ds in
    let mark : c.text_if.result.now ≡ text_if (not (length back == 0)) (codes " &&") = c.text_if.ensures ∙ ap (λ b. text_if (not b) (codes " &&")) c.is_empty.ensures in
    put_where_ok took c.args.f.now c.write_each-2.new.f c.write_each-2.result (option_map (dependencies_text n) known) (λ ok.
    dependencies_put took output c.args.f.now c.write_each.new.f c.write_str.new.self c.write_each-2.new.f n ds front back known same first last
    (put_ok took c.args.f.now c.write_each.new.f (Ok tt) (option_map (each_after (codes " ")) (all_texts (map output front))) refl c.in_ok-write_each.ensures)
    (λ plain. has_written_of_eq took c.write_each.new.f c.text_if.result.now (text_if (not (length back == 0)) (codes " &&")) c.write_str.new.self mark (c.in_ok-write_str.ensures.writes plain refl))
    (put_ok took c.write_str.new.self c.write_each-2.new.f c.write_each-2.result (option_map (each_after (codes " ")) (all_texts (map output back))) ok c.write_each-2.ensures))

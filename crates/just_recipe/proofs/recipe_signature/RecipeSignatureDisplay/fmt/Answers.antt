use Rattle.std.proofs.Common.{◌≡◌, refl, ap, ◌∙◌, ◌++◌, append_assoc, codes}
use Rattle.std.specs.List.{list_any}
use Rattle.std.proofs.lemmas.Grind.{put_two}
use Rattle.just_ast_definitions.specs.DefinitionTexts.{text_if}
use Rattle.just_ast_definitions.specs.Parameter.{is_option}
use Rattle.just_recipe.specs.RecipeTexts.{signature_text, words_text}
use Rattle.just_recipe.proofs.recipe_signature.RecipeSignatureDisplay.fmt.Goals as goal

pub returns-clause-writes : goal.returns-clause-writes
returns-clause-writes g c = λ plain ok.
    let name = c.args.self.now.name.now in
    let slice = c.as_slice-parameters.result.now in
    let options : c.text_if-options.result.now ≡ text_if (list_any is_option slice) (codes " [OPTIONS]") =
    c.text_if-options.ensures ∙ ap (λ b. text_if b (codes " [OPTIONS]")) c.any_option.ensures in
    let one = c.in_ok-write.ensures.writes plain refl in
    let two = c.write_words.ensures one.plain ok in
    let all : (name ++ c.text_if-options.result.now) ++ words_text slice ≡ signature_text name c.args.self.now.recipe.now.parameters =
    append_assoc name c.text_if-options.result.now (words_text slice) ∙ ap (λ m. name ++ (m ++ words_text slice)) options ∙ ap (signature_text name) c.as_slice-parameters.ensures in
    put_two g.W.Write.write_str_gives _ _ _ _ _ _ one two all

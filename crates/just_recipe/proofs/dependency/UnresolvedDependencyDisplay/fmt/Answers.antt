use Rattle.std.proofs.Common.{◌≡◌, refl, sym, ap, ◌∙◌, false, ◌==◌, ◌++◌, length, map, codes, Ok}
use Rattle.just_names.specs.Name.{texts_of_path}
use Rattle.just_names.specs.Texts.{text_of}
use Rattle.just_ast_definitions.specs.DefinitionTexts.{text_if}
use Rattle.just_recipe.specs.RecipeTexts.{blanked, dependency_argument_text, dependency_text}
use Rattle.just_recipe.specs.Starred.{has_star}
use Rattle.just_recipe.proofs.Headings.{known_written, parentheses_written, some_arguments}
use Rattle.just_recipe.proofs.dependency.UnresolvedDependencyDisplay.fmt.Goals as goal

pub returns-clause-writes : goal.returns-clause-writes
returns-clause-writes g c = λ plain ok.
    let took = g.W.Write.write_str_gives in
    let arguments = c.args.self.now.arguments in
    let slice = c.as_slice-arguments.result.now in
    let path = text_of (texts_of_path c.args.self.now.recipe) false in
    let same : slice ≡ arguments = c.as_slice-arguments.ensures in
    let star : c.text_if.result.now ≡ text_if (has_star arguments) (codes "*") = c.text_if.ensures ∙ ap (λ b. text_if b (codes "*")) c.starred.ensures in
    let some : (length arguments == 0) ≡ false = sym (ap (λ xs. length xs == 0) same) ∙ sym c.is_empty.ensures ∙ c.if-is_empty.false in
    let one = c.in_ok-write.ensures.writes plain refl in
    let two = known_written took c.write.new.self c.write_each.new.f (Ok tt) (codes " ") dependency_argument_text slice refl c.in_ok-write_each.ensures one.plain in
    let three = c.write_str.ensures.writes two.plain ok in
    let all : c.text_if.result.now ++ (codes "(" ++ (path ++ (blanked (map dependency_argument_text slice) ++ codes ")"))) ≡ dependency_text path arguments =
    ap (λ s. s ++ (codes "(" ++ (path ++ (blanked (map dependency_argument_text slice) ++ codes ")")))) star
    ∙ ap (λ xs. text_if (has_star arguments) (codes "*") ++ (codes "(" ++ (path ++ (blanked (map dependency_argument_text xs) ++ codes ")")))) same
    ∙ sym (some_arguments path arguments some) in
    parentheses_written took c.args.f.now c.write.new.self c.write_each.new.f c.write_str.new.self c.text_if.result.now path (blanked (map dependency_argument_text slice)) (dependency_text path arguments) one two three all

use Rattle.std.proofs.Common.{◌≡◌, refl, sym, ap, ◌∙◌, true, false, ◌==◌, ◌++◌, length, map, codes}
use Rattle.std.specs.List.{list_all}
use Rattle.std.proofs.Output.{has_written_of_eq}
use Rattle.just_names.specs.Name.{texts_of_path}
use Rattle.just_names.specs.Texts.{text_of}
use Rattle.just_ast_definitions.specs.DefinitionTexts.{text_if}
use Rattle.just_recipe.specs.Grouping.{concatenated}
use Rattle.just_recipe.specs.RecipeTexts.{blanked, dependency_argument_text, dependency_text}
use Rattle.just_recipe.specs.Starred.{has_star}
use Rattle.just_recipe.proofs.Headings.{none_joined, parentheses_written, some_joined, star_joined}
use Rattle.just_recipe.proofs.dependency.DependencyDisplay.fmt.Goals as goal

pub returns-then-are_empty-clause-writes : goal.returns-then-are_empty-clause-writes
returns-then-are_empty-clause-writes g c = λ plain ok.
    let groups = c.args.self.now.arguments in
    let path = text_of (texts_of_path c.args.self.now.path) false in
    let empty : list_all (λ g. length g == 0) groups ≡ true = sym (ap (list_all (λ g. length g == 0)) c.as_slice-groups.ensures) ∙ sym c.are_empty.ensures ∙ c.if-are_empty.true in
    has_written_of_eq g.W.Write.write_str_gives c.args.f.now path (dependency_text path (concatenated groups)) c.fmt.new.f
    (sym (ap (dependency_text path) (none_joined groups empty))) (c.fmt.ensures.writes plain ok)

pub returns-clause-writes : goal.returns-clause-writes
returns-clause-writes g c = λ plain ok.
    let took = g.W.Write.write_str_gives in
    let groups = c.args.self.now.arguments in
    let slice = c.as_slice-groups.result.now in
    let path = text_of (texts_of_path c.args.self.now.path) false in
    let same : slice ≡ groups = c.as_slice-groups.ensures in
    let star : c.text_if.result.now ≡ text_if (has_star (concatenated groups)) (codes "*") =
    c.text_if.ensures ∙ ap (λ b. text_if b (codes "*")) (c.any_starred.ensures ∙ star_joined slice ∙ ap (λ gs. has_star (concatenated gs)) same) in
    let some : list_all (λ g. length g == 0) groups ≡ false = sym (ap (list_all (λ g. length g == 0)) same) ∙ sym c.are_empty.ensures ∙ c.if-are_empty.false in
    let one = c.in_ok-write.ensures.writes plain refl in
    let two = c.in_ok-write_groups.ensures one.plain refl in
    let three = c.write_str.ensures.writes two.plain ok in
    let all : c.text_if.result.now ++ (codes "(" ++ (path ++ (blanked (map dependency_argument_text (concatenated slice)) ++ codes ")"))) ≡ dependency_text path (concatenated groups) =
    ap (λ s. s ++ (codes "(" ++ (path ++ (blanked (map dependency_argument_text (concatenated slice)) ++ codes ")")))) star
    ∙ ap (λ gs. text_if (has_star (concatenated groups)) (codes "*") ++ (codes "(" ++ (path ++ (blanked (map dependency_argument_text (concatenated gs)) ++ codes ")")))) same
    ∙ sym (some_joined path groups some) in
    parentheses_written took c.args.f.now c.write.new.self c.write_groups.new.f c.write_str.new.self c.text_if.result.now path (blanked (map dependency_argument_text (concatenated slice))) (dependency_text path (concatenated groups)) one two three all

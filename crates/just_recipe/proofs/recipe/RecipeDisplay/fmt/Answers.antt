use Rattle.std.proofs.Common.{refl, ap, [], ◌∷◌, ◌++◌, map, codes, Ok}
use Rattle.std.specs.Option.{option_map}
use Rattle.std.proofs.Output.{has_written_of_eq}
use Rattle.just_names.specs.Token.{lexeme}
use Rattle.just_ast_definitions.specs.DefinitionTexts.{body_line_text, text_if}
use Rattle.just_ast_definitions.specs.declared.line.Line.{Line}
use Rattle.just_ast_definitions.specs.declared.parameter.Parameter.{Parameter}
use Rattle.std.proofs.Common.{List}
use Rattle.just_recipe.specs.RecipeTexts.{all_texts, blanked, dependencies_text, each_after, recipe_text}
use Rattle.just_recipe.proofs.Headings.{known_written, recipe_put}
use Rattle.just_recipe.proofs.Writing.{put_along, put_ok, put_where_ok}
use Rattle.just_recipe.proofs.recipe.RecipeDisplay.fmt.Goals as goal

pub returns-clause-writes : goal.returns-clause-writes
returns-clause-writes g c =
    let took = g.W.Write.write_str_gives in
    let output = g.D.Display.output in
    let r = c.args.self.now in
    let name = lexeme r.name.token in
    let known = all_texts (map output r.dependencies) in
    let texts = λ (ps : List Parameter). blanked (map (λ (p : Parameter). p.text) ps) in
    let lines = λ (ls : List Line). each_after (10 ∷ []) (map body_line_text ls) in
    put_where_ok took c.args.f.now c.write_each-2.new.f c.write_each-2.result (option_map (recipe_text r) known) (λ ok.
    recipe_put took output c.args.f.now c.write.new.self c.write_each.new.f c.write_str.new.self c.write_dependencies.new.f c.write_each-2.new.f r known
    (λ plain. has_written_of_eq took c.args.f.now (c.text_if.result.now ++ name) (text_if r.quiet (codes "@") ++ name) c.write.new.self (ap (λ t. t ++ name) c.text_if.ensures) (c.in_ok-write.ensures.writes plain refl))
    (λ plain. has_written_of_eq took c.write.new.self (texts c.as_slice.result.now) (texts r.parameters) c.write_each.new.f (ap texts c.as_slice.ensures)
    (known_written took c.write.new.self c.write_each.new.f (Ok tt) (codes " ") (λ (p : Parameter). p.text) c.as_slice.result.now refl c.in_ok-write_each.ensures plain))
    (λ plain. c.in_ok-write_str.ensures.writes plain refl)
    (put_along took c.write_str.new.self c.write_dependencies.new.f (option_map (dependencies_text r.priors) (all_texts (map output c.as_slice-2.result.now))) (option_map (dependencies_text r.priors) known)
    (ap (λ ds. option_map (dependencies_text r.priors) (all_texts (map output ds))) c.as_slice-2.ensures)
    (put_ok took c.write_str.new.self c.write_dependencies.new.f (Ok tt) (option_map (dependencies_text r.priors) (all_texts (map output c.as_slice-2.result.now))) refl c.in_ok-write_dependencies.ensures))
    (λ plain. has_written_of_eq took c.write_dependencies.new.f (lines c.as_slice-3.result.now) (lines r.body) c.write_each-2.new.f (ap lines c.as_slice-3.ensures)
    (known_written took c.write_dependencies.new.f c.write_each-2.new.f c.write_each-2.result (10 ∷ []) body_line_text c.as_slice-3.result.now ok c.write_each-2.ensures plain)))

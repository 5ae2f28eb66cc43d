-- The texts of recipes, of what they depend on, and of how they are called.
use Rattle.std.specs.Prelude.{ℕ, not, List, [], ◌∷◌, ◌++◌, map, take, drop, Option, None, Some, codes}
use Rattle.std.specs.List.{flat_map, list_any}
use Rattle.std.specs.Option.{option_map}
use Rattle.just_names.specs.Token.{lexeme}
use Rattle.just_ast_expressions.specs.ExpressionText.{expression_text}
use Rattle.just_ast_definitions.specs.DefinitionTexts.{text_if, body_line_text}
use Rattle.just_ast_definitions.specs.Parameter.{is_option}
use Rattle.just_ast_definitions.specs.declared.parameter.Parameter.{Parameter}
use Rattle.just_recipe.specs.Starred.{has_star}
use Rattle.just_recipe.specs.declared.dependency.DependencyArgument.{DependencyArgument}
use Rattle.just_recipe.specs.declared.recipe.Recipe.{Recipe}

-- texts, each behind another
abbrev pub each_after : List ℕ → List (List ℕ) → List ℕ
each_after before texts = flat_map (λ text. before ++ text) texts

abbrev pub blanked : List (List ℕ) → List ℕ
blanked texts = each_after (codes " ") texts

abbrev pub dependency_argument_text : DependencyArgument → List ℕ
dependency_argument_text a = text_if a.starred (codes "*") ++ expression_text a.expression

-- a path alone, or a path and its arguments in parentheses, behind a star where one of them is starred
abbrev pub dependency_text : List ℕ → List DependencyArgument → List ℕ
dependency_text path [] = path
dependency_text path (a ∷ arguments) =
    text_if (has_star (a ∷ arguments)) (codes "*") ++ (codes "(" ++ (path ++ (blanked (map dependency_argument_text (a ∷ arguments)) ++ codes ")")))

-- a parameter after a blank, if it is no option
abbrev pub word_text : Parameter → List ℕ
word_text p = text_if (not (is_option p)) (codes " " ++ p.text)

abbrev pub words_text : List Parameter → List ℕ
words_text parameters = flat_map word_text parameters

-- how a recipe is called under a name: options are not told apart, the others stand in their order
abbrev pub signature_text : List ℕ → List Parameter → List ℕ
signature_text name parameters =
    name ++ (text_if (list_any is_option parameters) (codes " [OPTIONS]") ++ words_text parameters)

-- dependencies that run after a recipe: ` &&` stands before the first
abbrev pub subsequents_text : List (List ℕ) → List ℕ
subsequents_text [] = []
subsequents_text (d ∷ ds) = codes " &&" ++ blanked (d ∷ ds)

-- dependencies, of which the first so many run before a recipe
abbrev pub dependencies_text : ℕ → List (List ℕ) → List ℕ
dependencies_text priors ds = blanked (take priors ds) ++ subsequents_text (drop priors ds)

-- all texts, if each is known
abbrev pub all_texts : List (Option (List ℕ)) → Option (List (List ℕ))
all_texts [] = Some []
all_texts (None ∷ texts) = None
all_texts (Some text ∷ texts) = option_map (λ others. text ∷ others) (all_texts texts)

module _ {D : Type 0} where
  -- a recipe whose dependencies have these texts: its heading, and each line of its body on a line of its own
  abbrev pub recipe_text : Recipe D → List (List ℕ) → List ℕ
  recipe_text r dependencies =
      text_if r.quiet (codes "@") ++ (lexeme r.name.token ++ (blanked (map (λ (p : Parameter). p.text) r.parameters) ++ (codes ":" ++ (dependencies_text r.priors dependencies
      ++ each_after (10 ∷ []) (map body_line_text r.body)))))

  -- the text of a recipe, if those of its dependencies are known
  abbrev pub known_recipe_text : (D → Option (List ℕ)) → Recipe D → Option (List ℕ)
  known_recipe_text text r = option_map (recipe_text r) (all_texts (map text r.dependencies))

-- The texts of lines, and of values as they are shown.
use Rattle.std.specs.Prelude.{List, [], ◌∷◌, ◌++◌, map, codes, Option, Some}
use Rattle.std.specs.Option.{option_and_then, option_map}
use Rattle.just_ast_definitions.specs.declared.line.Fragment.{Fragment}
use Rattle.just_ast_definitions.specs.declared.line.Fragment.TheVariants as fragment
use Rattle.just_ast_expressions.specs.declared.expression.Expression.{Expression}
use Rattle.just_names.specs.Texts.{Text, joined}
use Rattle.just_names.specs.Token.{lexeme}
use Rattle.just_bench_values.specs.Settings.{text_with}
use Rattle.just_bench_values.specs.Values.{Outcome}

-- Lines where expressions come to these values.
module _ (value : Expression → Outcome) where
  -- the text of a part of a line
  abbrev pub fragment_text : Fragment → Option Text
  fragment_text (fragment.Text token) = Some (lexeme token)
  fragment_text (fragment.Interpolation e) = text_with value e

  -- the text of parts, one after another
  abbrev pub fragments_text : List Fragment → Option Text
  fragments_text [] = Some []
  fragments_text (f ∷ fs) = option_and_then (λ text. option_map (λ rest. text ++ rest) (fragments_text fs)) (fragment_text f)

-- a text in double quotes
abbrev pub quoted : Text → Text
quoted text = codes "\"" ++ text ++ codes "\""

-- a value as it is shown: each of its texts in double quotes, with a blank between them
abbrev pub displayed : List Text → Text
displayed value = joined (codes " ") (map quoted value)

-- How the texts of lines begin and end.
use Rattle.std.specs.Prelude.{◌≡◌, ◌≢◌, ℕ, ◌<◌, ◌≤◌, ◌++◌, ◌∷◌, [], Bool, List, length, get_or}
use Rattle.just_ast_definitions.specs.declared.line.Line.{Line}
use Rattle.just_ast_expressions.specs.declared.settings.Settings.{Settings}
use Rattle.just_ast_expressions.specs.declared.sigil.Sigil.{Sigil}
use Rattle.just_parts.specs.Syntax.{SyntaxAnswers}

-- A text begins with so many ASCII bytes, none of them a backslash.
pub record BeginsPlain (count : ℕ) (text : List ℕ) : Type 0 where
  pub within : count ≤ length text
  pub plain : (i : ℕ) → i < count → get_or text i 0 < 128
  pub apart : (i : ℕ) → i < count → get_or text i 0 ≢ 92

-- a text ends with a backslash
abbrev pub EndsWithBackslash : List ℕ → Type 0
EndsWithBackslash text = (front : List ℕ) × (text ≡ front ++ 92 ∷ [])

-- An evaluator takes lines as a grammar does: the sigils of each, and whether the line after it goes on with it.
pub record AgreesWith (sigils : Line → Settings → List Sigil) (continues : Line → Bool) (syntax : SyntaxAnswers) : Type 0 where
  pub sigils_of : (line : Line) (settings : Settings) → sigils line settings ≡ syntax.sigils line settings
  pub goes_on : (line : Line) → continues line ≡ syntax.is_continuation line

-- Patterns: which texts they match, and why one is refused.
use Rattle.std.specs.Prelude.{◌≡◌, ◌<◌, ◌≤◌, ◌++◌, ℕ, Bool, false, List, Option, None, Some, IfSome, IsSomeAnd, is_some, codes}
use Rattle.std.specs.List.{All}
use Rattle.std.specs.Str.{chars}
use Rattle.regex_syntax.specs.Brackets.{Nested}
use Rattle.regex_syntax.specs.Grammar.{Names, read}
use Rattle.regex.specs.Patterns.{Re, default_config, find_str}
use Rattle.regex.specs.Strings.{regex_pattern}
use Rattle.regex.specs.declared.string.regex.Regex.{Regex}
use Rattle.just_names.specs.Token.{Place}
use Rattle.just_errors.specs.declared.compile_error.CompileErrorKind.TheVariants as kind
use Rattle.just_errors.specs.declared.error.Error.{Error}
use Rattle.just_errors.specs.declared.error.Error.TheVariants as error

-- the regular expression that is searched for a pattern: it is in brackets, between the start and the end of a text
abbrev pub anchored : List ℕ → List ℕ
anchored pattern = codes "^(?:" ++ (pattern ++ codes ")$")

-- what the grammar of regular expressions reads there: what stands for it, with its nesting, and the names of its groups
abbrev pub reading : List ℕ → Option (Nested Re × Names)
reading pattern = read default_config (chars (anchored pattern))

-- what was read is found in a text
abbrev pub is_found : List ℕ → Option (Nested Re × Names) → Bool
is_found text None = false
is_found text (Some (expression, names)) = is_some (find_str expression.value text 0)

-- whether a pattern matches a text
abbrev pub is_match : List ℕ → List ℕ → Bool
is_match pattern text = is_found text (reading pattern)

-- the grammar reads a pattern, and it is nested no deeper than regular expressions may be
abbrev pub IsReadable : List ℕ → Type 0
IsReadable pattern = IsSomeAnd (reading pattern) (λ (expression, _). expression.depth ≤ default_config.nest_limit)

-- a compiled regular expression is found where the pattern matches
abbrev pub Searches : List ℕ → Regex → Type 0
Searches pattern r = (text : List ℕ) → All (λ byte. byte < 256) text → is_some (find_str (regex_pattern r) text 0) ≡ is_match pattern text

-- Why a pattern is refused. Of one that is too large once it is compiled, no more is known than that it is readable.
pub data IsRefused (pattern : List ℕ) : Type 0 where
  unread : reading pattern ≡ None → IsRefused pattern
  too_deep : IfSome (reading pattern) (λ (expression, _). default_config.nest_limit < expression.depth) → IsRefused pattern
  too_large : IsReadable pattern → IsRefused pattern

-- an error is told at a place of a pattern that is refused; or memory was
abbrev pub RefusesPattern : List ℕ → Place → Error → Type 0
RefusesPattern pattern place (error.Compile e) = (e.token ≡ place) × (e.kind ≡ kind.ArgumentPatternRegex) × IsRefused pattern
RefusesPattern pattern place error.Memory = Unit {0}
RefusesPattern pattern place (error.Load e) = ⊥
RefusesPattern pattern place (error.Invocation e) = ⊥
RefusesPattern pattern place (error.Run e) = ⊥
RefusesPattern pattern place error.Exhausted = ⊥

-- What a compiled regular expression finds, and why one is refused, by what its crate says of both.
use Rattle.std.proofs.Common.{◌≡◌, ◌≢◌, ◌<◌, ◌≤◌, ℕ, List, length, Option, None, Some, IfSome, IsSomeAnd, Result, Ok, Err, IfOk, IfErr, inl, inr, is_some, refl, sym, ap, ◌∙◌, subst}
use Rattle.std.specs.List.{All}
use Rattle.std.specs.Str.{chars}
use Rattle.regex_hir.specs.Meaning.{meaning}
use Rattle.regex_hir.specs.Re.{Re}
use Rattle.regex_hir.specs.declared.hir.Hir.{Hir}
use Rattle.regex_syntax.specs.Brackets.{Nested}
use Rattle.regex_syntax.specs.Captures.{SameCaptures}
use Rattle.regex_syntax.specs.Grammar.{Names, group_count, read}
use Rattle.regex_syntax.specs.Verdict.{Reads, Refuses, default_config}
use Rattle.regex_syntax.specs.declared.error.ErrorKind.{ErrorKind}
use Rattle.regex_syntax.specs.declared.error.ErrorKind.TheVariants as syntax
use Rattle.regex_syntax.proofs.CapturesLemmas.{find_str_alike, spans}
use Rattle.regex_syntax.proofs.Written.{is_some-option_map}
use Rattle.regex.specs.Failures.{IsRightKind}
use Rattle.regex.specs.Patterns.{find_str}
use Rattle.regex.specs.Sources.{IsRefusal as IsGrammarRefusal}
use Rattle.regex.specs.Strings.{IsReadFromSource, regex_config, regex_pattern, regex_source}
use Rattle.regex.specs.declared.string.regex.Regex.{Regex}
use Rattle.regex.specs.declared.error.Error as regex
use Rattle.regex.specs.declared.error.Error.TheVariants as regex_error
use Rattle.just_patterns.specs.Pattern.{IsReadable, IsRefused, Searches, is_found, reading, too_deep, unread, anchored}
use Rattle.just_patterns.specs.loops.Pattern.{IsRefusal}

-- what the crate says of a reading, at one that is there or not
abbrev pub ReadsAs : Option (Nested Re × Names) → Re → Names → Type 0
ReadsAs o a names = IsSomeAnd o (λ (re, found). (re.depth ≤ default_config.nest_limit) × SameCaptures a re.value × (names ≡ found) × (group_count a ≤ length names))

found_as : (o : Option (Nested Re × Names)) (a : Re) (names : Names) → ReadsAs o a names → (text : List ℕ) → All (λ byte. byte < 256) text → is_some (find_str a text 0) ≡ is_found text o
found_as None a names h text bytes = absurd h
found_as (Some (re, found)) a names h text bytes =
    sym (is_some-option_map spans (find_str a text 0)) ∙ ap is_some (find_str_alike a re.value h.1 text bytes 0) ∙ is_some-option_map spans (find_str re.value text 0)

readable_as : (o : Option (Nested Re × Names)) (a : Re) (names : Names) → ReadsAs o a names → IsSomeAnd o (λ (re, _). re.depth ≤ default_config.nest_limit)
readable_as None a names h = absurd h
readable_as (Some (re, found)) a names h = h.0

module _ (pattern source : List ℕ) (is : source ≡ anchored pattern) where
  reads : (hir : Hir) (names : Names) → Reads default_config source hir names → ReadsAs (reading pattern) (meaning hir) names
  unfolding Reads
  reads hir names h = subst (λ s. ReadsAs (read default_config (chars s)) (meaning hir) names) is h

  read_of : (r : Regex) → regex_source r ≡ source → regex_config r ≡ default_config → IsReadFromSource r → (names : Names) × ReadsAs (reading pattern) (regex_pattern r) names
  read_of r told by h = (_, reads _ _ (rw (told, by) at h))

  pub searches : (r : Result Regex regex.Error) → IfOk r (λ x. regex_source x ≡ source) → IfOk r (λ x. regex_config x ≡ default_config) → IfOk r IsReadFromSource → IfOk r (Searches pattern)
  searches (Ok r) told by h = let got = read_of r told by h in found_as (reading pattern) (regex_pattern r) got.0 got.1
  searches (Err e) told by h = tt

  pub readable : (r : Result Regex regex.Error) → IfOk r (λ x. regex_source x ≡ source) → IfOk r (λ x. regex_config x ≡ default_config) → IfOk r IsReadFromSource → IfOk r (λ _. IsReadable pattern)
  readable (Ok r) told by h = let got = read_of r told by h in readable_as (reading pattern) (regex_pattern r) got.0 got.1
  readable (Err e) told by h = tt

  why : (kind : ErrorKind) → kind ≢ syntax.OutOfMemory → Refuses default_config source kind → IsRefused pattern
  unfolding Refuses
  why kind some h = elim h [
    | inl none ↦ absurd (some none)
    | inr h ↦ elim h [
      | inl none ↦ unread (ap (λ s. read default_config (chars s)) (sym is) ∙ none)
      | inr deep ↦ too_deep (subst (λ s. IfSome (read default_config (chars s)) (λ (re, _). default_config.nest_limit < re.depth)) is deep.1)
    ]
  ]

  refusal : (e : regex.Error) → IsGrammarRefusal default_config source e → IsRightKind default_config source e → e ≢ regex_error.Internal → IsRefusal pattern e
  refusal (regex_error.Syntax e) by right never = why e.kind right (by e refl)
  refusal regex_error.CompiledTooBig by right never = readable_as (reading pattern) (meaning right.0) right.1 (reads right.0 right.1 right.2)
  refusal regex_error.Internal by right never = never refl
  refusal regex_error.OutOfMemory by right never = tt

  pub refused : (r : Result Regex regex.Error) → IfErr r (IsGrammarRefusal default_config source) → IfErr r (IsRightKind default_config source) → IfErr r (λ e. e ≢ regex_error.Internal) → IfErr r (IsRefusal pattern)
  refused (Ok r) by right never = tt
  refused (Err e) by right never = refusal e by right never

-- What is told of a line is a part of it.
use Rattle.std.proofs.Common.{suc, zero, ◌≡◌, ℕ, ◌+◌, ◌-◌, ◌<◌, ◌≤◌, refl, List, [], ◌∷◌, length, take, drop, Bool, true, false, arith, length-drop, Option, Some, None}
use Rattle.std.specs.Prelude.{IfSome, if◌then◌else◌, ◌==◌, ◌&&◌}
use Rattle.std.specs.List.{prefix_len, position, slice_get}
use Rattle.std.specs.Option.{option_map}
use Rattle.std.proofs.lemmas.List.{length-take}
use Rattle.std.proofs.lemmas.List.Sums.{prefix_len-le-length}
use Rattle.just_names.specs.Identifier.{is_identifier_start, is_identifier_continue}
use Rattle.just_names.specs.Token.{Place}
use Rattle.just_bench_expressions.specs.declared.lexer.Kind.{Kind}
use Rattle.just_bench_expressions.specs.declared.lexer.Kind.TheVariants as kind
use Rattle.just_bench_expressions.specs.declared.lexer.Lexeme.{Lexeme}
use Rattle.just_bench_expressions.specs.declared.lines.TextLine.{TextLine}
use Rattle.just_bench_expressions.specs.Lexemes.{is_blank, is_quote, quoted, double_mark, single_mark, mark, first, lexeme_place, before, lexemes_from, lexemes, lexed_from, lexed_to, past}
use Rattle.just_bench_expressions.proofs.Lexing.{quote_found}
use Rattle.just_bench_lines.specs.Body.{close_at, part}
use Rattle.just_bench_lines.proofs.Closing.{closing_within}
use Rattle.just_bench_stops.specs.Body.{bad_part, body_stop, end_or_line, expression_stop, inner_end, stop_in}
use Rattle.just_bench_stops.specs.Definitions.{whole_end}
use Rattle.just_bench_stops.specs.Stops.{line_stop, stop_place, stop}
use Rattle.just_bench_stops.specs.Tokens.{lexemes_between, or_nothing, or_rest, rest_of, told_at}
use Rattle.just_bench_stops.proofs.BadParts.{bad_part_is}
use Rattle.just_bench_stops.proofs.Openings.{opens, opens_within}

-- a part of a line
pub record IsPart (path text : List ℕ) (line : TextLine) (token : Place) : Type 0 where
  pub within : token.column + token.length ≤ length line.text
  pub is : token ≡ lexeme_place path text line token.column token.length

if_some : {A : Type 0} (P : A → Type 0) (b : Bool) (x y : Option A) → IfSome x P → IfSome y P → IfSome (if b then x else y) P
if_some P true x y h k = h
if_some P false x y h k = k

-- a lexeme is no longer than what is left
abbrev Fits : ℕ → Option (Kind × ℕ) → Type 0
Fits n found = IfSome found (λ f. f.1 ≤ n)

quoted_by : (rest : List ℕ) (o : Option ℕ) → o ≡ position is_quote rest → Fits (suc (length rest)) (option_map {U = Kind × ℕ} (λ inside. (kind.Quoted, inside + 2)) o)
quoted_by rest None is = tt
quoted_by rest (Some n) is = let at = quote_found rest n is in omega (arith, at.0)

double_some : (b : ℕ) (rest : List ℕ) → IfSome (double_mark b rest) (λ _. 0 < length rest)
double_some b [] = tt
double_some b (c ∷ rest) =
    if_some (λ _. 0 < length (c ∷ rest)) (b == 58 && c == 61) (Some kind.Assign) (if b == 38 && c == 38 then Some kind.And else None) (omega arith)
    (if_some (λ _. 0 < length (c ∷ rest)) (b == 38 && c == 38) (Some kind.And) None (omega arith) tt)

mark_fits : (n : ℕ) (double single : Option Kind) → IfSome double (λ _. 0 < n) → Fits (suc n) (mark double single)
mark_fits n (Some d) single h = omega (arith, h)
mark_fits n None None h = tt
mark_fits n None (Some s) h = omega arith

first_fits : (bytes : List ℕ) → Fits (length bytes) (first bytes)
first_fits [] = tt
first_fits (b ∷ rest) =
    if_some (λ f. f.1 ≤ length (b ∷ rest)) (is_identifier_start b) (Some (kind.Name, prefix_len is_identifier_continue rest + 1)) (if is_quote b then quoted rest else mark (double_mark b rest) (single_mark b))
    (omega (arith, prefix_len-le-length is_identifier_continue rest))
    (if_some (λ f. f.1 ≤ length (b ∷ rest)) (is_quote b) (quoted rest) (mark (double_mark b rest) (single_mark b))
    (quoted_by rest (position is_quote rest) refl) (mark_fits (length rest) (double_mark b rest) (single_mark b) (double_some b rest)))

-- how far lexemes go is within
past_within : (n : ℕ) (found : Option (Kind × ℕ)) (others : ℕ → ℕ) → ((m : ℕ) → others m ≤ n) → past found others ≤ n + 1
past_within n None others h = omega arith
past_within n (Some f) others h = let here = h (f.1 - 1) in omega (arith, here)

either_within : (b : Bool) (x y n : ℕ) → x ≤ n → y ≤ n → (if b then x else y) ≤ n
either_within true x y n h k = h
either_within false x y n h k = k

from_within : (skip : ℕ) (bytes : List ℕ) → lexed_from skip bytes ≤ length bytes
from_within skip [] = omega arith
from_within (suc skip) (b ∷ rest) = let more = from_within skip rest in omega (arith, more)
from_within zero (b ∷ rest) =
    let more = from_within 0 rest in
    let beyond : past (first (b ∷ rest)) (λ m. lexed_from m rest) ≤ length rest + 1 = past_within (length rest) (first (b ∷ rest)) (λ m. lexed_from m rest) (λ m. from_within m rest) in
    either_within (is_blank b) (lexed_from 0 rest + 1) (past (first (b ∷ rest)) (λ m. lexed_from m rest)) (length (b ∷ rest)) (omega (arith, more)) (omega (arith, beyond))

lexed_within : (line : TextLine) (start end : ℕ) → start ≤ end → end ≤ length line.text → (start ≤ lexed_to line start end) × (lexed_to line start end ≤ length line.text)
unfolding lexed_to
lexed_within line start end ordered h =
    let more = from_within 0 (drop start (take end line.text)) in
    (omega arith, omega (arith, ordered, h, more, length-drop start (take end line.text), length-take end line.text))

module _ (path text : List ℕ) (line : TextLine) where
  abbrev Part : Place → Type 0
  Part token = IsPart path text line token

  abbrev Parts : List Lexeme → Type 0
  Parts [] = Unit {0}
  Parts (l ∷ rest) = Part l.token × Parts rest

  abbrev IfParts : Option (List Lexeme) → Type 0
  IfParts None = Unit {0}
  IfParts (Some all) = Parts all

  and_part : (found : Kind × ℕ) (at : ℕ) (o : Option (List Lexeme)) → at + found.1 ≤ length line.text → IfParts o
      → IfParts (option_map (λ ls. record { kind = found.0; token = lexeme_place path text line at found.1 } ∷ ls) o)
  and_part found at None h ps = tt
  and_part found at (Some ls) h ps = (record { within = h; is = refl }, ps)

  before_parts : (at n : ℕ) (found : Option (Kind × ℕ)) (others : ℕ → Option (List Lexeme)) → at + n ≤ length line.text → Fits n found → ((m : ℕ) → IfParts (others m))
      → IfParts (before (lexeme_place path text line) at found others)
  before_parts at n None others h fits more = tt
  before_parts at n (Some found) others h fits more = and_part found at (others (found.1 - 1)) (omega (arith, h, fits)) (more (found.1 - 1))

  either_parts : (b : Bool) (x y : Option (List Lexeme)) → IfParts x → IfParts y → IfParts (if b then x else y)
  either_parts true x y h k = h
  either_parts false x y h k = k

  from_parts : (at skip : ℕ) (bytes : List ℕ) → at + length bytes ≤ length line.text → IfParts (lexemes_from (lexeme_place path text line) at skip bytes)
  from_parts at skip [] h = tt
  from_parts at (suc skip) (b ∷ rest) h = from_parts (at + 1) skip rest (omega (arith, h))
  from_parts at zero (b ∷ rest) h =
      either_parts (is_blank b) (lexemes_from (lexeme_place path text line) (at + 1) 0 rest) (before (lexeme_place path text line) at (first (b ∷ rest)) (λ more. lexemes_from (lexeme_place path text line) (at + 1) more rest))
      (from_parts (at + 1) 0 rest (omega (arith, h)))
      (before_parts at (length (b ∷ rest)) (first (b ∷ rest)) (λ more. lexemes_from (lexeme_place path text line) (at + 1) more rest) h (first_fits (b ∷ rest))
      (λ more. from_parts (at + 1) more rest (omega (arith, h))))

  lexemes_parts : (start end : ℕ) → start ≤ end → end ≤ length line.text → IfParts (lexemes path text line start end)
  unfolding lexemes
  lexemes_parts start end ordered h = from_parts start 0 (drop start (take end line.text)) (omega (arith, ordered, h, length-drop start (take end line.text), length-take end line.text))

  nothing_parts : (o : Option (List Lexeme)) → IfParts o → Parts (or_nothing o)
  nothing_parts None ps = tt
  nothing_parts (Some all) ps = ps

  stands_part : (rest : Place) (ls : List Lexeme) (k : ℕ) → Part rest → Parts ls → Part (or_rest rest (slice_get ls k))
  stands_part rest [] k last ps = last
  stands_part rest (l ∷ ls) zero last ps = ps.0
  stands_part rest (l ∷ ls) (suc k) last ps = stands_part rest ls k last ps.1

  rest_part : (at : ℕ) → at ≤ length line.text → Part (rest_of path text line at)
  rest_part at h = record { within = omega (arith, h); is = refl }

  told_part : (start end at : ℕ) → start ≤ end → end ≤ length line.text → Part (told_at path text line start end at)
  told_part start end at ordered h =
      stands_part (rest_of path text line end) (lexemes_between path text line start end) at (rest_part end h)
      (nothing_parts (lexemes path text line start end) (lexemes_parts start end ordered h))

  pub stop_part : IsPart path text line (line_stop path text line)
  unfolding line_stop
  stop_part =
      let w = lexed_within line 0 (length line.text) (omega arith) (omega arith) in
      told_part 0 (lexed_to line 0 (length line.text)) (stop (lexemes_between path text line 0 (lexed_to line 0 (length line.text)))) w.0 w.1

  -- of a line of a body
  expression_part : (start end : ℕ) → start ≤ end → end ≤ length line.text → Part (expression_stop path text line start end)
  unfolding expression_stop
  expression_part start end ordered h =
      let w = lexed_within line start end ordered h in
      told_part start (lexed_to line start end) (stop_place (whole_end (lexemes_between path text line start (lexed_to line start end)) 0)) w.0 w.1

  inner_within : (inner : ℕ) (o : Option ℕ) → inner ≤ length line.text → IfSome o (λ n. n + 2 ≤ length (drop inner line.text)) → (inner ≤ end_or_line line inner o) × (end_or_line line inner o ≤ length line.text)
  inner_within inner None h found = (h, omega arith)
  inner_within inner (Some n) h found = (omega arith, omega (arith, h, found, length-drop inner line.text))

  in_part : (o : Option ℕ) → IfSome o (λ k. None ≡ part path text line k) → Part (stop_in path text line o)
  in_part None h = rest_part (length line.text) (omega arith)
  in_part (Some at) h =
      let w = inner_within (at + 2) (close_at (drop (at + 2) line.text)) (opens_within line at (opens path text line at h)) (closing_within (drop (at + 2) line.text) (close_at (drop (at + 2) line.text)) refl) in
      expression_part (at + 2) (inner_end line (at + 2)) w.0 w.1

  pub body_part : (start : ℕ) → IsPart path text line (body_stop path text line start)
  unfolding body_stop
  body_part start = in_part (bad_part path text line start) (bad_part_is path text line start)

-- What reads as an attribute is read to its end as one.
use Rattle.std.proofs.Common.{inl, inr, zero, suc, ◌≡◌, ℕ, ◌+◌, ◌<◌, ◌≤◌, sym, ◌∙◌, ap, refl, subst, List, length, Bool, true, false, arith, Option, Some, None, Result, Ok, Err}
use Rattle.std.specs.Prelude.{IfSome, if◌then◌else◌, ◌==◌, ◌&&◌, not, codes, is_some, is_ok}
use Rattle.std.specs.List.{slice_get}
use Rattle.std.specs.Option.{option_map}
use Rattle.std.specs.Str.{bytes_eq}
use Rattle.std.proofs.lemmas.Bool.{cases_lt, false≢true}
use Rattle.std.proofs.lemmas.List.{drop_all}
use Rattle.std.proofs.lemmas.Slice.Eq.{bytes_eq-Decides}
use Rattle.just_names.specs.Token.{Place, lexeme}
use Rattle.just_names.specs.declared.name.Name.{Name}
use Rattle.just_ast_definitions.specs.declared.attribute.Attribute.{Attribute}
use Rattle.just_ast_definitions.specs.declared.attribute.Attribute.TheVariants as attributes
use Rattle.just_ast_expressions.specs.declared.expression.Expression.{Expression}
use Rattle.just_ast_expressions.specs.declared.string_literal.StringLiteral.{StringLiteral}
use Rattle.just_bench_expressions.specs.declared.expressions.Found.{Found}
use Rattle.just_bench_expressions.specs.declared.lexer.Kind.{Kind}
use Rattle.just_bench_expressions.specs.declared.lexer.Kind.TheVariants as kind
use Rattle.just_bench_expressions.specs.declared.lexer.Lexeme.{Lexeme}
use Rattle.just_bench_expressions.specs.Expressions.{EndsWith, expression, expression_end}
use Rattle.just_bench_expressions.proofs.Ending.{expression_agrees}
use Rattle.just_bench_expressions.proofs.Reading.{expression_from}
use Rattle.just_bench_lines.specs.declared.attributes.Mark.{Mark}
use Rattle.just_bench_lines.specs.declared.attributes.Properties.{Properties}
use Rattle.just_bench_lines.specs.Attributes as lines
use Rattle.just_bench_lines.specs.Definitions.{after_part}
use Rattle.just_bench_lines.specs.Places.{is_bracket_close, is_bracket_open, is_equals, is_paren_close, is_paren_open, is_quoted, literal, literal_at, read_name_at, quoted_there, stands, stands_there}
use Rattle.just_bench_lines.proofs.Props.{Props, props_end, props_fail, props_start, props_step, props_stuck}
use Rattle.just_bench_stops.specs.declared.attributes.Seen.{Seen}
use Rattle.just_bench_stops.specs.declared.halt.Halt.TheVariants as halt
use Rattle.just_bench_stops.specs.Attributes as ends
use Rattle.just_bench_stops.specs.Marks.{goes_on_from, line_end, mark_end}
use Rattle.just_bench_stops.specs.Parts.{after_part_end}
use Rattle.just_bench_stops.proofs.Ends.{chosen, quoted}
use Rattle.just_bench_stops.proofs.Functions.{Follows, follows, next_within}
use Rattle.just_bench_stops.proofs.Properties.{Said, properties_fail, properties_past, properties_push, properties_start, properties_stop}

-- the end of the line, and what stands before it
line_by : (b : Bool) (at : ℕ) → is_ok {T = ℕ} {E = ℕ} (if b then Ok at else Err at) ≡ b
line_by true at = refl
line_by false at = refl

tested : (b c : Bool) (at end : ℕ) (more : ℕ → Result ℕ ℕ) → is_ok (more end) ≡ c → is_ok (goes_on_from (if b then Ok end else Err at) more) ≡ (if b then c else false)
tested true c at end more h = h
tested false c at end more h = refl

bracket_is : (all : List Lexeme) (at : ℕ) → is_ok (ends.bracket_end all at) ≡ lines.ends_at all at
bracket_is all at = tested (stands is_bracket_close all at) (at + 1 == length all) at (at + 1) (line_end all) (line_by (at + 1 == length all) (at + 1))

paren_is : (all : List Lexeme) (at : ℕ) → is_ok (ends.paren_end all at) ≡ lines.closes_at all at
paren_is all at = tested (stands is_paren_close all at) (lines.ends_at all (at + 1)) at (at + 1) (ends.bracket_end all) (bracket_is all (at + 1))

some_by : {A : Type 0} (b : Bool) (x : A) → is_some (if b then Some x else None) ≡ b
some_by true x = refl
some_by false x = refl

marked_is : (name : Name) (o : Option (Attribute Expression)) → is_some (lines.marked name o) ≡ is_some o
marked_is name None = refl
marked_is name (Some it) = refl

groups : (all : List Lexeme) → is_some (lines.group_in_line all 3) ≡ is_ok (goes_on_from (mark_end is_quoted all 3) (ends.paren_end all))
unfolding lines.group_in_line
groups all = quoted all 3 (lines.group_attribute all 3) (ends.paren_end all) refl (λ text. some_by (lines.closes_at all 4) (attributes.Group text) ∙ sym (paren_is all 4))

doc_by : (all : List Lexeme) (found : Option Found) (end : Result ℕ ℕ) → EndsWith found end → is_some (lines.doc_attribute all found) ≡ is_ok (goes_on_from end (ends.paren_end all))
doc_by all None (Ok end) same = absurd same
doc_by all None (Err at) same = refl
doc_by all (Some found) (Err at) same = absurd same
doc_by all (Some found) (Ok end) same =
    subst (λ n. is_some (lines.doc_attribute all (Some found)) ≡ is_ok (ends.paren_end all n)) same (some_by (lines.closes_at all found.end) (attributes.Doc (Some found.made)) ∙ sym (paren_is all found.end))

docs : (all : List Lexeme) → is_some (lines.doc all 3) ≡ is_ok (goes_on_from (expression_end true all 3) (ends.paren_end all))
unfolding lines.doc
docs all = doc_by all (expression true all 3) (expression_end true all 3) (expression_agrees true all 3)

-- what was seen is what was said
record Same (p : Properties) (s : Seen) : Type 0 where
  long : is_some p.long ≡ s.long
  short : is_some p.short ≡ s.short
  flag : p.flag ≡ s.flag
  pattern : is_some p.pattern ≡ s.pattern

-- what an attribute says at a place, and how far that goes
abbrev Agree : ℕ → Option (Properties × ℕ) → Result (ℕ × Seen) ℕ → Type 0
Agree at None (Err stop) = Unit {0}
Agree at None (Ok end) = ⊥
Agree at (Some found) (Err stop) = ⊥
Agree at (Some found) (Ok end) = (found.1 ≡ end.0) × Same found.0 end.1 × (at < found.1)

abbrev Value : Option StringLiteral → Result ℕ ℕ → ℕ → Type 0
Value None (Err stop) at = Unit {0}
Value None (Ok end) at = ⊥
Value (Some value) (Err stop) at = ⊥
Value (Some value) (Ok end) at = end ≡ at

quoted_by : (b : Bool) (token : Place) (at : ℕ) → Value (option_map literal (if b then Some token else None)) (if b then Ok (at + 1) else Err at) (at + 1)
quoted_by true token at = refl
quoted_by false token at = tt

quoted_value : (o : Option Lexeme) (at : ℕ) → Value (option_map literal (quoted_there o)) (if stands_there is_quoted o then Ok (at + 1) else Err at) (at + 1)
quoted_value None at = tt
quoted_value (Some l) at = quoted_by (is_quoted l.kind) l.token at

value_by : (b : Bool) (all : List Lexeme) (at : ℕ) → Value (if b then literal_at all (at + 1) else None) (goes_on_from (if b then Ok (at + 1) else Err at) (mark_end is_quoted all)) (at + 1 + 1)
value_by true all at = quoted_value (slice_get all (at + 1)) (at + 1)
value_by false all at = tt

values : (all : List Lexeme) (at : ℕ) → Value (lines.value_at all at) (ends.value_end all at) (at + 1 + 1)
values all at = value_by (stands is_equals all at) all at

-- a text of one character
abbrev Letter : Option ℕ → Result ℕ ℕ → ℕ → Type 0
Letter None (Err stop) at = Unit {0}
Letter None (Ok end) at = ⊥
Letter (Some c) (Err stop) at = ⊥
Letter (Some c) (Ok end) at = end ≡ at

letter_of : (c : Option ℕ) (at : ℕ) → Letter c (if is_some c then Ok (at + 1) else Err at) (at + 1)
letter_of None at = tt
letter_of (Some c) at = refl

letter_by : (b : Bool) (all : List Lexeme) (at : ℕ)
    → Letter (lines.char_of (if b then literal_at all (at + 1) else None)) (goes_on_from (if b then Ok (at + 1) else Err at) (λ at. if is_some (lines.char_of (literal_at all at)) then Ok (at + 1) else Err at)) (at + 1 + 1)
letter_by true all at = letter_of (lines.char_of (literal_at all (at + 1))) (at + 1)
letter_by false all at = tt

letters : (all : List Lexeme) (at : ℕ) → Letter (lines.char_of (lines.value_at all at)) (ends.letter_end all at) (at + 1 + 1)
letters all at = letter_by (stands is_equals all at) all at

-- once
unless : (b c : Bool) (at : ℕ) (x : Option (Properties × ℕ)) (y : Result (ℕ × Seen) ℕ) → c ≡ b → Agree at x y → Agree at (if c then None else x) (if not b then y else Err at)
unless true true at x y same h = tt
unless false false at x y same h = h
unless true false at x y same h = absurd (false≢true same)
unless false true at x y same h = absurd (false≢true (sym same))

neither : (b : Bool) (at stop : ℕ) (seen : Seen) → Agree at None (if not b then ends.with_seen seen (Err stop) else Err at)
neither true at stop seen = tt
neither false at stop seen = tt

long_agree : (at : ℕ) (p : Properties) (s : Seen) (o : Option StringLiteral) (r : Result ℕ ℕ) → Same p s → Value o r (at + 1 + 1 + 1)
    → Agree at (lines.long_by (at + 1) p o) (if not s.long then ends.with_seen (record s { long = true }) r else Err at)
long_agree at p s None (Ok end) same v = absurd v
long_agree at p s None (Err stop) same v = neither s.long at stop (record s { long = true })
long_agree at p s (Some value) (Err stop) same v = absurd v
long_agree at p s (Some value) (Ok end) same v =
    unless s.long (is_some p.long) at (Some (record p { long = Some value.cooked }, at + 1 + 2)) (Ok (end, record s { long = true })) same.long
    (omega (arith, v), record { long = refl; short = same.short; flag = same.flag; pattern = same.pattern }, omega arith)

short_agree : (at : ℕ) (p : Properties) (s : Seen) (o : Option ℕ) (r : Result ℕ ℕ) → Same p s → Letter o r (at + 1 + 1 + 1)
    → Agree at (lines.short_by (at + 1) p o) (if not s.short then ends.with_seen (record s { short = true }) r else Err at)
short_agree at p s None (Ok end) same v = absurd v
short_agree at p s None (Err stop) same v = neither s.short at stop (record s { short = true })
short_agree at p s (Some value) (Err stop) same v = absurd v
short_agree at p s (Some value) (Ok end) same v =
    unless s.short (is_some p.short) at (Some (record p { short = Some value }, at + 1 + 2)) (Ok (end, record s { short = true })) same.short
    (omega (arith, v), record { long = same.long; short = refl; flag = same.flag; pattern = same.pattern }, omega arith)

flag_agree : (at : ℕ) (p : Properties) (s : Seen) → Same p s → Agree at (lines.with_flag (at + 1) p) (if not s.flag then Ok (at + 1, record s { flag = true }) else Err at)
flag_agree at p s same =
    unless s.flag p.flag at (Some (record p { flag = true }, at + 1)) (Ok (at + 1, record s { flag = true })) same.flag
    (refl, record { long = same.long; short = same.short; flag = refl; pattern = same.pattern }, omega arith)

found_agree : (at : ℕ) (key : Name) (p : Properties) (s : Seen) (found : Option Found) (end : Result ℕ ℕ) → Same p s → EndsWith found end → IfSome found (λ f. at + 1 + 1 + 1 ≤ f.end)
    → Agree at (lines.read_pattern key p found) (ends.with_seen (record s { pattern = true }) end)
found_agree at key p s None (Ok end) same e from = absurd e
found_agree at key p s None (Err stop) same e from = tt
found_agree at key p s (Some found) (Err stop) same e from = absurd e
found_agree at key p s (Some found) (Ok end) same e from = (e, record { long = same.long; short = same.short; flag = same.flag; pattern = refl }, omega (arith, from))

equals_agree : (b : Bool) (all : List Lexeme) (at : ℕ) (key : Name) (p : Properties) (s : Seen) → Same p s
    → Agree at (if b then lines.read_pattern key p (expression true all (at + 1 + 1)) else None) (ends.with_seen (record s { pattern = true }) (goes_on_from (if b then Ok (at + 1 + 1) else Err (at + 1)) (expression_end true all)))
equals_agree true all at key p s same =
    found_agree at key p s (expression true all (at + 1 + 1)) (expression_end true all (at + 1 + 1)) same (expression_agrees true all (at + 1 + 1)) (expression_from true all (at + 1 + 1))
equals_agree false all at key p s same = tt

pattern_agree : (all : List Lexeme) (at : ℕ) (key : Name) (p : Properties) (s : Seen) → Same p s
    → Agree at (lines.with_pattern all key (at + 1) p) (if not s.pattern then ends.with_seen (record s { pattern = true }) (ends.pattern_end all (at + 1)) else Err at)
pattern_agree all at key p s same =
    unless s.pattern (is_some p.pattern) at (if stands is_equals all (at + 1) then lines.read_pattern key p (expression true all (at + 1 + 1)) else None)
    (ends.with_seen (record s { pattern = true }) (ends.pattern_end all (at + 1))) same.pattern (equals_agree (stands is_equals all (at + 1)) all at key p s same)

-- by its word, of which it is one
module _ (at : ℕ) (y1 y2 y3 y4 : Result (ℕ × Seen) ℕ) (a b c d : Bool) where
  fourth : (p : Bool) (x4 : Option (Properties × ℕ)) → Agree at x4 (if not d then y4 else Err at) → Agree at (if p then x4 else None) (if p && not d then y4 else Err at)
  fourth true x4 h = h
  fourth false x4 h = tt

  abbrev from_fourth : Bool → Result (ℕ × Seen) ℕ
  from_fourth p = if p && not d then y4 else Err at

  third : (f p : Bool) (x3 x4 : Option (Properties × ℕ)) → (f ≡ true → p ≡ false) → Agree at x3 (if not c then y3 else Err at) → Agree at x4 (if not d then y4 else Err at)
      → Agree at (if f then x3 else (if p then x4 else None)) (if f && not c then y3 else from_fourth p)
  third true p x3 x4 only h k = subst (λ q. Agree at x3 (if not c then y3 else from_fourth q)) (sym (only refl)) h
  third false p x3 x4 only h k = fourth p x4 k

  abbrev from_third : Bool → Bool → Result (ℕ × Seen) ℕ
  from_third f p = if f && not c then y3 else from_fourth p

  second : (s f p : Bool) (x2 x3 x4 : Option (Properties × ℕ)) → (s ≡ true → (f ≡ false) × (p ≡ false)) → (f ≡ true → p ≡ false)
      → Agree at x2 (if not b then y2 else Err at) → Agree at x3 (if not c then y3 else Err at) → Agree at x4 (if not d then y4 else Err at)
      → Agree at (if s then x2 else (if f then x3 else (if p then x4 else None))) (if s && not b then y2 else from_third f p)
  second true f p x2 x3 x4 only more h k m =
      let o = only refl in
      subst (λ q. Agree at x2 (if not b then y2 else from_third q p)) (sym o.0) (subst (λ q. Agree at x2 (if not b then y2 else from_third false q)) (sym o.1) h)
  second false f p x2 x3 x4 only more h k m = third f p x3 x4 more k m

  abbrev from_second : Bool → Bool → Bool → Result (ℕ × Seen) ℕ
  from_second s f p = if s && not b then y2 else from_third f p

  first : (l s f p : Bool) (x1 x2 x3 x4 : Option (Properties × ℕ)) → (l ≡ true → (s ≡ false) × (f ≡ false) × (p ≡ false)) → (s ≡ true → (f ≡ false) × (p ≡ false)) → (f ≡ true → p ≡ false)
      → Agree at x1 (if not a then y1 else Err at) → Agree at x2 (if not b then y2 else Err at) → Agree at x3 (if not c then y3 else Err at) → Agree at x4 (if not d then y4 else Err at)
      → Agree at (if l then x1 else (if s then x2 else (if f then x3 else (if p then x4 else None)))) (if l && not a then y1 else from_second s f p)
  first true s f p x1 x2 x3 x4 only more last h k m n =
      let o = only refl in
      subst (λ q. Agree at x1 (if not a then y1 else from_second q f p)) (sym o.0)
      (subst (λ q. Agree at x1 (if not a then y1 else from_second false q p)) (sym o.1) (subst (λ q. Agree at x1 (if not a then y1 else from_second false false q)) (sym o.2) h))
  first false s f p x1 x2 x3 x4 only more last h k m n = second s f p x2 x3 x4 more last k m n

-- a word is no other one
other : (w one two : List ℕ) (b : Bool) → bytes_eq one two ≡ b → bytes_eq w one ≡ true → bytes_eq w two ≡ b
other w one two b differ h = ap (λ t. bytes_eq t two) ((bytes_eq-Decides w one).0 h) ∙ differ

key_agree : (all : List Lexeme) (at : ℕ) (p : Properties) (s : Seen) (key : Option Name) → Same p s → Agree at (lines.by_key all at p key) (ends.property_end_of all at s key)
key_agree all at p s None same = tt
key_agree all at p s (Some key) same =
    let w = lexeme key.token in
    first at (ends.with_seen (record s { long = true }) (ends.value_end all (at + 1))) (ends.with_seen (record s { short = true }) (ends.letter_end all (at + 1)))
    (Ok (at + 1, record s { flag = true })) (ends.with_seen (record s { pattern = true }) (ends.pattern_end all (at + 1))) s.long s.short s.flag s.pattern
    (bytes_eq w (codes "long")) (bytes_eq w (codes "short")) (bytes_eq w (codes "flag")) (bytes_eq w (codes "pattern"))
    (lines.with_long all (at + 1) p) (lines.with_short all (at + 1) p) (lines.with_flag (at + 1) p) (lines.with_pattern all key (at + 1) p)
    (λ h. (other w (codes "long") (codes "short") false refl h, other w (codes "long") (codes "flag") false refl h, other w (codes "long") (codes "pattern") false refl h))
    (λ h. (other w (codes "short") (codes "flag") false refl h, other w (codes "short") (codes "pattern") false refl h))
    (λ h. other w (codes "flag") (codes "pattern") false refl h)
    (long_agree at p s (lines.value_at all (at + 1)) (ends.value_end all (at + 1)) same (values all (at + 1)))
    (short_agree at p s (lines.char_of (lines.value_at all (at + 1))) (ends.letter_end all (at + 1)) same (letters all (at + 1)))
    (flag_agree at p s same) (pattern_agree all at key p s same)

property_agree : (all : List Lexeme) (at : ℕ) (p : Properties) (s : Seen) → Same p s → Agree at (lines.with_property all at p) (ends.property_end_of all at s (read_name_at all at))
unfolding lines.with_property
property_agree all at p s same = key_agree all at p s (read_name_at all at) same

-- what stands in the parentheses goes up to the `)`
abbrev Closes : List Lexeme → Option (Properties × ℕ) → Result ℕ ℕ → Type 0
Closes all None (Err at) = Unit {0}
Closes all None (Ok at) = ⊥
Closes all (Some found) (Err at) = ⊥
Closes all (Some found) (Ok at) = (found.1 ≡ at) × (stands is_paren_close all at ≡ true)

module _ (all : List Lexeme) (start : ℕ) where
  abbrev whole : Option (Properties × ℕ)
  whole = lines.with_properties all start lines.no_properties

  abbrev end : Result ℕ ℕ
  end = ends.properties_end all start

  none_both : (o : Option (Properties × ℕ)) (r : Result ℕ ℕ) (at : ℕ) → None ≡ o → Err at ≡ r → Closes all o r
  none_both o r at none is = subst (λ q. Closes all q r) none (subst (Closes all None) is tt)

  some_both : (o : Option (Properties × ℕ)) (r : Result ℕ ℕ) (found : Properties × ℕ) (at : ℕ) → Some found ≡ o → Ok at ≡ r → found.1 ≡ at → stands is_paren_close all at ≡ true → Closes all o r
  some_both o r found at some is same close = subst (λ q. Closes all q r) some (subst (Closes all (Some found)) is (same, close))

  with_next : (at : ℕ) (s : Seen) (r : Result (ℕ × Seen) ℕ) → r ≡ ends.property_end_of all at s (read_name_at all at) → ends.with_after all r ≡ ends.property_end all at s
  unfolding ends.property_end
  with_next at s r is = ap (ends.with_after all) is

  abbrev More : ℕ → Type 0
  More at = (next : ℕ) (p : Properties) (s : Seen) → at < next → Props all whole next p → Said all start next s → Same p s → Closes all whole end

  behind : (at : ℕ) (p q : Properties) (s t : Seen) (stop : ℕ) (next : Option ℕ) → at < length all → Props all whole at p → Said all start at s → stands is_paren_close all at ≡ false
      → Some (q, stop) ≡ lines.with_property all at p → Ok (stop, t) ≡ ends.property_end_of all at s (read_name_at all at) → Same q t → at < stop → next ≡ after_part all stop → Follows next (after_part_end all stop) → More at → Closes all whole end
  behind at p q s t stop None within so_far said sharp is gone same onward goes follows more =
      none_both whole end follows.0 (props_stuck all whole at p q stop so_far sharp is goes)
      (properties_fail all start at (halt.At follows.0) s s said within sharp (ap (ends.with_seen t) follows.1 ∙ with_next at s (Ok (stop, t)) gone))
  behind at p q s t stop (Some next) within so_far said sharp is gone same onward goes follows more =
      let w = next_within all stop next follows in
      more next q t (omega (arith, onward, w.0)) (props_step all whole at p q stop next so_far sharp is goes onward w.0 w.1)
      (properties_push all start at next s t said within sharp (ap (ends.with_seen t) follows ∙ with_next at s (Ok (stop, t)) gone) (record { onward = omega (arith, onward, w.0); within = w.1 })) same

  property_both : (at : ℕ) (p : Properties) (s : Seen) (o : Option (Properties × ℕ)) (r : Result (ℕ × Seen) ℕ) → at < length all → Props all whole at p → Said all start at s → stands is_paren_close all at ≡ false
      → o ≡ lines.with_property all at p → r ≡ ends.property_end_of all at s (read_name_at all at) → Agree at o r → More at → Closes all whole end
  property_both at p s None (Ok found) within so_far said sharp is gone agree more = absurd agree
  property_both at p s None (Err stop) within so_far said sharp is gone agree more =
      none_both whole end stop (props_fail all whole at p so_far sharp is) (properties_fail all start at (halt.At stop) s s said within sharp (with_next at s (Err stop) gone))
  property_both at p s (Some found) (Err stop) within so_far said sharp is gone agree more = absurd agree
  property_both at p s (Some found) (Ok stop) within so_far said sharp is gone agree more =
      behind at p found.0 s stop.1 found.1 (after_part all found.1) within so_far said sharp is (subst (λ n. Ok (n, stop.1) ≡ ends.property_end_of all at s (read_name_at all at)) (sym agree.0) gone)
      agree.1 agree.2 refl (follows all found.1) more

  at_close : (at : ℕ) (p : Properties) (s : Seen) (b : Bool) → at < length all → Props all whole at p → Said all start at s → Same p s → stands is_paren_close all at ≡ b → More at → Closes all whole end
  at_close at p s true within so_far said same close more =
      some_both whole end (p, at) at (props_end all whole at p so_far within close) (properties_stop all start at s said within close) refl close
  at_close at p s false within so_far said same close more =
      property_both at p s (lines.with_property all at p) (ends.property_end_of all at s (read_name_at all at)) within so_far said close refl refl (property_agree all at p s same) more

  past : (at : ℕ) (p : Properties) (s : Seen) → length all ≤ at → Props all whole at p → Said all start at s → Closes all whole end
  past at p s out so_far said = none_both whole end at (sym (so_far.is ∙ ap (lines.properties_from all at 0 p) (drop_all at all out))) (properties_past all start at s said out)

  walk : (n at : ℕ) (p : Properties) (s : Seen) → length all ≤ at + n → Props all whole at p → Said all start at s → Same p s → Closes all whole end
  walk zero at p s h so_far said same = past at p s (omega (arith, h)) so_far said
  walk (suc n) at p s h so_far said same = elim (cases_lt at (length all)) [
    | inl within ↦ at_close at p s (stands is_paren_close all at) within so_far said same refl (λ next q t less read seen more. walk n next q t (omega (arith, h, less)) read seen more)
    | inr out ↦ past at p s (omega (arith, out)) so_far said
  ]

  properties_both : Closes all whole end
  properties_both =
      walk (length all) start lines.no_properties ends.unseen (omega arith) (props_start all start lines.no_properties) (properties_start all start ends.unseen refl)
      (record { long = refl; short = refl; flag = refl; pattern = refl })

-- an attribute of a parameter
if_true : {A : Type 0} (b : Bool) (x y : A) → b ≡ true → (if b then x else y) ≡ x
if_true true x y h = refl
if_true false x y h = absurd (false≢true h)

arg_end_by : (all : List Lexeme) (name : Name) (parameter : StringLiteral) (o : Option (Properties × ℕ)) (r : Result ℕ ℕ) → Closes all o r → is_some (lines.arg_ends all name parameter o) ≡ is_ok (goes_on_from r (ends.paren_end all))
arg_end_by all name parameter None (Ok at) c = absurd c
arg_end_by all name parameter None (Err at) c = refl
arg_end_by all name parameter (Some found) (Err at) c = absurd c
arg_end_by all name parameter (Some found) (Ok at) c =
    some_by (lines.ends_at all (found.1 + 1)) (lines.made_arg name parameter parameter.cooked found.0)
    ∙ ap (λ n. lines.ends_at all (n + 1)) c.0 ∙ sym (paren_is all at ∙ if_true (stands is_paren_close all at) (lines.ends_at all (at + 1)) false c.1)

arg_next : (all : List Lexeme) (name : Name) (parameter : StringLiteral) (next : Option ℕ) (r : Result ℕ ℕ) → Follows next r
    → is_some (lines.arg_from all name parameter next) ≡ is_ok (goes_on_from r (λ at. goes_on_from (ends.properties_end all at) (ends.paren_end all)))
arg_next all name parameter None r follows = ap (λ q. is_ok (goes_on_from q (λ at. goes_on_from (ends.properties_end all at) (ends.paren_end all)))) follows.1
arg_next all name parameter (Some next) r follows =
    arg_end_by all name parameter (lines.with_properties all next lines.no_properties) (ends.properties_end all next) (properties_both all next)
    ∙ ap (λ q. is_ok (goes_on_from q (λ at. goes_on_from (ends.properties_end all at) (ends.paren_end all)))) follows

args : (all : List Lexeme) (name : Name) → is_some (lines.arg all name 3) ≡ is_ok (ends.arg_end all 3)
unfolding lines.arg
args all name =
    quoted all 3 (lines.arg_of all name 3) (λ at. goes_on_from (after_part_end all at) (λ at. goes_on_from (ends.properties_end all at) (ends.paren_end all))) refl
    (λ parameter. arg_next all name parameter (after_part all 4) (after_part_end all 4) (follows all 4))

-- an attribute by its word
some_either : {A : Type 0} (b : Bool) (x y : Option A) → is_some x ≡ false → is_some (if b then x else y) ≡ (if b then false else is_some y)
some_either true x y h = h
some_either false x y h = refl

close_is_no_open : (k : Kind) → is_bracket_close k ≡ true → is_paren_open k ≡ false
close_is_no_open kind.BracketClose h = refl
close_is_no_open _ h = absurd (false≢true h)

no_open_there : (o : Option Lexeme) → stands_there is_bracket_close o ≡ true → stands_there is_paren_open o ≡ false
no_open_there None h = refl
no_open_there (Some l) h = close_is_no_open l.kind h

ends_by : (b c : Bool) → (if b then c else false) ≡ true → b ≡ true
ends_by true c h = refl
ends_by false c h = h

-- where it ends behind its word, nothing stands in parentheses
paren_only : {A : Type 0} (b p : Bool) (x y : Option A) → is_some x ≡ false → (b ≡ true → p ≡ false) → is_some (if b then x else (if p then y else None)) ≡ is_some (if p then y else None)
paren_only true p x y none shut = none ∙ sym (ap (λ q. is_some (if q then y else None)) (shut refl))
paren_only false p x y none shut = refl

no_mark : (b : Bool) → ◌≡◌ {A = Option Mark} (if b then None else None) None
no_mark true = refl
no_mark false = refl

argument_by : (all : List Lexeme) (name : Name) (g d a : Bool)
    → is_some (if stands is_paren_open all 2 then (if g then lines.marked name (lines.group_in_line all 3) else (if d then lines.marked name (lines.doc all 3) else (if a then lines.arg all name 3 else None))) else None)
    ≡ is_ok (if g then goes_on_from (mark_end is_paren_open all 2) (λ at. goes_on_from (mark_end is_quoted all at) (ends.paren_end all))
    else (if d then goes_on_from (mark_end is_paren_open all 2) (λ at. goes_on_from (expression_end true all at) (ends.paren_end all))
    else (if a then goes_on_from (mark_end is_paren_open all 2) (ends.arg_end all) else Err 1)))
argument_by all name true d a =
    chosen (stands is_paren_open all 2) (lines.marked name (lines.group_in_line all 3)) 2 3 (λ at. goes_on_from (mark_end is_quoted all at) (ends.paren_end all)) (marked_is name (lines.group_in_line all 3) ∙ groups all)
argument_by all name false true a =
    chosen (stands is_paren_open all 2) (lines.marked name (lines.doc all 3)) 2 3 (λ at. goes_on_from (expression_end true all at) (ends.paren_end all)) (marked_is name (lines.doc all 3) ∙ docs all)
argument_by all name false false true = chosen (stands is_paren_open all 2) (lines.arg all name 3) 2 3 (ends.arg_end all) (args all name)
argument_by all name false false false = ap is_some (no_mark (stands is_paren_open all 2))

-- a word alone has nothing in parentheses
no_argument : (w it : List ℕ) → is_some (lines.word_alone it) ≡ false → is_some (lines.word_alone w) ≡ true → (b : Bool) → bytes_eq w it ≡ b → b ≡ false
no_argument w it none some true is = absurd (false≢true (sym none ∙ ap (λ t. is_some (lines.word_alone t)) (sym ((bytes_eq-Decides w it).0 is)) ∙ some))
no_argument w it none some false is = refl

bare_alone : {A : Type 0} (b p g d a : Bool) (it x y z : Option A) → is_some it ≡ true → g ≡ false → d ≡ false → a ≡ false → is_some (if b then it else (if p then (if g then x else (if d then y else (if a then z else None))) else None)) ≡ b
bare_alone true p g d a it x y z some no_g no_d no_a = some
bare_alone false true g d a it x y z some no_g no_d no_a = rw (no_g, no_d, no_a) refl
bare_alone false false g d a it x y z some no_g no_d no_a = refl

word_by : (all : List Lexeme) (name : Name) (b : Bool) → is_some (lines.word_alone (lexeme name.token)) ≡ b
    → is_some (lines.attribute_of all (Some name)) ≡ is_ok (ends.attribute_end_by all (lexeme name.token))
word_by all name true is =
    let w = lexeme name.token in
    bare_alone (lines.ends_at all 2) (stands is_paren_open all 2) (bytes_eq w (codes "group")) (bytes_eq w (codes "doc")) (bytes_eq w (codes "arg"))
    (lines.marked name (lines.word_alone w)) (lines.marked name (lines.group_in_line all 3)) (lines.marked name (lines.doc all 3)) (lines.arg all name 3) (marked_is name (lines.word_alone w) ∙ is)
    (no_argument w (codes "group") refl is (bytes_eq w (codes "group")) refl) (no_argument w (codes "doc") refl is (bytes_eq w (codes "doc")) refl) (no_argument w (codes "arg") refl is (bytes_eq w (codes "arg")) refl)
    ∙ sym (bracket_is all 2) ∙ sym (ap is_ok (if_true (is_some (lines.word_alone w)) (ends.bracket_end all 2) _ is))
word_by all name false is =
    let w = lexeme name.token in
    paren_only (lines.ends_at all 2) (stands is_paren_open all 2) (lines.marked name (lines.word_alone w)) (lines.with_argument all name) (marked_is name (lines.word_alone w) ∙ is)
    (λ h. no_open_there (slice_get all 2) (ends_by (stands is_bracket_close all 2) (2 + 1 == length all) h))
    ∙ argument_by all name (bytes_eq w (codes "group")) (bytes_eq w (codes "doc")) (bytes_eq w (codes "arg"))
    ∙ ap (λ b. is_ok (if b then ends.bracket_end all 2
    else (if bytes_eq w (codes "group") then goes_on_from (mark_end is_paren_open all 2) (λ at. goes_on_from (mark_end is_quoted all at) (ends.paren_end all))
    else (if bytes_eq w (codes "doc") then goes_on_from (mark_end is_paren_open all 2) (λ at. goes_on_from (expression_end true all at) (ends.paren_end all))
    else (if bytes_eq w (codes "arg") then goes_on_from (mark_end is_paren_open all 2) (ends.arg_end all) else Err 1))))) (sym is)

named_by : (all : List Lexeme) (name : Option Name) → is_some (lines.attribute_of all name) ≡ is_ok (ends.attribute_end_of all name)
named_by all None = refl
named_by all (Some name) = word_by all name (is_some (lines.word_alone (lexeme name.token))) refl

pub attributes_agree : (all : List Lexeme) → is_some (lines.attribute all) ≡ is_ok (ends.attribute_end all)
unfolding lines.attribute ends.attribute_end
attributes_agree all = chosen (stands is_bracket_open all 0) (lines.attribute_of all (read_name_at all 1)) 0 1 (λ _. ends.attribute_end_of all (read_name_at all 1)) (named_by all (read_name_at all 1))

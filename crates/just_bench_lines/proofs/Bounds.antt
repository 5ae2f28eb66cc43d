-- Where a line of a body may be cut.
use Rattle.std.proofs.Common.{suc, zero, inl, inr, ◌≡◌, ℕ, ◌+◌, ◌-◌, ◌<◌, ◌≤◌, sym, ◌∙◌, ap, refl, subst, List, [], ◌∷◌, length, take, drop, get_or, Bool, true, false, arith, length-drop, Option, Some, None, Result, Ok, Err}
use Rattle.std.specs.Prelude.{IfOk, IfSome, if◌then◌else◌, nat_eq, ◌==◌, ◌&&◌, not}
use Rattle.std.specs.List.{prefix_len, starts_with}
use Rattle.std.specs.Option.{option_map}
use Rattle.std.specs.Str.{IsCharBoundary, IsUtf8}
use Rattle.std.specs.Cmp.Lexicographic.{same_text}
use Rattle.std.proofs.lemmas.Bool.{cases_lt, false≢true}
use Rattle.std.proofs.lemmas.List.{get_or-drop, take_all}
use Rattle.std.proofs.lemmas.List.Sums.{prefix_len-le-length, prefix_len_passes}
use Rattle.std.proofs.lemmas.Str.{IsCharBoundary-after_ascii, IsCharBoundary-before_ascii, IsCharBoundary-start}
use Rattle.just_bench_expressions.specs.declared.lines.TextLine.{TextLine}
use Rattle.just_bench_expressions.specs.Lexemes.{is_blank}
use Rattle.just_bench_expressions.specs.Lines.{IsLineOf}
use Rattle.just_bench_expressions.proofs.Lexing.{boundary_after, byte_of_line}
use Rattle.just_bench_lines.specs.declared.body.Part.{Part}
use Rattle.just_bench_lines.specs.Body.{EndsAt, close_at, close_from, closes, closes_twice, in_quotes, twice_at}

blank_is_ascii : (b : ℕ) → is_blank b ≡ true → b < 128
blank_is_ascii b h = grind arith

-- the blanks at the front of a text
front_cut : (text : List ℕ) (n : ℕ) → IsUtf8 text → n ≤ prefix_len is_blank text → IsCharBoundary text n
front_cut text zero utf8 h = IsCharBoundary-start text utf8
front_cut text (suc n) utf8 h =
    let same : n + 1 ≡ suc n = omega arith in
    subst (IsCharBoundary text) same (IsCharBoundary-after_ascii text n utf8 (omega (arith, h, prefix_len-le-length is_blank text))
    (blank_is_ascii (get_or text n 0) (prefix_len_passes is_blank text n 0 (omega (arith, h)))))

pub blanks_cut : (text : List ℕ) (blanks : ℕ) → IsUtf8 text → blanks ≡ prefix_len is_blank text → IsCharBoundary text blanks
blanks_cut text blanks utf8 h = front_cut text blanks utf8 (omega (arith, h))

pub line_cut : (text : List ℕ) (line : TextLine) (blanks n : ℕ) → IsUtf8 text → IsLineOf text line → blanks ≡ prefix_len is_blank line.text → n ≤ blanks → IsCharBoundary text (line.offset + n)
line_cut text line blanks zero utf8 of is h = let same : line.offset ≡ line.offset + 0 = omega arith in subst (IsCharBoundary text) same of.starts
line_cut text line blanks (suc n) utf8 of is h =
    let same : line.offset + 0 + suc n ≡ line.offset + suc n = omega arith in
    let last : 0 + suc n - 1 ≡ n = omega arith in
    let ascii : get_or line.text (0 + suc n - 1) 0 < 128 = rw last (blank_is_ascii (get_or line.text n 0) (prefix_len_passes is_blank line.text n 0 (omega (arith, is, h)))) in
    subst (IsCharBoundary text) same (boundary_after text line 0 (suc n) utf8 of (omega arith) (omega (arith, is, h, prefix_len-le-length is_blank line.text)) ascii)

-- what a text begins with is no longer
pub prefix_fits : (xs needle : List ℕ) → starts_with nat_eq xs needle ≡ true → length needle ≤ length xs
prefix_fits xs needle h = elim (cases_lt (length xs) (length needle)) [
  | inl less ↦ let same : needle ≡ xs = same_text needle (take (length needle) xs) (sym h) ∙ take_all (length needle) xs (omega (arith, less)) in omega (arith, less, ap length same)
  | inr fits ↦ fits
]

-- the first two that are this byte
abbrev pub TwiceAt : ℕ → List ℕ → ℕ → Type 0
TwiceAt byte bytes n = (n + 2 ≤ length bytes) × (get_or bytes n 0 ≡ byte)

same_byte : (b byte : ℕ) → (b == byte) ≡ true → b ≡ byte
same_byte b byte h = grind arith

later : (byte b : ℕ) (bytes : List ℕ) (o : Option ℕ) → IfSome o (TwiceAt byte bytes) → IfSome (option_map suc o) (TwiceAt byte (b ∷ bytes))
later byte b bytes None h = tt
later byte b bytes (Some n) h = (omega (arith, h.0), h.1)

twice_or : (byte b c : ℕ) (rest : List ℕ) (is : Bool) → (b == byte && c == byte) ≡ is → IfSome (twice_at byte (c ∷ rest)) (TwiceAt byte (c ∷ rest))
    → IfSome (if is then Some 0 else option_map suc (twice_at byte (c ∷ rest))) (TwiceAt byte (b ∷ c ∷ rest))
twice_or byte b c rest true is more = (omega arith, grind (arith, is))
twice_or byte b c rest false is more = later byte b (c ∷ rest) (twice_at byte (c ∷ rest)) more

pub twice_found : (byte : ℕ) (bytes : List ℕ) → IfSome (twice_at byte bytes) (TwiceAt byte bytes)
twice_found byte [] = tt
twice_found byte (b ∷ []) = tt
twice_found byte (b ∷ c ∷ rest) = twice_or byte b c rest (b == byte && c == byte) refl (twice_found byte (c ∷ rest))

-- the first `}}`
abbrev pub ClosesAt : List ℕ → ℕ → Type 0
ClosesAt bytes n = (n + 2 ≤ length bytes) × (get_or bytes (n + 1) 0 ≡ 125)

close_of : (rest : List ℕ) → closes rest ≡ true → (1 ≤ length rest) × (get_or rest 0 0 ≡ 125)
close_of [] h = absurd (false≢true h)
close_of (b ∷ rest) h = (omega arith, same_byte b 125 h)

last_true : (x y z : Bool) → (x && (y && z)) ≡ true → z ≡ true
last_true true true z h = h
last_true true false z h = absurd (false≢true h)
last_true false y z h = absurd (false≢true h)

later_close : (b : ℕ) (bytes : List ℕ) (o : Option ℕ) → IfSome o (ClosesAt bytes) → IfSome (option_map suc o) (ClosesAt (b ∷ bytes))
later_close b bytes None h = tt
later_close b bytes (Some n) h = let same : suc n + 1 ≡ suc (n + 1) = omega arith in (omega (arith, h.0), rw same h.1)

close_or : (quoted : Bool) (b : ℕ) (rest : List ℕ) (is : Bool) → (not (in_quotes quoted b) && closes_twice (b ∷ rest)) ≡ is → IfSome (close_from (in_quotes quoted b) rest) (ClosesAt rest)
    → IfSome (if is then Some 0 else option_map suc (close_from (in_quotes quoted b) rest)) (ClosesAt (b ∷ rest))
close_or quoted b rest true is more =
    let c = close_of rest (last_true (not (in_quotes quoted b)) (b == 125) (closes rest) is) in
    (omega (arith, c.0), c.1)
close_or quoted b rest false is more = later_close b rest (close_from (in_quotes quoted b) rest) more

pub close_found : (quoted : Bool) (bytes : List ℕ) → IfSome (close_from quoted bytes) (ClosesAt bytes)
close_found quoted [] = tt
close_found quoted (b ∷ rest) = close_or quoted b rest (not (in_quotes quoted b) && closes_twice (b ∷ rest)) refl (close_found (in_quotes quoted b) rest)

-- where a part of a line ends
pub text_ends : (text : List ℕ) (line : TextLine) (start n : ℕ) → IsLineOf text line → Some n ≡ twice_at 123 (drop start line.text) → 0 < n → EndsAt text line start (start + n)
text_ends text line start n of is some =
    let found = subst (λ o. IfSome o (TwiceAt 123 (drop start line.text))) (sym is) (twice_found 123 (drop start line.text)) in
    let within : start + n < length line.text = omega (arith, found.0, length-drop start line.text) in
    let byte = byte_of_line text line (start + n) of within ∙ sym (get_or-drop start line.text n 0) ∙ found.1 in
    record {
      onward = omega (arith, some);
      within = omega (arith, within);
      ends = IsCharBoundary-before_ascii text (line.offset + (start + n)) (omega (arith, within, of.within)) (omega (arith, byte));
    }

pub line_ends : (text : List ℕ) (line : TextLine) (start : ℕ) → IsLineOf text line → start < length line.text → EndsAt text line start (length line.text)
line_ends text line start of inside = record { onward = inside; within = omega arith; ends = of.ends }

close_ends : (text : List ℕ) (line : TextLine) (start n : ℕ) → IsUtf8 text → IsLineOf text line → Some 0 ≡ twice_at 123 (drop start line.text) → Some n ≡ close_at (drop (start + 2) line.text)
    → EndsAt text line start (start + 2 + n + 2)
close_ends text line start n utf8 of opens is =
    let begun = subst (λ o. IfSome o (TwiceAt 123 (drop start line.text))) (sym opens) (twice_found 123 (drop start line.text)) in
    let found = subst (λ o. IfSome o (ClosesAt (drop (start + 2) line.text))) (sym is) (close_found false (drop (start + 2) line.text)) in
    let within : start + (n + 4) ≤ length line.text = omega (arith, begun.0, found.0, length-drop start line.text, length-drop (start + 2) line.text) in
    let place : start + (n + 4) - 1 ≡ start + 2 + (n + 1) = omega arith in
    let byte : get_or line.text (start + (n + 4) - 1) 0 ≡ 125 = ap (λ i. get_or line.text i 0) place ∙ sym (get_or-drop (start + 2) line.text (n + 1) 0) ∙ found.1 in
    let same : line.offset + start + (n + 4) ≡ line.offset + (start + 2 + n + 2) = omega arith in
    record {
      onward = omega arith;
      within = omega (arith, within);
      ends = subst (IsCharBoundary text) same (boundary_after text line start (n + 4) utf8 of (omega arith) within (omega (arith, byte)));
    }

-- after `{{` and before `}}`
pub opens_within : (line : TextLine) (start : ℕ) → Some 0 ≡ twice_at 123 (drop start line.text) → start + 2 ≤ length line.text
opens_within line start opens =
    let begun = subst (λ o. IfSome o (TwiceAt 123 (drop start line.text))) (sym opens) (twice_found 123 (drop start line.text)) in
    omega (arith, begun.0, length-drop start line.text)

found_ends : (text : List ℕ) (line : TextLine) (start end : ℕ) (found : Option Part) → EndsAt text line start (end + 2) → IfSome found (λ (p : Part). p.end ≡ end + 2) → IfSome found (λ (p : Part). EndsAt text line start p.end)
found_ends text line start end None ends h = tt
found_ends text line start end (Some p) ends h = subst (EndsAt text line start) (sym h) ends

pub closed_ends : {E : Type 0} (text : List ℕ) (line : TextLine) (start n : ℕ) (r : Result (Option Part) E) → IsUtf8 text → IsLineOf text line → Some 0 ≡ twice_at 123 (drop start line.text)
    → Some n ≡ close_at (drop (start + 2) line.text) → IfOk r (λ found. IfSome found (λ (p : Part). p.end ≡ start + 2 + n + 2)) → IfOk r (λ found. IfSome found (λ (p : Part). EndsAt text line start p.end))
closed_ends text line start n (Ok found) utf8 of opens is h = found_ends text line start (start + 2 + n) found (close_ends text line start n utf8 of opens is) h
closed_ends text line start n (Err e) utf8 of opens is h = tt

-- How far lexemes go.
use Rattle.std.proofs.Common.{suc, zero, ◌≡◌, ℕ, ◌+◌, ◌-◌, ◌<◌, ◌≤◌, sym, ◌∙◌, ap, refl, subst, List, [], ◌∷◌, length, take, drop, get_or, true, false, arith, add-one, length-drop, Option, Some, None}
use Rattle.std.specs.Str.{IsCharBoundary, IsUtf8}
use Rattle.std.proofs.lemmas.List.{drop_all, drop-drop, get_or-take, length-take}
use Rattle.std.proofs.lemmas.Str.{IsCharBoundary-after_ascii}
use Rattle.just_bench_expressions.specs.declared.lines.TextLine.{TextLine}
use Rattle.just_bench_expressions.specs.declared.lexer.Kind.{Kind}
use Rattle.just_bench_expressions.specs.Lines.{IsLineOf}
use Rattle.just_bench_expressions.specs.Lexemes.{is_blank, first, lexed_from, lexed_to, past, TakesLexeme}
use Rattle.just_bench_expressions.proofs.Lexing.{at_front, boundary_after, byte_of_line, fits_after, last_of_cut, within_after}

-- what was passed and what is left make the whole
pub record Passed (text : List ℕ) (line : TextLine) (start end at : ℕ) : Type 0 where
  pub whole : lexed_to line start end ≡ at + lexed_from 0 (drop at (take end line.text))
  pub within : at ≤ length (take end line.text)
  pub onward : start ≤ at
  pub boundary : IsCharBoundary text (line.offset + at)

pub lexed_start : (text : List ℕ) (line : TextLine) (start end : ℕ) → start ≤ end → end ≤ length line.text → IsCharBoundary text (line.offset + start) → Passed text line start end start
unfolding lexed_to
lexed_start text line start end ordered within cut = record {
  whole = refl;
  within = omega (arith, ordered, length-take end line.text, within);
  onward = omega arith;
  boundary = cut;
}

blank_is_ascii : (b : ℕ) → is_blank b ≡ true → b < 128
blank_is_ascii b h = grind arith

skip : (n : ℕ) (bytes : List ℕ) → n ≤ length bytes → lexed_from n bytes ≡ n + lexed_from 0 (drop n bytes)
skip zero bytes h = omega arith
skip (suc n) [] h = absurd (omega (arith, h))
skip (suc n) (b ∷ rest) h = let more = skip n rest (omega (arith, h)) in omega (arith, more)

-- after a blank
from_blank : (b : ℕ) (rest : List ℕ) → is_blank b ≡ true → lexed_from 0 (b ∷ rest) ≡ lexed_from 0 rest + 1
from_blank b rest h = rw h refl

-- at a byte that is no blank
from_sharp : (b : ℕ) (rest : List ℕ) → is_blank b ≡ false → lexed_from 0 (b ∷ rest) ≡ past (first (b ∷ rest)) (λ more. lexed_from more rest)
from_sharp b rest h = rw h refl

ascii_in_cut : (line : TextLine) (end at : ℕ) → at < length (take end line.text) → get_or (take end line.text) at 0 < 128 → get_or line.text at 0 < 128
ascii_in_cut line end at left ascii =
    let short : at < end = omega (arith, left, length-take end line.text) in
    subst (λ b. b < 128) (get_or-take end line.text at 0 short) ascii

pub lexed_blank : (text : List ℕ) (line : TextLine) (start end at : ℕ) (bytes : List ℕ) → IsUtf8 text → IsLineOf text line → bytes ≡ take end line.text
    → Passed text line start end at → at < length bytes → is_blank (get_or bytes at 0) ≡ true → Passed text line start end (at + 1)
lexed_blank text line start end at bytes utf8 of cut passed left blank =
    let here : at < length (take end line.text) = subst (λ bs. at < length bs) cut left in
    let white : is_blank (get_or (take end line.text) at 0) ≡ true = subst (λ bs. is_blank (get_or bs at 0) ≡ true) cut blank in
    let step : lexed_from 0 (drop at (take end line.text)) ≡ lexed_from 0 (drop (at + 1) (take end line.text)) + 1 =
    ap (lexed_from 0) (at_front (take end line.text) at here) ∙ from_blank (get_or (take end line.text) at 0) (drop (at + 1) (take end line.text)) white in
    let ascii : get_or line.text (at + 1 - 1) 0 < 128 =
    let same : at ≡ at + 1 - 1 = omega arith in
    subst (λ i. get_or line.text i 0 < 128) same (ascii_in_cut line end at here (blank_is_ascii (get_or (take end line.text) at 0) white)) in
    let assoc : line.offset + at + 1 ≡ line.offset + (at + 1) = omega arith in
    record {
      whole = omega (arith, passed.whole, step);
      within = omega (arith, here);
      onward = omega (arith, passed.onward);
      boundary = subst (IsCharBoundary text) assoc (boundary_after text line at 1 utf8 of (omega arith) (omega (arith, here, length-take end line.text)) ascii);
    }

stops_at : (line : TextLine) (end at : ℕ) → at < length (take end line.text) → is_blank (get_or (take end line.text) at 0) ≡ false → None ≡ first (drop at (take end line.text))
    → lexed_from 0 (drop at (take end line.text)) ≡ 0
stops_at line end at left sharp none =
    ap (lexed_from 0) (at_front (take end line.text) at left)
    ∙ from_sharp (get_or (take end line.text) at 0) (drop (at + 1) (take end line.text)) sharp
    ∙ ap (λ f. past f (λ more. lexed_from more (drop (at + 1) (take end line.text)))) (ap first (sym (at_front (take end line.text) at left)) ∙ sym none)

pub lexed_stops : (text : List ℕ) (line : TextLine) (start end at : ℕ) (bytes : List ℕ) → bytes ≡ take end line.text
    → Passed text line start end at → at < length bytes → is_blank (get_or bytes at 0) ≡ false → None ≡ first (drop at bytes) → at ≡ lexed_to line start end
lexed_stops text line start end at bytes cut passed left sharp none =
    let rest = stops_at line end at (subst (λ bs. at < length bs) cut left) (subst (λ bs. is_blank (get_or bs at 0) ≡ false) cut sharp) (subst (λ bs. None ≡ first (drop at bs)) cut none) in
    omega (arith, passed.whole, rest)

goes_past : (bytes : List ℕ) (at : ℕ) (kind : Kind) (size : ℕ) → at < length bytes → is_blank (get_or bytes at 0) ≡ false → Some (kind, size) ≡ first (drop at bytes) → TakesLexeme (drop at bytes) size
    → lexed_from 0 (drop at bytes) ≡ size + lexed_from 0 (drop (at + size) bytes)
goes_past bytes at kind size left sharp is takes =
    let fits = fits_after bytes at size left takes in
    let step : lexed_from 0 (drop at bytes) ≡ lexed_from (size - 1) (drop (at + 1) bytes) + 1 =
    ap (lexed_from 0) (at_front bytes at left)
    ∙ from_sharp (get_or bytes at 0) (drop (at + 1) bytes) sharp
    ∙ ap (λ f. past f (λ more. lexed_from more (drop (at + 1) bytes))) (ap first (sym (at_front bytes at left)) ∙ sym is) in
    let on = skip (size - 1) (drop (at + 1) bytes) fits in
    let same : at + 1 + (size - 1) ≡ at + size = omega (arith, takes.some) in
    let rest : lexed_from 0 (drop (size - 1) (drop (at + 1) bytes)) ≡ lexed_from 0 (drop (at + size) bytes) = rw (drop-drop (size - 1) (at + 1) bytes, same) refl in
    omega (arith, step, on, rest, takes.some)

pub lexed_past : (text : List ℕ) (line : TextLine) (start end at : ℕ) (bytes : List ℕ) (kind : Kind) (size : ℕ) → IsUtf8 text → IsLineOf text line → bytes ≡ take end line.text
    → Passed text line start end at → at < length bytes → is_blank (get_or bytes at 0) ≡ false → Some (kind, size) ≡ first (drop at bytes) → TakesLexeme (drop at bytes) size
    → Passed text line start end (at + size)
lexed_past text line start end at bytes kind size utf8 of cut passed left sharp is takes =
    let last = last_of_cut line.text end bytes at size cut left takes in
    let fits : at + size ≤ length (take end line.text) = subst (λ bs. at + size ≤ length bs) cut (within_after bytes at size left takes) in
    let step : lexed_from 0 (drop at (take end line.text)) ≡ size + lexed_from 0 (drop (at + size) (take end line.text)) =
    subst (λ bs. lexed_from 0 (drop at bs) ≡ size + lexed_from 0 (drop (at + size) bs)) cut (goes_past bytes at kind size left sharp is takes) in
    let assoc : line.offset + at + size ≡ line.offset + (at + size) = omega arith in
    record {
      whole = omega (arith, passed.whole, step);
      within = fits;
      onward = omega (arith, passed.onward);
      boundary = subst (IsCharBoundary text) assoc (boundary_after text line at size utf8 of takes.some (omega (arith, fits, length-take end line.text)) last);
    }

pub lexed_ends : (text : List ℕ) (line : TextLine) (start end at : ℕ) (bytes : List ℕ) → bytes ≡ take end line.text
    → Passed text line start end at → length bytes ≤ at → at ≡ lexed_to line start end
lexed_ends text line start end at bytes cut passed past_all =
    let none : lexed_from 0 (drop at (take end line.text)) ≡ 0 = ap (lexed_from 0) (drop_all at (take end line.text) (subst (λ bs. length bs ≤ at) cut past_all)) in
    omega (arith, passed.whole, none)

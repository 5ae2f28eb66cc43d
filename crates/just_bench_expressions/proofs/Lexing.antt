-- Lexing.
use Rattle.std.proofs.Common.{suc, zero, ◌≡◌, ℕ, ◌+◌, ◌-◌, ◌<◌, ◌≤◌, sym, ◌∙◌, ap, refl, List, [], ◌∷◌, ◌++◌, length, take, drop, get_or, true, false, arith, append_assoc, add-one, length-drop, Option, Some, None}
use Rattle.std.proofs.Math.Seq.{drop-cons}
use Rattle.std.specs.List.{prefix_len, position}
use Rattle.std.specs.Option.{option_map}
use Rattle.std.specs.Str.{IsCharBoundary, IsUtf8}
use Rattle.std.proofs.lemmas.List.{get_or-drop, get_or-take, drop-drop, length-take}
use Rattle.std.proofs.lemmas.List.Quantifiers.{position-Some}
use Rattle.std.proofs.lemmas.List.Sums.{prefix_len_passes, prefix_len-le-length}
use Rattle.std.proofs.lemmas.Str.{IsCharBoundary-after_ascii}
use Rattle.just_names.specs.Token.{Place}
use Rattle.just_bench_expressions.specs.declared.lines.TextLine.{TextLine}
use Rattle.just_bench_expressions.specs.declared.lexer.Kind.{Kind}
use Rattle.just_bench_expressions.specs.declared.lexer.Lexeme.{Lexeme}
use Rattle.just_names.specs.Identifier.{is_identifier_start, is_identifier_continue}
use Rattle.just_bench_expressions.specs.Lines.{IsLineOf}
use Rattle.just_bench_expressions.specs.Lexemes.{is_blank, is_quote, first, lexeme_place, before, lexemes_from, lexemes, TakesLexeme}

-- a byte of a line as a byte of the text
pub byte_of_line : (text : List ℕ) (line : TextLine) (i : ℕ) → IsLineOf text line → i < length line.text → get_or text (line.offset + i) 0 ≡ get_or line.text i 0
byte_of_line text line i of within =
    sym (get_or-drop line.offset text i 0) ∙ sym (get_or-take (line.offset + length line.text - line.offset) (drop line.offset text) i 0 (omega (arith, within))) ∙ ap (λ part. get_or part i 0) of.same

pub boundary_after : (text : List ℕ) (line : TextLine) (at size : ℕ) → IsUtf8 text → IsLineOf text line → 0 < size → at + size ≤ length line.text → get_or line.text (at + size - 1) 0 < 128
    → IsCharBoundary text (line.offset + at + size)
boundary_after text line at size utf8 of some within last =
    let before_it = byte_of_line text line (at + size - 1) of (omega (arith, some, within)) in
    let past = IsCharBoundary-after_ascii text (line.offset + (at + size - 1)) utf8 (omega (arith, some, within, of.within)) (rw before_it last) in
    let same : line.offset + (at + size - 1) + 1 ≡ line.offset + at + size = omega (arith, some) in
    rw same at past

pub start_is_ascii : (b : ℕ) → is_identifier_start b ≡ true → b < 128
start_is_ascii b h = grind arith

pub part_is_ascii : (b : ℕ) → is_identifier_continue b ≡ true → b < 128
part_is_ascii b h = grind arith

pub last_of : (b : ℕ) (rest : List ℕ) (n : ℕ) → b < 128 → ((k : ℕ) → k < n → get_or rest k 0 < 128) → get_or (b ∷ rest) n 0 < 128
last_of b rest zero h all = h
last_of b rest (suc n) h all = all n (omega arith)

pub name_ends : (b : ℕ) (rest : List ℕ) → is_identifier_start b ≡ true → get_or (b ∷ rest) (prefix_len is_identifier_continue rest + 1 - 1) 0 < 128
name_ends b rest h =
    let same : prefix_len is_identifier_continue rest + 1 - 1 ≡ prefix_len is_identifier_continue rest = omega arith in
    rw same (last_of b rest (prefix_len is_identifier_continue rest) (start_is_ascii b h) (λ k less. part_is_ascii (get_or rest k 0) (prefix_len_passes is_identifier_continue rest k 0 less)))

pub takes_name : (b : ℕ) (rest : List ℕ) → is_identifier_start b ≡ true → TakesLexeme (b ∷ rest) (prefix_len is_identifier_continue rest + 1)
takes_name b rest h = record {
  some = omega arith;
  within = omega (arith, prefix_len-le-length is_identifier_continue rest);
  begins = start_is_ascii b h;
  ends = name_ends b rest h;
}

pub lexemes_skip : (token : ℕ → ℕ → Place) (at n : ℕ) (bytes : List ℕ) → n ≤ length bytes → lexemes_from token at n bytes ≡ lexemes_from token (at + n) 0 (drop n bytes)
lexemes_skip token at zero bytes h = let same : at ≡ at + 0 = omega arith in ap (λ m. lexemes_from token m 0 bytes) same
lexemes_skip token at (suc n) [] h = absurd (omega (arith, h))
lexemes_skip token at (suc n) (b ∷ rest) h =
    let same : at + 1 + n ≡ at + suc n = omega arith in
    lexemes_skip token (at + 1) n rest (omega (arith, h)) ∙ ap (λ m. lexemes_from token m 0 (drop n rest)) same

-- what was read and what is left make the whole
pub record Lexed (path text : List ℕ) (line : TextLine) (start end : ℕ) (found : List Lexeme) (at : ℕ) : Type 0 where
  pub whole : lexemes path text line start end ≡ option_map (λ rest. found ++ rest) (lexemes_from (lexeme_place path text line) at 0 (drop at (take end line.text)))
  pub within : at ≤ length (take end line.text)

pub option_start : {A : Type 0} (o : Option (List A)) → o ≡ option_map (λ rest. [] ++ rest) o
option_start None = refl
option_start (Some items) = refl

pub option_grown : {A : Type 0} (front : List A) (x : A) (o : Option (List A)) → option_map (λ rest. front ++ rest) (option_map (λ items. x ∷ items) o) ≡ option_map (λ rest. (front ++ x ∷ []) ++ rest) o
option_grown front x None = refl
option_grown front x (Some items) = ap Some (sym (append_assoc front (x ∷ []) items))

pub Lexed-start : (path text : List ℕ) (line : TextLine) (start end : ℕ) (found : List Lexeme) → found ≡ [] → start ≤ end → end ≤ length line.text → Lexed path text line start end found start
unfolding lexemes
Lexed-start path text line start end found none ordered within = record {
  whole = rw none (option_start (lexemes_from (lexeme_place path text line) start 0 (drop start (take end line.text))));
  within = omega (arith, ordered, length-take end line.text, within);
}

pub at_front : (bytes : List ℕ) (at : ℕ) → at < length bytes → drop at bytes ≡ get_or bytes at 0 ∷ drop (at + 1) bytes
at_front bytes at within = drop-cons bytes at 0 within ∙ ap (λ m. get_or bytes at 0 ∷ drop m bytes) (sym (add-one at))

pub from_lexeme : (token : ℕ → ℕ → Place) (at b : ℕ) (rest : List ℕ) → is_blank b ≡ false → lexemes_from token at 0 (b ∷ rest) ≡ before token at (first (b ∷ rest)) (λ more. lexemes_from token (at + 1) more rest)
from_lexeme token at b rest h = rw h refl

pub after : (token : ℕ → ℕ → Place) (at : ℕ) (bytes : List ℕ) → at < length bytes → is_blank (get_or bytes at 0) ≡ false
    → lexemes_from token at 0 (drop at bytes) ≡ before token at (first (drop at bytes)) (λ more. lexemes_from token (at + 1) more (drop (at + 1) bytes))
after token at bytes left sharp = rw (at_front bytes at left) (from_lexeme token at (get_or bytes at 0) (drop (at + 1) bytes) sharp)

pub within_after : (bytes : List ℕ) (at size : ℕ) → at < length bytes → TakesLexeme (drop at bytes) size → at + size ≤ length bytes
within_after bytes at size left takes = omega (arith, left, takes.within, length-drop at bytes)

pub fits_after : (bytes : List ℕ) (at size : ℕ) → at < length bytes → TakesLexeme (drop at bytes) size → size - 1 ≤ length (drop (at + 1) bytes)
fits_after bytes at size left takes = omega (arith, left, takes.within, takes.some, length-drop at bytes, length-drop (at + 1) bytes)

pub rest_after : (token : ℕ → ℕ → Place) (bytes : List ℕ) (at size : ℕ) → at < length bytes → TakesLexeme (drop at bytes) size
    → lexemes_from token (at + 1) (size - 1) (drop (at + 1) bytes) ≡ lexemes_from token (at + size) 0 (drop (at + size) bytes)
rest_after token bytes at size left takes =
    let same : at + 1 + (size - 1) ≡ at + size = omega (arith, takes.some) in
    lexemes_skip token (at + 1) (size - 1) (drop (at + 1) bytes) (fits_after bytes at size left takes)
    ∙ rw (drop-drop (size - 1) (at + 1) bytes, same) refl

pub Lexed-push : (path text : List ℕ) (line : TextLine) (start end : ℕ) (found : List Lexeme) (at : ℕ) (kind : Kind) (size : ℕ) (found' : List Lexeme) (bytes : List ℕ) → bytes ≡ take end line.text
    → Lexed path text line start end found at → at < length bytes → is_blank (get_or bytes at 0) ≡ false
    → first (drop at bytes) ≡ Some (kind, size) → TakesLexeme (drop at bytes) size → found' ≡ found ++ record { kind = kind; token = lexeme_place path text line at size } ∷ []
    → Lexed path text line start end found' (at + size)
Lexed-push path text line start end found at kind size found' bytes cut read left sharp is takes pushed =
    let token = lexeme_place path text line in
    let rest : lexemes_from token (at + 1) (size - 1) (drop (at + 1) bytes) ≡ lexemes_from token (at + size) 0 (drop (at + size) bytes) = rest_after token bytes at size left takes in
    let whole : lexemes path text line start end ≡ option_map (λ rest. found ++ rest) (lexemes_from token at 0 (drop at bytes)) = rw cut read.whole in
    let next : lexemes path text line start end ≡ option_map (λ rest. found' ++ rest) (lexemes_from token (at + size) 0 (drop (at + size) bytes)) =
    rw pushed (whole ∙ ap (option_map (λ rest. found ++ rest)) (after token at bytes left sharp ∙ ap (λ f. before token at f (λ more. lexemes_from token (at + 1) more (drop (at + 1) bytes))) is) ∙ rw rest (option_grown found (record { kind = kind; token = token at size }) (lexemes_from token (at + size) 0 (drop (at + size) bytes)))) in
    record {
      whole = rw (← cut) next;
      within = rw (← cut) (within_after bytes at size left takes);
    }

pub last_byte : (bytes : List ℕ) (at size : ℕ) → at < length bytes → TakesLexeme (drop at bytes) size → get_or bytes (at + size - 1) 0 < 128
last_byte bytes at size left takes =
    let same : at + (size - 1) ≡ at + size - 1 = omega (arith, takes.some) in
    let it : get_or bytes (at + (size - 1)) 0 < 128 = rw (sym (get_or-drop at bytes (size - 1) 0)) takes.ends in
    rw same at it

short_cut : (end : ℕ) (text : List ℕ) → length (take end text) ≤ end
short_cut end text = omega (arith, length-take end text)

pub last_of_cut : (text : List ℕ) (end : ℕ) (bytes : List ℕ) (at size : ℕ) → bytes ≡ take end text → at < length bytes → TakesLexeme (drop at bytes) size → get_or text (at + size - 1) 0 < 128
last_of_cut text end bytes at size cut left takes =
    let last : get_or bytes (at + size - 1) 0 < 128 = last_byte bytes at size left takes in
    let short : length bytes ≤ end = omega (arith, short_cut end text, ap length cut) in
    let below : at + size - 1 < end = omega (arith, short, within_after bytes at size left takes, takes.some) in
    let same : get_or bytes (at + size - 1) 0 ≡ get_or text (at + size - 1) 0 = ap (λ t. get_or t (at + size - 1) 0) cut ∙ get_or-take end text (at + size - 1) 0 below in
    rw (← same) last

pub takes_name_of : (bytes : List ℕ) (b : ℕ) (rest : List ℕ) (n : ℕ) → bytes ≡ b ∷ rest → is_identifier_start b ≡ true → n ≡ prefix_len is_identifier_continue rest → TakesLexeme bytes (n + 1)
takes_name_of bytes b rest n is starts more = rw (is, more) (takes_name b rest starts)

-- what is known of the first quote
pub quote_found : (bytes : List ℕ) (n : ℕ) → Some n ≡ position is_quote bytes → (n < length bytes) × (get_or bytes n 0 ≡ 39) × ((k : ℕ) → k < n → is_quote (get_or bytes k 0) ≡ false)
quote_found bytes n is =
    let found = position-Some is_quote bytes n 0 (sym is) in
    (found.0, grind (arith, found.1), found.2)

pub takes_quoted : (bytes : List ℕ) (b : ℕ) (rest : List ℕ) (n : ℕ) → bytes ≡ b ∷ rest → b ≡ 39 → Some n ≡ position is_quote rest → TakesLexeme bytes (n + 2)
takes_quoted bytes b rest n is quote found =
    let at = quote_found rest n found in
    let last : n + 2 - 1 ≡ suc n = omega arith in
    rw is (record {
      some = omega arith;
      within = omega (arith, at.0);
      begins = omega (arith, quote);
      ends = rw last (omega (arith, at.1));
    })

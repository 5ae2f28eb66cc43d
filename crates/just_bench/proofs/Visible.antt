-- Texts without control characters: escapes, and what is written out.
use Rattle.std.proofs.Common.{◌≡◌, ℕ, ◌/◌, ◌%◌, ◌<◌, Bool, true, false, cond, List, [], ◌∷◌, ◌++◌, refl, sym, ◌∙◌, ap, arith, nat_lt, ◌==◌, ◌&&◌}
use Rattle.std.specs.Char.{digit_char, is_control}
use Rattle.std.specs.Char.Escape.{escape_default, escape_unicode, hex_digit_at, short_escape}
use Rattle.std.proofs.Math.Utf8.{encode, encodes}
use Rattle.std.proofs.lemmas.Bool.{and_parts, ltb-true, true≢false}
use Rattle.std.proofs.lemmas.Bool.Decides.{nat_tests}
use Rattle.std.proofs.lemmas.List.{append-nil}
use Rattle.std.proofs.lemmas.List.Elements.{All-append, All-cons, All-from_recursion, All-nil}
use Rattle.std.proofs.lemmas.Str.{encode_ascii, encodes-append}
use Rattle.std.specs.List.{AllByRecursion, list_all}
use Rattle.just_bench.specs.Writing.{IsInLine, IsLine}

more : (b : ℕ) (bs : List ℕ) → is_control b ≡ false → IsInLine bs → IsInLine (b ∷ bs)
more b bs h all = All-cons (λ c. is_control c ≡ false) b bs h all

pub none_in_line : IsInLine []
none_in_line = All-nil (λ c. is_control c ≡ false)

pub one_in_line : (c : ℕ) → is_control c ≡ false → IsInLine (c ∷ [])
one_in_line c h = more c [] h none_in_line

pub both_in_line : (bs cs : List ℕ) → IsInLine bs → IsInLine cs → IsInLine (bs ++ cs)
both_in_line bs cs h k = All-append (λ c. is_control c ≡ false) bs cs h k

printed : (b : ℕ) → 31 < b → b < 127 → is_control b ≡ false
printed b h k = grind (arith, nat_tests)

digit : (d : ℕ) → d < 16 → is_control (digit_char d) ≡ false
digit d h = printed (digit_char d) (grind (arith, nat_tests)) (grind (arith, nat_tests))

hex : (p c : ℕ) → is_control (hex_digit_at p c) ≡ false
hex p c = digit (c / p % 16) (omega arith)

abbrev InLine : List ℕ → Type 0
InLine = AllByRecursion (λ c. is_control c ≡ false)

by_count : (s t u v w : Bool) (c : ℕ) → InLine (cond s (92 ∷ 117 ∷ 123 ∷ hex_digit_at 1 c ∷ 125 ∷ [])
    (cond t (92 ∷ 117 ∷ 123 ∷ hex_digit_at 0x10 c ∷ hex_digit_at 1 c ∷ 125 ∷ [])
    (cond u (92 ∷ 117 ∷ 123 ∷ hex_digit_at 0x100 c ∷ hex_digit_at 0x10 c ∷ hex_digit_at 1 c ∷ 125 ∷ [])
    (cond v (92 ∷ 117 ∷ 123 ∷ hex_digit_at 0x1000 c ∷ hex_digit_at 0x100 c ∷ hex_digit_at 0x10 c ∷ hex_digit_at 1 c ∷ 125 ∷ [])
    (cond w (92 ∷ 117 ∷ 123 ∷ hex_digit_at 0x1_0000 c ∷ hex_digit_at 0x1000 c ∷ hex_digit_at 0x100 c ∷ hex_digit_at 0x10 c ∷ hex_digit_at 1 c ∷ 125 ∷ [])
    (92 ∷ 117 ∷ 123 ∷ hex_digit_at 0x10_0000 c ∷ hex_digit_at 0x1_0000 c ∷ hex_digit_at 0x1000 c ∷ hex_digit_at 0x100 c ∷ hex_digit_at 0x10 c ∷ hex_digit_at 1 c ∷ 125 ∷ []))))))
by_count true t u v w c = (refl, (refl, (refl, (hex 1 c, (refl, tt)))))
by_count false true u v w c = (refl, (refl, (refl, (hex 0x10 c, (hex 1 c, (refl, tt))))))
by_count false false true v w c = (refl, (refl, (refl, (hex 0x100 c, (hex 0x10 c, (hex 1 c, (refl, tt)))))))
by_count false false false true w c = (refl, (refl, (refl, (hex 0x1000 c, (hex 0x100 c, (hex 0x10 c, (hex 1 c, (refl, tt))))))))
by_count false false false false true c = (refl, (refl, (refl, (hex 0x1_0000 c, (hex 0x1000 c, (hex 0x100 c, (hex 0x10 c, (hex 1 c, (refl, tt)))))))))
by_count false false false false false c = (refl, (refl, (refl, (hex 0x10_0000 c, (hex 0x1_0000 c, (hex 0x1000 c, (hex 0x100 c, (hex 0x10 c, (hex 1 c, (refl, tt))))))))))

by_code : (c : ℕ) → IsInLine (escape_unicode c)
by_code c = All-from_recursion (λ c. is_control c ≡ false) (escape_unicode c) (by_count (nat_lt c 0x10) (nat_lt c 0x100) (nat_lt c 0x1000) (nat_lt c 0x1_0000) (nat_lt c 0x10_0000) c)

short : (a b d e f g : Bool) → nat_lt 0 (cond a 116 (cond b 114 (cond d 110 (cond e 39 (cond f 34 (cond g 92 0)))))) ≡ true →
    is_control (cond a 116 (cond b 114 (cond d 110 (cond e 39 (cond f 34 (cond g 92 0)))))) ≡ false
short true b d e f g h = refl
short false true d e f g h = refl
short false false true e f g h = refl
short false false false true f g h = refl
short false false false false true g h = refl
short false false false false false true h = refl
short false false false false false false h = absurd (true≢false (sym h))

-- the escape of each character has none
pub escape_in_line : (c : ℕ) → IsInLine (escape_default c)
escape_in_line c = go (nat_lt 0 (short_escape c)) (nat_lt c 32) (nat_lt c 127) refl refl refl
  where
    go : (x y z : Bool) → nat_lt 0 (short_escape c) ≡ x → nat_lt c 32 ≡ y → nat_lt c 127 ≡ z →
        IsInLine (cond x (92 ∷ short_escape c ∷ []) (cond y (escape_unicode c) (cond z (c ∷ []) (escape_unicode c))))
    go true y z h i j = more 92 (short_escape c ∷ []) refl (one_in_line (short_escape c) (short (c == 9) (c == 13) (c == 10) (c == 39) (c == 34) (c == 92) h))
    go false true z h i j = by_code c
    go false false true h i j = one_in_line c (printed c (grind (arith, nat_tests)) (grind (arith, nat_tests)))
    go false false false h i j = by_code c

-- one character more
pub encodes_more : (cs : List ℕ) (c : ℕ) → encodes (cs ++ c ∷ []) ≡ encodes cs ++ encode c
encodes_more cs c = encodes-append cs (c ∷ []) ∙ ap (λ t. encodes cs ++ t) (append-nil (encode c))

-- an ASCII character that is printed
abbrev is_printed : ℕ → Bool
is_printed c = nat_lt 31 c && nat_lt c 127

module _ (c : ℕ) (h : is_printed c ≡ true) where
  printed_in_line : is_control c ≡ false
  printed_in_line = let parts = and_parts (nat_lt 31 c) (nat_lt c 127) h in printed c (ltb-true 31 c parts.0) (ltb-true c 127 parts.1)

  printed_is_one : encode c ≡ c ∷ []
  printed_is_one = let parts = and_parts (nat_lt 31 c) (nat_lt c 127) h in encode_ascii c (omega (arith, ltb-true c 127 parts.1))

spelled_out : (text : List ℕ) → list_all is_printed text ≡ true → IsInLine text × (text ≡ encodes text)
spelled_out [] h = (none_in_line, refl)
spelled_out (c ∷ cs) h =
    let parts = and_parts (is_printed c) (list_all is_printed cs) h in
    let rest = spelled_out cs parts.1 in
    (more c cs (printed_in_line c parts.0) rest.0, ap (λ t. c ∷ t) rest.1 ∙ sym (ap (λ t. t ++ encodes cs) (printed_is_one c parts.0)))

-- so a line that is written out is one
pub ascii_line : (text : List ℕ) → list_all is_printed text ≡ true → IsLine (text ++ 10 ∷ [])
ascii_line text h =
    let spelled = spelled_out text h in
    record { chars = text; visible = spelled.0; ended = ap (λ t. t ++ 10 ∷ []) spelled.1 }

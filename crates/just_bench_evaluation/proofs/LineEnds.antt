-- How the text of a line begins and ends.
use Rattle.std.proofs.Common.{◌≡◌, ◌≢◌, ◌⊎◌, ℕ, zero, suc, ◌-◌, ◌<◌, ◌≤◌, Bool, true, false, List, [], ◌∷◌, ◌++◌, get_or, length, refl, sym, ◌∙◌, ap, subst, inl, inr, arith, Option, Some, None, Result, Ok, Err, IfOk, append_assoc, slice_get, if◌then◌else◌, ◌==◌, nat_eq}
use Rattle.std.specs.List.{before_first, ends_with, position_or_len}
use Rattle.std.specs.Option.{option_and_then, option_map}
use Rattle.std.proofs.lemmas.Bool.{eqb-true}
use Rattle.std.proofs.lemmas.Bool.Decides.{Decides-eqb}
use Rattle.std.proofs.lemmas.List.{length-take, append-nil}
use Rattle.std.proofs.lemmas.Slice.Eq.{ends_is}
use Rattle.just_ast_expressions.specs.declared.sigil.Sigil.{Sigil}
use Rattle.just_ast_expressions.specs.declared.sigil.Sigil.TheVariants as sigil
use Rattle.just_names.specs.Texts.{Text}
use Rattle.just_names.specs.Token.{lexeme}
use Rattle.just_ast_definitions.specs.declared.line.Fragment.{Fragment}
use Rattle.just_ast_definitions.specs.declared.line.Fragment.TheVariants as fragment
use Rattle.just_run_layers.specs.LineTexts.{BeginsPlain, EndsWithBackslash}
use Rattle.just_errors.specs.declared.refusal.Refusal.{Refusal}
use Rattle.just_ast_expressions.specs.declared.expression.Expression.{Expression}
use Rattle.just_bench_evaluation.specs.Lines.{fragment_text, fragments_text}
use Rattle.just_bench_evaluation.specs.loops.Refusals.{TellsValue}
use Rattle.just_bench_values.specs.Values.{Outcome}
use Rattle.just_bench_syntax.specs.Sigils.{back, sigils_begun, front_text, leading, same, sigil_of, text_of_fragment}

-- a text begins plainly with fewer bytes too, and with one more before it
plain_none : (text : Text) → BeginsPlain 0 text
plain_none text = record { within = omega arith; plain = λ i l. absurd (omega (arith, l)); apart = λ i l. absurd (omega (arith, l)) }

plain_less : (m n : ℕ) (text : Text) → m ≤ n → BeginsPlain n text → BeginsPlain m text
plain_less m n text le b = record { within = omega (arith, le, b.within); plain = λ i l. b.plain i (omega (arith, le, l)); apart = λ i l. b.apart i (omega (arith, le, l)) }

first_plain : (byte n : ℕ) (text : Text) → byte < 128 → BeginsPlain n text → (i : ℕ) → i < suc n → get_or (byte ∷ text) i 0 < 128
first_plain byte n text ascii b zero l = ascii
first_plain byte n text ascii b (suc i) l = b.plain i (omega (arith, l))

first_apart : (byte n : ℕ) (text : Text) → byte ≢ 92 → BeginsPlain n text → (i : ℕ) → i < suc n → get_or (byte ∷ text) i 0 ≢ 92
first_apart byte n text apart b zero l = apart
first_apart byte n text apart b (suc i) l = b.apart i (omega (arith, l))

plain_cons : (byte n : ℕ) (text : Text) → byte < 128 → byte ≢ 92 → BeginsPlain n text → BeginsPlain (suc n) (byte ∷ text)
plain_cons byte n text ascii apart b = record { within = omega (arith, b.within); plain = first_plain byte n text ascii b; apart = first_apart byte n text apart b }

-- a sigil is no backslash
picked : (a b c : Bool) (s : Sigil) → (if a then Some sigil.Quiet else (if b then Some sigil.Infallible else (if c then Some sigil.Guard else None))) ≡ Some s → (a ≡ true) ⊎ ((b ≡ true) ⊎ (c ≡ true))
picked true b c s h = inl refl
picked false true c s h = inr (inl refl)
picked false false true s h = inr (inr refl)
picked false false false s h = absurd (cc)

at_byte : (byte n : ℕ) → byte ≡ n → n < 128 → n ≢ 92 → (byte < 128) × (byte ≢ 92)
at_byte byte n e ascii apart = (subst (λ x. x < 128) (sym e) ascii, λ h. apart (sym e ∙ h))

sigil_plain : (byte : ℕ) (s : Sigil) → sigil_of byte ≡ Some s → (byte < 128) × (byte ≢ 92)
sigil_plain byte s h = elim (picked (byte == 64) (byte == 45) (byte == 63) s h) [
  | inl e ↦ at_byte byte 64 (eqb-true byte 64 e) (omega arith) (λ k. omega (arith, k))
  | inr t ↦ elim t [
    | inl e ↦ at_byte byte 45 (eqb-true byte 45 e) (omega arith) (λ k. omega (arith, k))
    | inr e ↦ at_byte byte 63 (eqb-true byte 63 e) (omega arith) (λ k. omega (arith, k))
  ]
]

shorter : (p : Sigil → Bool) (ss : List Sigil) → length (before_first p ss) ≤ length ss
shorter p ss = omega (arith, length-take (position_or_len p ss) ss)

begun_plain : (found : Option Sigil) (after : List Sigil) (byte : ℕ) (text : Text) → sigil_of byte ≡ found → BeginsPlain (length after) text → BeginsPlain (length (sigils_begun found after)) (byte ∷ text)
begun_plain None after byte text h b = plain_none (byte ∷ text)
begun_plain (Some s) after byte text h b =
    let good = sigil_plain byte s h in
    plain_cons byte (length (before_first (same s) after)) text good.0 good.1 (plain_less (length (before_first (same s) after)) (length after) text (shorter (same s) after) b)

-- a text that begins with sigils
pub leading_plain : (bytes rest : Text) → BeginsPlain (length (leading bytes)) (bytes ++ rest)
leading_plain [] rest = plain_none rest
leading_plain (byte ∷ bytes) rest = begun_plain (sigil_of byte) (leading bytes) byte (bytes ++ rest) refl (leading_plain bytes rest)

-- the text of parts is that of the first and that of the others
pub split_parts : (a b : Option Text) (text : Text) → option_and_then (λ x. option_map (λ rest. x ++ rest) b) a ≡ Some text → (x : Text) × (rest : Text) × (a ≡ Some x) × (b ≡ Some rest) × (text ≡ x ++ rest)
split_parts None b text h = absurd (cc)
split_parts (Some x) None text h = absurd (cc)
split_parts (Some x) (Some rest) text h = let e : text ≡ x ++ rest = cc in (x, rest, refl, refl, e)

-- a line's text begins with its sigils
pub sigils_plain : (value : Expression → Outcome) (parts : List Fragment) (text : Text) → fragments_text value parts ≡ Some text → BeginsPlain (length (leading (front_text parts))) text
sigils_plain value [] text h = plain_none text
sigils_plain value (fragment.Interpolation e ∷ parts) text h = plain_none text
sigils_plain value (fragment.Text token ∷ parts) text h =
    let cut = split_parts (Some (lexeme token)) (fragments_text value parts) text h in
    let x = cut.0 in
    let rest = cut.1 in
    let is : lexeme token ≡ x = let e = cut.2 in cc in
    subst (BeginsPlain (length (leading (lexeme token)))) (ap (λ t. t ++ rest) is ∙ sym cut.4) (leading_plain (lexeme token) rest)

-- and ends with the backslash of its last part
ends : (text : Text) → ends_with nat_eq text (92 ∷ []) ≡ true → EndsWithBackslash text
ends text h = (_, (ends_is (λ a b. Decides-eqb a b) text (92 ∷ []) (ends_with nat_eq text (92 ∷ [])) refl).0 h)

ends_after : (front_text text : Text) → EndsWithBackslash text → EndsWithBackslash (front_text ++ text)
ends_after front_text text (before, e) = (front_text ++ before, ap (λ t. front_text ++ t) e ∙ sym (append_assoc front_text before (92 ∷ [])))

back_later : (f g : Fragment) (parts : List Fragment) → back (f ∷ g ∷ parts) ≡ back (g ∷ parts)
back_later f g parts =
    let a : length (f ∷ g ∷ parts) - 1 ≡ suc (length parts) = omega arith in
    let b : length parts ≡ length (g ∷ parts) - 1 = omega arith in
    ap (λ n. text_of_fragment (slice_get (f ∷ g ∷ parts) n)) a ∙ ap (λ n. text_of_fragment (slice_get (g ∷ parts) n)) b

pub backslash_ends : (value : Expression → Outcome) (parts : List Fragment) (text : Text) → fragments_text value parts ≡ Some text → ends_with nat_eq (back parts) (92 ∷ []) ≡ true → EndsWithBackslash text
backslash_ends value [] text h b = absurd (cc)
backslash_ends value (fragment.Interpolation e ∷ []) text h b = absurd (cc)
backslash_ends value (fragment.Text token ∷ []) text h b =
    let is : text ≡ lexeme token ++ [] = cc in
    subst EndsWithBackslash (sym (append-nil (lexeme token)) ∙ sym is) (ends (lexeme token) b)
backslash_ends value (f ∷ g ∷ parts) text h b =
    let cut = split_parts (fragment_text value f) (fragments_text value (g ∷ parts)) text h in
    subst EndsWithBackslash (sym cut.4) (ends_after cut.0 cut.1 (backslash_ends value (g ∷ parts) cut.1 cut.3 (ap (λ t. ends_with nat_eq t (92 ∷ [])) (sym (back_later f g parts)) ∙ b)))

-- what is answered for a line
pub answer_begins : (value : Expression → Outcome) (parts : List Fragment) (C : Type 0) (r : Result Text Refusal) → TellsValue (fragments_text value parts) r → IfOk r (λ text. C → BeginsPlain (length (leading (front_text parts))) text)
answer_begins value parts C (Ok text) h = λ _. sigils_plain value parts text h
answer_begins value parts C (Err e) h = tt

pub answer_ends : (value : Expression → Outcome) (parts : List Fragment) (r : Result Text Refusal) → TellsValue (fragments_text value parts) r → IfOk r (λ text. ends_with nat_eq (back parts) (92 ∷ []) ≡ true → EndsWithBackslash text)
answer_ends value parts (Ok text) h = λ b. backslash_ends value parts text h b
answer_ends value parts (Err e) h = tt

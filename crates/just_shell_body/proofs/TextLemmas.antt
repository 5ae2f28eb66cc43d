-- How texts begin, and where they may be cut; the lines of a group one by one.
use Rattle.std.proofs.Common.{◌≡◌, ℕ, zero, suc, ◌+◌, ◌-◌, ◌<◌, ◌≤◌, Bool, true, false, List, [], ◌∷◌, ◌++◌, get_or, length, take, drop, refl, sym, ◌∙◌, ap, subst, arith, IsUtf8, IsCharBoundary, Option}
use Rattle.std.proofs.lemmas.List.{get_or_append_left, get_or_push, length-append, take-append-le, take_all}
use Rattle.std.proofs.lemmas.Str.{IsCharBoundary-start, IsCharBoundary-after_ascii}
use Rattle.std.proofs.Math.Nat.{lt_of_not-le}
use Rattle.std.proofs.Math.Seq.{drop-cons}
use Rattle.std.specs.Prelude.{Result}
use Rattle.just_ast_definitions.specs.declared.line.Line.{Line}
use Rattle.just_ast_expressions.specs.declared.settings.Settings.{Settings}
use Rattle.just_ast_expressions.specs.declared.sigil.Sigil.{Sigil}
use Rattle.just_errors.specs.declared.halt.Halt.{Halt}
use Rattle.just_names.specs.Texts.{Text}
use Rattle.just_parts.specs.Syntax.{SyntaxAnswers}
use Rattle.just_run_layers.specs.LineTexts.{AgreesWith, BeginsPlain, EndsWithBackslash}
use Rattle.just_run_layers.specs.Interactions.{Return, Log, Question, HasTrace, and_then}
use Rattle.just_run_layers.specs.Host.{Answer}
use Rattle.just_recipe_body.specs.Body.{BodyContents, line_steps}
use Rattle.just_shell_body.specs.Lines.{lines_text_steps, trimmed}
use Rattle.just_shell_body.specs.loops.Lines.{TextBeginsGroup}

-- a text that begins so begins so with more after it
pub plain-append : (count : ℕ) (text more : Text) → BeginsPlain count text → BeginsPlain count (text ++ more)
plain-append count text more b = record {
  within = omega (arith, b.within, length-append text more);
  plain = λ i l. subst (λ x. x < 128) (sym (get_or_append_left text more 0 i (omega (arith, l, b.within)))) (b.plain i l);
  apart = λ i l e. b.apart i l (sym (get_or_append_left text more 0 i (omega (arith, l, b.within))) ∙ e);
}

-- the backslash at its end is not among those bytes
plain-front : (count : ℕ) (front : Text) → BeginsPlain count (front ++ 92 ∷ []) → count ≤ length front
plain-front count front b =
    let last : length front < count → ⊥ = λ l. b.apart (length front) l (get_or_push front 92 0 (length front) refl) in
    omega (arith, lt_of_not-le {n = suc (length front)} {m = count} (λ l. last (omega (arith, l))))

pub plain-cut : (count : ℕ) (front : Text) → BeginsPlain count (front ++ 92 ∷ []) → BeginsPlain count front
plain-cut count front b =
    let within : count ≤ length front = plain-front count front b in
    record {
      within = within;
      plain = λ i l. subst (λ x. x < 128) (get_or_append_left front (92 ∷ []) 0 i (omega (arith, l, within))) (b.plain i l);
      apart = λ i l e. b.apart i l (get_or_append_left front (92 ∷ []) 0 i (omega (arith, l, within)) ∙ e);
    }

-- a text without its last byte
pub cut-last : (front : Text) (b : ℕ) → take (length (front ++ b ∷ []) - 1) (front ++ b ∷ []) ≡ front
cut-last front b =
    let n : length (front ++ b ∷ []) - 1 ≡ length front = omega (arith, length-append front (b ∷ [])) in
    ap (λ k. take k (front ++ b ∷ [])) n ∙ take-append-le (length front) front (b ∷ []) (omega arith) ∙ take_all (length front) front (omega arith)

pub plain-trimmed : (count : ℕ) (continues : Bool) (text : Text) → BeginsPlain count text → (continues ≡ true → EndsWithBackslash text) → BeginsPlain count (trimmed continues text)
plain-trimmed count false text b ends = b
plain-trimmed count true text b ends =
    let e = ends refl in
    subst (BeginsPlain count) (sym (ap (λ t. take (length t - 1) t) e.1 ∙ cut-last e.0 92)) (plain-cut count e.0 (subst (BeginsPlain count) e.1 b))

-- it may be cut after them
pub plain-boundary : (count : ℕ) (text : Text) → IsUtf8 text → BeginsPlain count text → IsCharBoundary text count
plain-boundary zero text u b = IsCharBoundary-start text u
plain-boundary (suc n) text u b =
    let e : n + 1 ≡ suc n = omega arith in
    subst (IsCharBoundary text) e (IsCharBoundary-after_ascii text n u (omega (arith, b.within)) (b.plain n (omega arith)))

-- a group begins as its first line does
pub begins-group : (syntax : SyntaxAnswers) (settings : Settings) (lines : List Line) (line : Line) (text : Text) → 0 < length lines → line ≡ get_or lines 0 line → BeginsPlain (length (syntax.sigils line settings)) text → TextBeginsGroup syntax settings lines text
begins-group syntax settings [] line text l e b = tt
begins-group syntax settings (first ∷ rest) line text l e b = subst (λ x. BeginsPlain (length (syntax.sigils x settings)) text) e b

group-append : (syntax : SyntaxAnswers) (settings : Settings) (lines : List Line) (text more : Text) → TextBeginsGroup syntax settings lines text → TextBeginsGroup syntax settings lines (text ++ more)
group-append syntax settings [] text more b = tt
group-append syntax settings (first ∷ rest) text more b = plain-append (length (syntax.sigils first settings)) text more b

-- with one part more it begins so
pub begins-on : (syntax : SyntaxAnswers) (settings : Settings) (lines : List Line) (line : Line) (i : ℕ) (continued : Bool) (text part : Text) → i < length lines → line ≡ get_or lines i line →
    (continued ≡ false → (i ≡ 0) × (text ≡ [])) → (continued ≡ true → TextBeginsGroup syntax settings lines text) → (continued ≡ false → BeginsPlain (length (syntax.sigils line settings)) part) → TextBeginsGroup syntax settings lines (text ++ part)
begins-on syntax settings lines line i true text part l e start later b = group-append syntax settings lines text part (later refl)
begins-on syntax settings lines line i false text part l e start later b =
    let at = start refl in
    subst (λ t. TextBeginsGroup syntax settings lines (t ++ part)) (sym at.1)
    (begins-group syntax settings lines line part (omega (arith, l)) (e ∙ ap (λ k. get_or lines k line) at.0) (b refl))

-- at the end of the lines
pub begins-all : (syntax : SyntaxAnswers) (settings : Settings) (lines : List Line) (i : ℕ) (continued : Bool) (text : Text) → length lines ≤ i →
    (continued ≡ false → (i ≡ 0) × (text ≡ [])) → (continued ≡ true → TextBeginsGroup syntax settings lines text) → TextBeginsGroup syntax settings lines text
begins-all syntax settings lines i true text l start later = later refl
begins-all syntax settings [] i false text l start later = tt
begins-all syntax settings (line ∷ lines) i false text l start later = let at = (start refl).0 in absurd (omega (arith, l, at))

-- the part of a line begins as the line does
pub part-begins : (syntax : SyntaxAnswers) (settings : Settings) (sigils : Line → Settings → List Sigil) (continues : Line → Bool) → AgreesWith sigils continues syntax → (line : Line) (continued : Bool) (text : Text) →
    (continued ≡ false → BeginsPlain (length (sigils line settings)) text) → (continues line ≡ true → EndsWithBackslash text) → continued ≡ false → BeginsPlain (length (syntax.sigils line settings)) (trimmed (syntax.is_continuation line) text)
part-begins syntax settings sigils continues same line continued text begins ends h =
    plain-trimmed (length (syntax.sigils line settings)) (syntax.is_continuation line) text
    (subst (λ s. BeginsPlain (length s) text) (same.sigils_of line settings) (begins h))
    (λ t. ends (same.goes_on line ∙ t))

-- lines, one by one
pub drop-one : {A : Type 0} (i : ℕ) (xs : List A) (x : A) → i < length xs → x ≡ get_or xs i x → drop i xs ≡ x ∷ drop (i + 1) xs
drop-one i xs x h e =
    let next : suc i ≡ i + 1 = omega arith in
    drop-cons xs i x h ∙ ap (λ y. y ∷ drop (suc i) xs) (sym e) ∙ ap (λ k. x ∷ drop k xs) next

pub drop-none : {A : Type 0} (i : ℕ) (xs : List A) → length xs ≤ i → drop i xs ≡ []
drop-none zero [] h = refl
drop-none (suc i) [] h = refl
drop-none zero (x ∷ xs) h = absurd (omega (arith, h))
drop-none (suc i) (x ∷ xs) h = drop-none i xs (omega (arith, h))

module _ (p : Question → Option Answer) (b : BodyContents) where
  pub one-line : (continued : Bool) (text : Text) (i : ℕ) (lines : List Line) (line : Line) (old new : Log) (r : Result Text Halt) → i < length lines → line ≡ get_or lines i line →
      HasTrace p (and_then (line_steps b line continued) (λ part. lines_text_steps b true (text ++ trimmed (b.syntax.is_continuation line) part) (drop (i + 1) lines))) old new r → HasTrace p (lines_text_steps b continued text (drop i lines)) old new r
  one-line continued text i lines line old new r h e t = subst (λ ls. HasTrace p (lines_text_steps b continued text ls) old new r) (sym (drop-one i lines line h e)) t

  pub no-lines : (continued : Bool) (text : Text) (i : ℕ) (lines : List Line) (old new : Log) (r : Result Text Halt) → length lines ≤ i → HasTrace p (Return text) old new r → HasTrace p (lines_text_steps b continued text (drop i lines)) old new r
  no-lines continued text i lines old new r h t = subst (λ ls. HasTrace p (lines_text_steps b continued text ls) old new r) (sym (drop-none i lines h)) t

-- What stands between the parentheses of an attribute, one after another.
use Rattle.std.proofs.Common.{suc, zero, inl, inr, ◌≡◌, ℕ, ◌+◌, ◌-◌, ◌<◌, ◌≤◌, sym, ◌∙◌, ap, refl, List, [], ◌∷◌, length, drop, Bool, true, false, arith, length-drop, Option, Some, None}
use Rattle.std.specs.Prelude.{if◌then◌else◌}
use Rattle.std.proofs.lemmas.Bool.{cases_lt}
use Rattle.std.proofs.lemmas.List.{drop_all, drop-drop}
use Rattle.just_bench_expressions.specs.declared.lexer.Lexeme.{Lexeme}
use Rattle.just_bench_lines.specs.declared.attributes.Properties.{Properties}
use Rattle.just_bench_lines.specs.Attributes.{after_property, before_others, properties_from, with_properties, with_property}
use Rattle.just_bench_lines.specs.Definitions.{after_part}
use Rattle.just_bench_lines.specs.Places.{is_paren_close, stands}
use Rattle.just_bench_lines.proofs.Fronts.{Front, front, stands_front}

-- what was read and what is left make the whole
pub record Props (all : List Lexeme) (whole : Option (Properties × ℕ)) (at : ℕ) (p : Properties) : Type 0 where
  pub is : whole ≡ properties_from all at 0 p (drop at all)

pub props_start : (all : List Lexeme) (start : ℕ) (p : Properties) → Props all (with_properties all start p) start p
unfolding with_properties
props_start all start p = record { is = refl }

skip : (all : List Lexeme) (at n : ℕ) (p : Properties) (ls : List Lexeme) → n ≤ length ls → properties_from all at n p ls ≡ properties_from all (at + n) 0 p (drop n ls)
skip all at zero p ls h = let same : at ≡ at + 0 = omega arith in ap (λ m. properties_from all m 0 p ls) same
skip all at (suc n) p [] h = absurd (omega (arith, h))
skip all at (suc n) p (l ∷ ls) h =
    let same : at + 1 + n ≡ at + suc n = omega arith in
    skip all (at + 1) n p ls (omega (arith, h)) ∙ ap (λ m. properties_from all m 0 p (drop n ls)) same

-- what stands at a place, the `)` or not
at_one : (all : List Lexeme) (at : ℕ) (p : Properties) (l : Lexeme) (b : Bool) → Front all at l → is_paren_close l.kind ≡ b
    → properties_from all at 0 p (drop at all) ≡ (if b then Some (p, at) else before_others all at (with_property all at p) (λ n more. properties_from all (at + 1) n more (drop (at + 1) all)))
at_one all at p l b here is =
    ap (properties_from all at 0 p) here.dropped
    ∙ ap (λ b. if b then Some (p, at) else before_others all at (with_property all at p) (λ n more. properties_from all (at + 1) n more (drop (at + 1) all))) is

here_is : (all : List Lexeme) (at : ℕ) (p : Properties) (b : Bool) → at < length all → stands is_paren_close all at ≡ b
    → properties_from all at 0 p (drop at all) ≡ (if b then Some (p, at) else before_others all at (with_property all at p) (λ n more. properties_from all (at + 1) n more (drop (at + 1) all)))
here_is all at p b within is = let f = front all at within in at_one all at p f.0 b f.1 (stands_front is_paren_close all at f.0 b f.1 is)

past : (all : List Lexeme) (at : ℕ) (p : Properties) → length all ≤ at → properties_from all at 0 p (drop at all) ≡ None
past all at p none = ap (properties_from all at 0 p) (drop_all at all none)

rest_after : (all : List Lexeme) (at end : ℕ) (p : Properties) → at < end → end ≤ length all → properties_from all (at + 1) (end - (at + 1)) p (drop (at + 1) all) ≡ properties_from all end 0 p (drop end all)
rest_after all at end p onward within =
    let same : at + 1 + (end - (at + 1)) ≡ end = omega (arith, onward) in
    skip all (at + 1) (end - (at + 1)) p (drop (at + 1) all) (omega (arith, onward, within, length-drop (at + 1) all))
    ∙ rw (drop-drop (end - (at + 1)) (at + 1) all, same) refl

pub props_step : (all : List Lexeme) (whole : Option (Properties × ℕ)) (at : ℕ) (p q : Properties) (end next : ℕ) → Props all whole at p → stands is_paren_close all at ≡ false
    → Some (q, end) ≡ with_property all at p → Some next ≡ after_part all end → at < end → end ≤ next → next ≤ length all → Props all whole next q
props_step all whole at p q end next so_far sharp is goes onward on inside = record {
  is = so_far.is ∙ here_is all at p false (omega (arith, onward, on, inside)) sharp
      ∙ ap (λ o. before_others all at o (λ n more. properties_from all (at + 1) n more (drop (at + 1) all))) (sym is)
      ∙ ap (λ o. after_property at q o (λ n more. properties_from all (at + 1) n more (drop (at + 1) all))) (sym goes)
      ∙ rest_after all at next q (omega (arith, onward, on)) inside;
}

pub props_end : (all : List Lexeme) (whole : Option (Properties × ℕ)) (at : ℕ) (p : Properties) → Props all whole at p → at < length all → stands is_paren_close all at ≡ true → Some (p, at) ≡ whole
props_end all whole at p so_far within close = sym (so_far.is ∙ here_is all at p true within close)

pub props_fail : (all : List Lexeme) (whole : Option (Properties × ℕ)) (at : ℕ) (p : Properties) → Props all whole at p → stands is_paren_close all at ≡ false → None ≡ with_property all at p → None ≡ whole
props_fail all whole at p so_far sharp is = elim (cases_lt at (length all)) [
  | inl within ↦ sym (so_far.is ∙ here_is all at p false within sharp ∙ ap (λ o. before_others all at o (λ n more. properties_from all (at + 1) n more (drop (at + 1) all))) (sym is))
  | inr none ↦ sym (so_far.is ∙ past all at p (omega (arith, none)))
]

pub props_stuck : (all : List Lexeme) (whole : Option (Properties × ℕ)) (at : ℕ) (p q : Properties) (end : ℕ) → Props all whole at p → stands is_paren_close all at ≡ false
    → Some (q, end) ≡ with_property all at p → None ≡ after_part all end → None ≡ whole
props_stuck all whole at p q end so_far sharp is goes = elim (cases_lt at (length all)) [
  | inl within ↦ sym (so_far.is ∙ here_is all at p false within sharp
      ∙ ap (λ o. before_others all at o (λ n more. properties_from all (at + 1) n more (drop (at + 1) all))) (sym is)
      ∙ ap (λ o. after_property at q o (λ n more. properties_from all (at + 1) n more (drop (at + 1) all))) (sym goes))
  | inr none ↦ sym (so_far.is ∙ past all at p (omega (arith, none)))
]

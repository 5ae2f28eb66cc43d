-- Parts one after another.
use Rattle.std.proofs.Common.{suc, zero, ◌≡◌, ℕ, ◌+◌, ◌-◌, ◌<◌, ◌≤◌, sym, ◌∙◌, ap, refl, List, [], ◌∷◌, ◌++◌, length, drop, Bool, true, false, arith, append_assoc, length-drop, Option, Some, None}
use Rattle.std.specs.Option.{option_map}
use Rattle.std.specs.Prelude.{if◌then◌else◌}
use Rattle.std.proofs.lemmas.List.{append-nil, drop_all, drop-drop}
use Rattle.just_bench_expressions.specs.declared.lexer.Kind.{Kind}
use Rattle.just_bench_expressions.specs.declared.lexer.Lexeme.{Lexeme}
use Rattle.just_bench_lines.specs.Parts.{before_others, read_parts, parts_from}
use Rattle.just_bench_lines.specs.Places.{GoesOn, stands}
use Rattle.just_bench_lines.proofs.Fronts.{Front, front, stands_front}

-- those that were read before others
abbrev pub after_those : {A : Type 0} → List A → Option (List A × ℕ) → Option (List A × ℕ)
after_those {A} made = option_map {U = List A × ℕ} (λ more. (made ++ more.0, more.1))

-- what was read and what is left make the whole
pub record Parts {A : Type 0} (ends : Bool) (stop : Kind → Bool) (part : List Lexeme → ℕ → Option (A × ℕ)) (all : List Lexeme) (start : ℕ) (made : List A) (at : ℕ) : Type 0 where
  pub whole : read_parts ends stop part all start ≡ after_those made (parts_from ends stop part all at 0 (drop at all))

none_before : {A : Type 0} (o : Option (List A × ℕ)) → o ≡ after_those [] o
none_before None = refl
none_before (Some more) = refl

grown : {A : Type 0} (made : List A) (p : A) (o : Option (List A × ℕ))
    → after_those made (option_map {U = List A × ℕ} (λ more. (p ∷ more.0, more.1)) o) ≡ after_those (made ++ p ∷ []) o
grown made p None = refl
grown made p (Some more) = ap (λ ps. Some (ps, more.1)) (sym (append_assoc made (p ∷ []) more.0))

module _ {A : Type 0} (ends : Bool) (stop : Kind → Bool) (part : List Lexeme → ℕ → Option (A × ℕ)) (all : List Lexeme) where
  skip : (at n : ℕ) (ls : List Lexeme) → n ≤ length ls → parts_from ends stop part all at n ls ≡ parts_from ends stop part all (at + n) 0 (drop n ls)
  skip at zero ls h = let same : at ≡ at + 0 = omega arith in ap (λ m. parts_from ends stop part all m 0 ls) same
  skip at (suc n) [] h = absurd (omega (arith, h))
  skip at (suc n) (l ∷ ls) h =
      let same : at + 1 + n ≡ at + suc n = omega arith in
      skip (at + 1) n ls (omega (arith, h)) ∙ ap (λ m. parts_from ends stop part all m 0 (drop n ls)) same

  pub parts_start : (start : ℕ) (made : List A) → made ≡ [] → Parts ends stop part all start made start
  unfolding read_parts
  parts_start start made none = record { whole = rw none (none_before (parts_from ends stop part all start 0 (drop start all))) }

  -- what stands at a place, the end or not
  at_one : (at : ℕ) (l : Lexeme) (b : Bool) → Front all at l → stop l.kind ≡ b
      → parts_from ends stop part all at 0 (drop at all) ≡ (if b then Some ([], at) else before_others at (part all at) (λ n. parts_from ends stop part all (at + 1) n (drop (at + 1) all)))
  at_one at l b here is =
      ap (parts_from ends stop part all at 0) here.dropped
      ∙ ap (λ b. if b then Some ([], at) else before_others at (part all at) (λ n. parts_from ends stop part all (at + 1) n (drop (at + 1) all))) is

  here_is : (at : ℕ) (b : Bool) → at < length all → stands stop all at ≡ b
      → parts_from ends stop part all at 0 (drop at all) ≡ (if b then Some ([], at) else before_others at (part all at) (λ n. parts_from ends stop part all (at + 1) n (drop (at + 1) all)))
  here_is at b within is = let f = front all at within in at_one at f.0 b f.1 (stands_front stop all at f.0 b f.1 is)

  rest_after : (at end : ℕ) → GoesOn all at end → parts_from ends stop part all (at + 1) (end - (at + 1)) (drop (at + 1) all) ≡ parts_from ends stop part all end 0 (drop end all)
  rest_after at end on =
      let same : at + 1 + (end - (at + 1)) ≡ end = omega (arith, on.onward) in
      skip (at + 1) (end - (at + 1)) (drop (at + 1) all) (omega (arith, on.onward, on.within, length-drop (at + 1) all))
      ∙ rw (drop-drop (end - (at + 1)) (at + 1) all, same) refl

  pub parts_push : (start : ℕ) (made : List A) (at : ℕ) (p : A) (end : ℕ) (made' : List A)
      → Parts ends stop part all start made at → at < length all → stands stop all at ≡ false → Some (p, end) ≡ part all at → GoesOn all at end → made' ≡ made ++ p ∷ [] → Parts ends stop part all start made' end
  parts_push start made at p end made' so_far within sharp is on pushed = rw pushed (record {
    whole = so_far.whole ∙ ap (after_those made) (here_is at false within sharp
        ∙ ap (λ o. before_others at o (λ n. parts_from ends stop part all (at + 1) n (drop (at + 1) all))) (sym is)
        ∙ ap (option_map {U = List A × ℕ} (λ more. (p ∷ more.0, more.1))) (rest_after at end on))
        ∙ grown made p (parts_from ends stop part all end 0 (drop end all));
  })

  pub parts_stop : (start : ℕ) (made : List A) (at : ℕ) → Parts ends stop part all start made at → at < length all → stands stop all at ≡ true → Some (made, at) ≡ read_parts ends stop part all start
  parts_stop start made at so_far within stopped =
      sym (so_far.whole ∙ ap (after_those made) (here_is at true within stopped) ∙ ap (λ ps. Some (ps, at)) (append-nil made))

  pub parts_fail : (start : ℕ) (made : List A) (at : ℕ) → Parts ends stop part all start made at → at < length all → stands stop all at ≡ false → None ≡ part all at
      → None ≡ read_parts ends stop part all start
  parts_fail start made at so_far within sharp is =
      sym (so_far.whole ∙ ap (after_those made) (here_is at false within sharp ∙ ap (λ o. before_others at o (λ n. parts_from ends stop part all (at + 1) n (drop (at + 1) all))) (sym is)))

-- at the end of the line
pub parts_cut : {A : Type 0} (stop : Kind → Bool) (part : List Lexeme → ℕ → Option (A × ℕ)) (all : List Lexeme) (start : ℕ) (made : List A) (at : ℕ)
    → Parts false stop part all start made at → length all ≤ at → None ≡ read_parts false stop part all start
parts_cut stop part all start made at so_far past = sym (so_far.whole ∙ ap (λ ls. after_those made (parts_from false stop part all at 0 ls)) (drop_all at all past))

pub parts_past : {A : Type 0} (stop : Kind → Bool) (part : List Lexeme → ℕ → Option (A × ℕ)) (all : List Lexeme) (start : ℕ) (made : List A) (at : ℕ)
    → Parts true stop part all start made at → length all ≤ at → Some (made, at) ≡ read_parts true stop part all start
parts_past stop part all start made at so_far past =
    sym (so_far.whole ∙ ap (λ ls. after_those made (parts_from true stop part all at 0 ls)) (drop_all at all past) ∙ ap (λ ps. Some (ps, at)) (append-nil made))

-- Parts one after another.
use Rattle.std.proofs.Common.{suc, zero, ◌≡◌, ℕ, ◌+◌, ◌-◌, ◌<◌, ◌≤◌, sym, ◌∙◌, ap, refl, List, [], ◌∷◌, length, drop, Bool, true, false, arith, length-drop, Result, Ok, Err}
use Rattle.std.specs.Prelude.{if◌then◌else◌}
use Rattle.std.proofs.lemmas.List.{drop_all, drop-drop}
use Rattle.just_bench_expressions.specs.declared.lexer.Kind.{Kind}
use Rattle.just_bench_expressions.specs.declared.lexer.Lexeme.{Lexeme}
use Rattle.just_bench_lines.specs.Places.{GoesOn, stands}
use Rattle.just_bench_lines.proofs.Fronts.{Front, front, stands_front}
use Rattle.just_bench_stops.specs.declared.halt.Halt.{Halt}
use Rattle.just_bench_stops.specs.Marks.{GoesTo, goes_on_from}
use Rattle.just_bench_stops.proofs.Fails.{fails, same_fault}
use Rattle.just_bench_stops.specs.Parts.{ends_there, parts_end, parts_end_from}

-- what was read and what is left make the whole
pub record Walked (ends : Bool) (stop : Kind → Bool) (part : List Lexeme → ℕ → Result ℕ ℕ) (all : List Lexeme) (start at : ℕ) : Type 0 where
  pub whole : parts_end ends stop part all start ≡ parts_end_from ends stop part all at 0 (drop at all)
  pub onward : start ≤ at

module _ (ends : Bool) (stop : Kind → Bool) (part : List Lexeme → ℕ → Result ℕ ℕ) (all : List Lexeme) where
  skip : (at n : ℕ) (ls : List Lexeme) → n ≤ length ls → parts_end_from ends stop part all at n ls ≡ parts_end_from ends stop part all (at + n) 0 (drop n ls)
  skip at zero ls h = let same : at ≡ at + 0 = omega arith in ap (λ m. parts_end_from ends stop part all m 0 ls) same
  skip at (suc n) [] h = absurd (omega (arith, h))
  skip at (suc n) (l ∷ ls) h =
      let same : at + 1 + n ≡ at + suc n = omega arith in
      skip (at + 1) n ls (omega (arith, h)) ∙ ap (λ m. parts_end_from ends stop part all m 0 (drop n ls)) same

  pub parts_start : (start : ℕ) → Walked ends stop part all start start
  unfolding parts_end
  parts_start start = record { whole = refl; onward = omega arith }

  -- what stands at a place, the end or not
  at_one : (at : ℕ) (l : Lexeme) (b : Bool) → Front all at l → stop l.kind ≡ b
      → parts_end_from ends stop part all at 0 (drop at all) ≡ (if b then Ok at else goes_on_from (part all at) (λ end. parts_end_from ends stop part all (at + 1) (end - (at + 1)) (drop (at + 1) all)))
  at_one at l b here is =
      ap (parts_end_from ends stop part all at 0) here.dropped
      ∙ ap (λ b. if b then Ok at else goes_on_from (part all at) (λ end. parts_end_from ends stop part all (at + 1) (end - (at + 1)) (drop (at + 1) all))) is

  here_is : (at : ℕ) (b : Bool) → at < length all → stands stop all at ≡ b
      → parts_end_from ends stop part all at 0 (drop at all) ≡ (if b then Ok at else goes_on_from (part all at) (λ end. parts_end_from ends stop part all (at + 1) (end - (at + 1)) (drop (at + 1) all)))
  here_is at b within is = let f = front all at within in at_one at f.0 b f.1 (stands_front stop all at f.0 b f.1 is)

  rest_after : (at end : ℕ) → GoesOn all at end → parts_end_from ends stop part all (at + 1) (end - (at + 1)) (drop (at + 1) all) ≡ parts_end_from ends stop part all end 0 (drop end all)
  rest_after at end on =
      let same : at + 1 + (end - (at + 1)) ≡ end = omega (arith, on.onward) in
      skip (at + 1) (end - (at + 1)) (drop (at + 1) all) (omega (arith, on.onward, on.within, length-drop (at + 1) all))
      ∙ rw (drop-drop (end - (at + 1)) (at + 1) all, same) refl

  pub parts_push : (start at end : ℕ) → Walked ends stop part all start at → at < length all → stands stop all at ≡ false → Ok end ≡ part all at → GoesOn all at end → Walked ends stop part all start end
  parts_push start at end so_far within sharp is on = record {
    whole = so_far.whole ∙ here_is at false within sharp
        ∙ ap (λ r. goes_on_from r (λ end. parts_end_from ends stop part all (at + 1) (end - (at + 1)) (drop (at + 1) all))) (sym is)
        ∙ rest_after at end on;
    onward = omega (arith, so_far.onward, on.onward);
  }

  pub parts_stop : (start at : ℕ) → Walked ends stop part all start at → at < length all → stands stop all at ≡ true → Ok at ≡ parts_end ends stop part all start
  parts_stop start at so_far within stopped = sym (so_far.whole ∙ here_is at true within stopped)

  pub parts_fail : (start at : ℕ) (h : Halt) → Walked ends stop part all start at → at < length all → stands stop all at ≡ false → GoesTo (Err h) (part all at) → GoesTo (Err h) (parts_end ends stop part all start)
  parts_fail start at h so_far within sharp is =
      same_fault h (goes_on_from (part all at) (λ end. parts_end_from ends stop part all (at + 1) (end - (at + 1)) (drop (at + 1) all))) (parts_end ends stop part all start)
      (sym (so_far.whole ∙ here_is at false within sharp)) (fails h (part all at) (λ end. parts_end_from ends stop part all (at + 1) (end - (at + 1)) (drop (at + 1) all)) is)

  pub parts_past : (start at : ℕ) → Walked ends stop part all start at → length all ≤ at → ends_there ends at ≡ parts_end ends stop part all start
  parts_past start at so_far past = sym (so_far.whole ∙ ap (parts_end_from ends stop part all at 0) (drop_all at all past))

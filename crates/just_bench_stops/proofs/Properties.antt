-- What an attribute says of how its parameter is given.
use Rattle.std.proofs.Common.{suc, zero, ◌≡◌, ℕ, ◌+◌, ◌-◌, ◌<◌, ◌≤◌, sym, ◌∙◌, ap, refl, List, [], ◌∷◌, length, drop, Bool, true, false, arith, length-drop, Result, Ok, Err}
use Rattle.std.specs.Prelude.{if◌then◌else◌}
use Rattle.std.proofs.lemmas.List.{drop_all, drop-drop}
use Rattle.just_bench_expressions.specs.declared.lexer.Lexeme.{Lexeme}
use Rattle.just_bench_lines.specs.Places.{GoesOn, stands, is_paren_close}
use Rattle.just_bench_lines.proofs.Fronts.{Front, front, stands_front}
use Rattle.just_bench_stops.specs.declared.attributes.Seen.{Seen}
use Rattle.just_bench_stops.specs.declared.halt.Halt.{Halt}
use Rattle.just_bench_stops.specs.declared.halt.Halt.TheVariants as halt
use Rattle.just_bench_stops.specs.Marks.{GoesTo}
use Rattle.just_bench_stops.specs.Attributes.{Sees, on_seen, properties_end, properties_end_from, property_end, unseen}

-- what was read and what is left make the whole
pub record Said (all : List Lexeme) (start at : ℕ) (seen : Seen) : Type 0 where
  pub whole : properties_end all start ≡ properties_end_from all at 0 seen (drop at all)

pub properties_start : (all : List Lexeme) (start : ℕ) (seen : Seen) → seen ≡ unseen → Said all start start seen
unfolding properties_end
properties_start all start seen none = record { whole = ap (λ s. properties_end_from all start 0 s (drop start all)) (sym none) }

skip : (all : List Lexeme) (at n : ℕ) (seen : Seen) (ls : List Lexeme) → n ≤ length ls → properties_end_from all at n seen ls ≡ properties_end_from all (at + n) 0 seen (drop n ls)
skip all at zero seen ls h = let same : at ≡ at + 0 = omega arith in ap (λ m. properties_end_from all m 0 seen ls) same
skip all at (suc n) seen [] h = absurd (omega (arith, h))
skip all at (suc n) seen (l ∷ ls) h =
    let same : at + 1 + n ≡ at + suc n = omega arith in
    skip all (at + 1) n seen ls (omega (arith, h)) ∙ ap (λ m. properties_end_from all m 0 seen (drop n ls)) same

abbrev others : List Lexeme → ℕ → ℕ → Seen → Result ℕ ℕ
others all at end more = properties_end_from all (at + 1) (end - (at + 1)) more (drop (at + 1) all)

at_one : (all : List Lexeme) (at : ℕ) (seen : Seen) (l : Lexeme) (b : Bool) → Front all at l → is_paren_close l.kind ≡ b
    → properties_end_from all at 0 seen (drop at all) ≡ (if b then Ok at else on_seen (property_end all at seen) (others all at))
at_one all at seen l b here is = ap (properties_end_from all at 0 seen) here.dropped ∙ ap (λ b. if b then Ok at else on_seen (property_end all at seen) (others all at)) is

here_is : (all : List Lexeme) (at : ℕ) (seen : Seen) (b : Bool) → at < length all → stands is_paren_close all at ≡ b
    → properties_end_from all at 0 seen (drop at all) ≡ (if b then Ok at else on_seen (property_end all at seen) (others all at))
here_is all at seen b within is = let f = front all at within in at_one all at seen f.0 b f.1 (stands_front is_paren_close all at f.0 b f.1 is)

rest_after : (all : List Lexeme) (at end : ℕ) (seen : Seen) → GoesOn all at end → others all at end seen ≡ properties_end_from all end 0 seen (drop end all)
rest_after all at end seen on =
    let same : at + 1 + (end - (at + 1)) ≡ end = omega (arith, on.onward) in
    skip all (at + 1) (end - (at + 1)) seen (drop (at + 1) all) (omega (arith, on.onward, on.within, length-drop (at + 1) all))
    ∙ rw (drop-drop (end - (at + 1)) (at + 1) all, same) refl

pub properties_push : (all : List Lexeme) (start at end : ℕ) (seen more : Seen) → Said all start at seen → at < length all → stands is_paren_close all at ≡ false → Ok (end, more) ≡ property_end all at seen → GoesOn all at end
    → Said all start end more
properties_push all start at end seen more so_far within sharp is on = record {
  whole = so_far.whole ∙ here_is all at seen false within sharp ∙ ap (λ r. on_seen r (others all at)) (sym is) ∙ rest_after all at end more on;
}

pub properties_stop : (all : List Lexeme) (start at : ℕ) (seen : Seen) → Said all start at seen → at < length all → stands is_paren_close all at ≡ true → Ok at ≡ properties_end all start
properties_stop all start at seen so_far within stopped = sym (so_far.whole ∙ here_is all at seen true within stopped)

same_fault : (h : Halt) (more : Seen) (it : Result (ℕ × Seen) ℕ) (next : ℕ → Seen → Result ℕ ℕ) (whole : Result ℕ ℕ) → whole ≡ on_seen it next → Sees (Err h) more it → GoesTo (Err h) whole
same_fault (halt.At at) more it next whole same is = ap (λ r. on_seen r next) is ∙ sym same
same_fault halt.Memory more it next whole same is = tt

pub properties_fail : (all : List Lexeme) (start at : ℕ) (h : Halt) (seen more : Seen) → Said all start at seen → at < length all → stands is_paren_close all at ≡ false → Sees (Err h) more (property_end all at seen)
    → GoesTo (Err h) (properties_end all start)
properties_fail all start at h seen more so_far within sharp is =
    same_fault h more (property_end all at seen) (others all at) (properties_end all start) (so_far.whole ∙ here_is all at seen false within sharp) is

pub properties_past : (all : List Lexeme) (start at : ℕ) (seen : Seen) → Said all start at seen → length all ≤ at → Err at ≡ properties_end all start
properties_past all start at seen so_far past = sym (so_far.whole ∙ ap (properties_end_from all at 0 seen) (drop_all at all past))

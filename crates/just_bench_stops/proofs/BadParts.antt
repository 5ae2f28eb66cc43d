-- The first part of a line of a body that is none.
use Rattle.std.proofs.Common.{suc, zero, ◌≡◌, ℕ, ◌+◌, ◌-◌, ◌<◌, ◌≤◌, sym, ◌∙◌, ap, refl, subst, List, [], ◌∷◌, length, drop, arith, length-drop, Option, Some, None, Result}
use Rattle.std.specs.Prelude.{IfOk, IfSome}
use Rattle.std.proofs.lemmas.List.{drop_all, drop-drop}
use Rattle.just_names.specs.Token.{Place}
use Rattle.just_bench_expressions.specs.declared.lines.TextLine.{TextLine}
use Rattle.just_bench_lines.specs.declared.body.Part.{Part}
use Rattle.just_bench_lines.specs.Body.{EndsAt, part}
use Rattle.just_bench_lines.proofs.Fronts.{front}
use Rattle.just_bench_stops.specs.Body.{bad_from, bad_part, body_stop, interpolation_stop, or_later, stop_in}
use Rattle.just_bench_stops.specs.Tokens.{rest_of}

-- each part before a place is one
pub record Parted (path text : List ℕ) (line : TextLine) (start at : ℕ) : Type 0 where
  pub whole : bad_part path text line start ≡ bad_part path text line at

pub parts_start : (path text : List ℕ) (line : TextLine) (start : ℕ) → Parted path text line start start
parts_start path text line start = record { whole = refl }

skip : (one : ℕ → Option Part) (at n : ℕ) (bytes : List ℕ) → n ≤ length bytes → bad_from one at n bytes ≡ bad_from one (at + n) 0 (drop n bytes)
skip one at zero bytes h = let same : at ≡ at + 0 = omega arith in ap (λ m. bad_from one m 0 bytes) same
skip one at (suc n) [] h = absurd (omega (arith, h))
skip one at (suc n) (b ∷ bytes) h =
    let same : at + 1 + n ≡ at + suc n = omega arith in
    skip one (at + 1) n bytes (omega (arith, h)) ∙ ap (λ m. bad_from one m 0 (drop n bytes)) same

rest_after : (one : ℕ → Option Part) (at end : ℕ) (bytes : List ℕ) → at < end → end ≤ length bytes → bad_from one (at + 1) (end - (at + 1)) (drop (at + 1) bytes) ≡ bad_from one end 0 (drop end bytes)
rest_after one at end bytes onward within =
    let same : at + 1 + (end - (at + 1)) ≡ end = omega (arith, onward) in
    skip one (at + 1) (end - (at + 1)) (drop (at + 1) bytes) (omega (arith, onward, within, length-drop (at + 1) bytes))
    ∙ rw (drop-drop (end - (at + 1)) (at + 1) bytes, same) refl

at_one : (one : ℕ → Option Part) (at : ℕ) (bytes : List ℕ) (o : Option Part) → at < length bytes → o ≡ one at
    → bad_from one at 0 (drop at bytes) ≡ or_later at o (λ n. bad_from one (at + 1) n (drop (at + 1) bytes))
at_one one at bytes o within is =
    let f = front bytes at within in
    ap (bad_from one at 0) f.1.dropped ∙ ap (λ p. or_later at p (λ n. bad_from one (at + 1) n (drop (at + 1) bytes))) (sym is)

pub parts_push : (path text : List ℕ) (line : TextLine) (start at : ℕ) (p : Part) → Parted path text line start at → at < length line.text → Some p ≡ part path text line at → EndsAt text line at p.end
    → Parted path text line start p.end
unfolding bad_part
parts_push path text line start at p so_far within is ends = record {
  whole = so_far.whole ∙ at_one (part path text line) at line.text (Some p) within is ∙ rest_after (part path text line) at p.end line.text ends.onward ends.within;
}

first_bad : (path text : List ℕ) (line : TextLine) (start at : ℕ) → Parted path text line start at → at < length line.text → None ≡ part path text line at → bad_part path text line start ≡ Some at
unfolding bad_part
first_bad path text line start at so_far within is = so_far.whole ∙ at_one (part path text line) at line.text None within is

none_bad : (path text : List ℕ) (line : TextLine) (start at : ℕ) → Parted path text line start at → length line.text ≤ at → bad_part path text line start ≡ None
unfolding bad_part
none_bad path text line start at so_far past = so_far.whole ∙ ap (bad_from (part path text line) at 0) (drop_all at line.text past)

pub parts_stop : {E : Type 0} (path text : List ℕ) (line : TextLine) (start at : ℕ) (r : Result Place E) → Parted path text line start at → at < length line.text → None ≡ part path text line at
    → IfOk r (λ token. token ≡ interpolation_stop path text line at) → IfOk r (λ token. token ≡ body_stop path text line start)
unfolding body_stop
parts_stop path text line start at r so_far within is told =
    let here : interpolation_stop path text line at ≡ stop_in path text line (bad_part path text line start) = sym (ap (stop_in path text line) (first_bad path text line start at so_far within is)) in
    subst (λ it. IfOk r (λ token. token ≡ it)) here told

pub parts_end : (path text : List ℕ) (line : TextLine) (start at : ℕ) → Parted path text line start at → length line.text ≤ at → rest_of path text line (length line.text) ≡ body_stop path text line start
unfolding body_stop
parts_end path text line start at so_far past = sym (ap (stop_in path text line) (none_bad path text line start at so_far past))

-- a part that is told as none is none
bad_is_by : (one : ℕ → Option Part) (at : ℕ) (o : Option Part) (others : ℕ → Option ℕ) → o ≡ one at → ((n : ℕ) → IfSome (others n) (λ k. None ≡ one k)) → IfSome (or_later at o others) (λ k. None ≡ one k)
bad_is_by one at None others is more = is
bad_is_by one at (Some p) others is more = more (p.end - (at + 1))

bad_is : (one : ℕ → Option Part) (at skip : ℕ) (bytes : List ℕ) → IfSome (bad_from one at skip bytes) (λ k. None ≡ one k)
bad_is one at skip [] = tt
bad_is one at (suc skip) (b ∷ rest) = bad_is one (at + 1) skip rest
bad_is one at zero (b ∷ rest) = bad_is_by one at (one at) (λ n. bad_from one (at + 1) n rest) refl (λ n. bad_is one (at + 1) n rest)

pub bad_part_is : (path text : List ℕ) (line : TextLine) (start : ℕ) → IfSome (bad_part path text line start) (λ k. None ≡ part path text line k)
unfolding bad_part
bad_part_is path text line start = bad_is (part path text line) start 0 (drop start line.text)

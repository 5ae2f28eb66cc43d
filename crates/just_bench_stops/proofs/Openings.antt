-- Where an interpolation begins.
use Rattle.std.proofs.Common.{suc, zero, ◌≡◌, ℕ, ◌+◌, ◌-◌, ◌≤◌, sym, ◌∙◌, ap, refl, subst, List, ◌∷◌, length, drop, get_or, arith, length-drop, Option, Some, None}
use Rattle.std.specs.Str.{IsCharBoundary, IsUtf8}
use Rattle.std.proofs.lemmas.List.{get_or-drop}
use Rattle.just_bench_expressions.specs.declared.lines.TextLine.{TextLine}
use Rattle.just_bench_expressions.specs.Lines.{IsLineOf}
use Rattle.just_bench_expressions.proofs.Lexing.{boundary_after}
use Rattle.just_bench_lines.specs.Body.{part, part_by, twice_at}
use Rattle.just_bench_lines.proofs.Pieces.{twice_front}

-- a part that is none begins with `{{`
opens_by : (path text : List ℕ) (line : TextLine) (start : ℕ) (o : Option ℕ) → None ≡ part_by path text line start o → Some 0 ≡ o
opens_by path text line start None is = cc
opens_by path text line start (Some zero) is = refl
opens_by path text line start (Some (suc n)) is = cc

pub opens : (path text : List ℕ) (line : TextLine) (start : ℕ) → None ≡ part path text line start → Some 0 ≡ twice_at 123 (drop start line.text)
unfolding part
opens path text line start is = opens_by path text line start (twice_at 123 (drop start line.text)) is

-- behind it the line goes on, or ends
pub opens_within : (line : TextLine) (start : ℕ) → Some 0 ≡ twice_at 123 (drop start line.text) → start + 2 ≤ length line.text
opens_within line start is =
    let two = twice_front 123 (drop start line.text) (sym is) in
    let count : length (drop start line.text) ≡ length (123 ∷ 123 ∷ two.0) = ap length two.1 in
    omega (arith, count, length-drop start line.text)

-- and no character is cut
pub opens_whole : (text : List ℕ) (line : TextLine) (start : ℕ) → IsUtf8 text → IsLineOf text line → Some 0 ≡ twice_at 123 (drop start line.text) → IsCharBoundary text (line.offset + (start + 2))
opens_whole text line start utf8 of is =
    let two = twice_front 123 (drop start line.text) (sym is) in
    let place : start + 2 - 1 ≡ start + 1 = omega arith in
    let byte : get_or line.text (start + 2 - 1) 0 ≡ 123 = ap (λ i. get_or line.text i 0) place ∙ sym (get_or-drop start line.text 1 0) ∙ ap (λ bs. get_or bs 1 0) two.1 in
    let same : line.offset + start + 2 ≡ line.offset + (start + 2) = omega arith in
    subst (IsCharBoundary text) same (boundary_after text line start 2 utf8 of (omega arith) (opens_within line start is) (omega (arith, byte)))

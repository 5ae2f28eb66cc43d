-- The parts of a line of a body, one after another.
use Rattle.std.proofs.Common.{suc, zero, ◌≡◌, ℕ, ◌+◌, ◌-◌, ◌<◌, ◌≤◌, sym, ◌∙◌, ap, refl, List, [], ◌∷◌, ◌++◌, length, drop, arith, append_assoc, length-drop, Option, Some, None}
use Rattle.std.specs.Option.{option_map}
use Rattle.std.proofs.lemmas.List.{append-nil, drop_all, drop-drop}
use Rattle.just_ast_definitions.specs.declared.line.Fragment.{Fragment}
use Rattle.just_ast_expressions.specs.declared.list_use.ListUse.{ListUse}
use Rattle.just_bench_expressions.specs.declared.lines.TextLine.{TextLine}
use Rattle.just_bench_lines.specs.declared.body.BodyLine.{BodyLine}
use Rattle.just_bench_lines.specs.declared.body.Part.{Part}
use Rattle.just_bench_lines.specs.Body.{EndsAt, before_others, body_line, line_of_parts, part, parts_from}
use Rattle.just_bench_lines.proofs.Fronts.{front}

-- a line with parts before it
abbrev pub joined : List Fragment → List ListUse → BodyLine → BodyLine
joined fragments lists more = record {
  line = record { number = more.line.number; fragments = fragments ++ more.line.fragments };
  lists = lists ++ more.lists;
}

-- what was read and what is left make the whole
pub record Joined (path text : List ℕ) (line : TextLine) (start : ℕ) (fragments : List Fragment) (lists : List ListUse) (at : ℕ) : Type 0 where
  pub whole : body_line path text line start ≡ option_map (joined fragments lists) (body_line path text line at)

none_before : (o : Option BodyLine) → o ≡ option_map (joined [] []) o
none_before None = refl
none_before (Some more) = refl

pub joined_start : (path text : List ℕ) (line : TextLine) (start : ℕ) (fragments : List Fragment) (lists : List ListUse) → fragments ≡ [] → lists ≡ [] → Joined path text line start fragments lists start
joined_start path text line start fragments lists empty none = rw (empty, none) (record { whole = none_before (body_line path text line start) })

skip : (one : ℕ → Option Part) (at n : ℕ) (bytes : List ℕ) → n ≤ length bytes → parts_from one at n bytes ≡ parts_from one (at + n) 0 (drop n bytes)
skip one at zero bytes h = let same : at ≡ at + 0 = omega arith in ap (λ m. parts_from one m 0 bytes) same
skip one at (suc n) [] h = absurd (omega (arith, h))
skip one at (suc n) (b ∷ bytes) h =
    let same : at + 1 + n ≡ at + suc n = omega arith in
    skip one (at + 1) n bytes (omega (arith, h)) ∙ ap (λ m. parts_from one m 0 (drop n bytes)) same

pub rest_after : (one : ℕ → Option Part) (at end : ℕ) (bytes : List ℕ) → at < end → end ≤ length bytes → parts_from one (at + 1) (end - (at + 1)) (drop (at + 1) bytes) ≡ parts_from one end 0 (drop end bytes)
rest_after one at end bytes onward within =
    let same : at + 1 + (end - (at + 1)) ≡ end = omega (arith, onward) in
    skip one (at + 1) (end - (at + 1)) (drop (at + 1) bytes) (omega (arith, onward, within, length-drop (at + 1) bytes))
    ∙ rw (drop-drop (end - (at + 1)) (at + 1) bytes, same) refl

pub at_one : (one : ℕ → Option Part) (at : ℕ) (bytes : List ℕ) → at < length bytes → parts_from one at 0 (drop at bytes) ≡ before_others at (one at) (λ n. parts_from one (at + 1) n (drop (at + 1) bytes))
at_one one at bytes within = let f = front bytes at within in ap (parts_from one at 0) f.1.dropped

before_line : (number : ℕ) (p : Part) (more : Option (List Part)) → option_map (line_of_parts number) (option_map (λ others. p ∷ others) more) ≡ option_map (joined (p.fragment ∷ []) p.lists) (option_map (line_of_parts number) more)
before_line number p None = refl
before_line number p (Some more) = refl

-- a part and what follows it
one_more : (path text : List ℕ) (line : TextLine) (at : ℕ) (p : Part) → at < length line.text → Some p ≡ part path text line at → EndsAt text line at p.end
    → body_line path text line at ≡ option_map (joined (p.fragment ∷ []) p.lists) (body_line path text line p.end)
unfolding body_line
one_more path text line at p within is ends =
    ap (option_map (line_of_parts line.number)) (at_one (part path text line) at line.text within
    ∙ ap (λ o. before_others at o (λ n. parts_from (part path text line) (at + 1) n (drop (at + 1) line.text))) (sym is)
    ∙ ap (option_map (λ others. p ∷ others)) (rest_after (part path text line) at p.end line.text ends.onward ends.within))
    ∙ before_line line.number p (parts_from (part path text line) p.end 0 (drop p.end line.text))

grown : (fragments : List Fragment) (lists : List ListUse) (p : Part) (o : Option BodyLine)
    → option_map (joined fragments lists) (option_map (joined (p.fragment ∷ []) p.lists) o) ≡ option_map (joined (fragments ++ p.fragment ∷ []) (lists ++ p.lists)) o
grown fragments lists p None = refl
grown fragments lists p (Some more) = rw (append_assoc fragments (p.fragment ∷ []) more.line.fragments, append_assoc lists p.lists more.lists) refl

pub joined_push : (path text : List ℕ) (line : TextLine) (start : ℕ) (fragments : List Fragment) (lists : List ListUse) (at : ℕ) (p : Part) (fragments' : List Fragment) (lists' : List ListUse)
    → Joined path text line start fragments lists at → at < length line.text → Some p ≡ part path text line at → EndsAt text line at p.end → fragments' ≡ fragments ++ p.fragment ∷ [] → lists' ≡ lists ++ p.lists
    → Joined path text line start fragments' lists' p.end
joined_push path text line start fragments lists at p fragments' lists' so_far within is ends pushed added = rw (pushed, added) (record {
  whole = so_far.whole ∙ ap (option_map (joined fragments lists)) (one_more path text line at p within is ends) ∙ grown fragments lists p (body_line path text line p.end);
})

pub joined_fail : (path text : List ℕ) (line : TextLine) (start : ℕ) (fragments : List Fragment) (lists : List ListUse) (at : ℕ) → Joined path text line start fragments lists at → at < length line.text
    → None ≡ part path text line at → None ≡ body_line path text line start
unfolding body_line
joined_fail path text line start fragments lists at so_far within is =
    sym (so_far.whole ∙ ap (λ o. option_map (joined fragments lists) (option_map (line_of_parts line.number) o)) (at_one (part path text line) at line.text within
    ∙ ap (λ o. before_others at o (λ n. parts_from (part path text line) (at + 1) n (drop (at + 1) line.text))) (sym is)))

pub joined_end : (path text : List ℕ) (line : TextLine) (start : ℕ) (fragments : List Fragment) (lists : List ListUse) (at : ℕ) → Joined path text line start fragments lists at → length line.text ≤ at
    → Some (record { line = record { number = line.number; fragments = fragments }; lists = lists }) ≡ body_line path text line start
unfolding body_line
joined_end path text line start fragments lists at so_far past =
    sym (so_far.whole ∙ ap (λ bytes. option_map (joined fragments lists) (option_map (line_of_parts line.number) (parts_from (part path text line) at 0 bytes))) (drop_all at line.text past)
    ∙ rw (append-nil fragments, append-nil lists) refl)

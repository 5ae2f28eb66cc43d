-- Cutting a text into lines.
use Rattle.std.proofs.Common.{zero, suc, Some, ◌≡◌, ℕ, ◌+◌, ◌-◌, ◌<◌, ◌≤◌, sym, ◌∙◌, ap, refl, subst, List, [], ◌∷◌, ◌++◌, length, map, drop, get_or, true, false, arith, append_assoc, add-one, length-drop}
use Rattle.std.proofs.Math.Seq.{drop-cons}
use Rattle.std.specs.List.{All, slice_split, slice_range, slice_get, join_with_byte}
use Rattle.std.proofs.lemmas.Option.{slice_get_read}
use Rattle.std.specs.Str.{IsCharBoundary, IsUtf8}
use Rattle.std.proofs.lemmas.Grind.{common_steps}
use Rattle.std.proofs.lemmas.List.Splits.{slice_split_at, slice_split_none, join_with_byte-slice_split}
use Rattle.std.proofs.lemmas.List.Folds.{drop_split}
use Rattle.std.proofs.lemmas.List.Elements.{All-push, All-nil}
use Rattle.std.proofs.lemmas.List.{get_or-take, get_or_default, drop_all, append-nil, length_push}
use Rattle.std.proofs.lemmas.Str.{IsCharBoundary-start, IsCharBoundary-end, IsCharBoundary-before_ascii, IsCharBoundary-after_ascii}
use Rattle.just_bench_expressions.specs.declared.lines.TextLine.{TextLine}
use Rattle.just_bench_expressions.specs.Lines.{is_newline, lines_from, lines_of, IsLineOf}

-- the lines so far, and those of what is left, are all lines; from `start` to `end` stands no line end
pub record Cut (text : List ℕ) (all : List TextLine) (start end : ℕ) : Type 0 where
  pub whole : all ++ lines_from (length all) start (slice_split is_newline (drop start text)) ≡ lines_of text
  pub ordered : start ≤ end
  pub within : end ≤ length text
  pub clear : (k : ℕ) → k < end - start → is_newline (get_or (drop start text) k 0) ≡ false
  pub boundary : IsCharBoundary text start
  pub lines : All (IsLineOf text) all

abbrev pub line_at : ℕ → ℕ → List ℕ → TextLine
line_at number offset text = record { number = number; offset = offset; text = text }

pub none_left : (k at : ℕ) → k < at - at → ⊥
none_left k at h = omega (arith, h)

pub Cut-start : (text : List ℕ) (all : List TextLine) → all ≡ [] → IsUtf8 text → Cut text all 0 0
Cut-start text all none utf8 = record {
  whole = rw none refl;
  ordered = omega arith;
  within = omega arith;
  clear = λ k h. absurd (none_left k 0 h);
  boundary = IsCharBoundary-start text utf8;
  lines = rw none (All-nil (IsLineOf text));
}

pub length_part : (text : List ℕ) (start end : ℕ) → start ≤ end → end ≤ length text → length (slice_range text start end) ≡ end - start
length_part text start end ordered within = grind (arith, common_steps)

pub clear_part : (text : List ℕ) (all : List TextLine) (start end : ℕ) → Cut text all start end → All (λ b. is_newline b ≡ false) (slice_range text start end)
clear_part text all start end cut = λ k d h.
    let below : k < end - start = omega (arith, h, length_part text start end cut.ordered cut.within) in
    let inside : k < length (drop start text) = omega (arith, below, cut.within, length-drop start text) in
    rw (get_or-take (end - start) (drop start text) k d below, get_or_default (drop start text) k d 0 inside) (cut.clear k below)

pub is_line : (text : List ℕ) (number start end : ℕ) → start ≤ end → end ≤ length text → IsCharBoundary text start → IsCharBoundary text end → IsLineOf text (line_at number start (slice_range text start end))
is_line text number start end ordered within starts ends =
    let same : start + length (slice_range text start end) ≡ end = omega (arith, ordered, length_part text start end ordered within) in
    record {
      within = subst (λ e. e ≤ length text) (sym same) within;
      same = subst (λ e. slice_range text start e ≡ slice_range text start end) (sym same) refl;
      starts = starts;
      ends = subst (λ e. IsCharBoundary text e) (sym same) ends;
    }

pub parts_at : (text : List ℕ) (all : List TextLine) (start end : ℕ) → Cut text all start end → end < length text → get_or text end 0 ≡ 10
    → slice_split is_newline (drop start text) ≡ slice_range text start end ∷ slice_split is_newline (drop (end + 1) text)
parts_at text all start end cut left newline =
    let tail : drop end text ≡ get_or text end 0 ∷ drop (end + 1) text = drop-cons text end 0 left ∙ ap (λ m. get_or text end 0 ∷ drop m text) (sym (add-one end)) in
    let yes : is_newline (get_or text end 0) ≡ true = rw newline refl in
    ap (slice_split is_newline) (drop_split text start end cut.ordered ∙ ap (λ t. slice_range text start end ++ t) tail)
    ∙ slice_split_at is_newline (slice_range text start end) (get_or text end 0) (drop (end + 1) text) (clear_part text all start end cut) yes

pub pushed_lines : (all : List TextLine) (line : TextLine) (number offset : ℕ) (parts : List (List ℕ)) → number ≡ length all + 1
    → all ++ line ∷ lines_from (length all + 1) offset parts ≡ (all ++ line ∷ []) ++ lines_from number offset parts
pushed_lines all line number offset parts is = rw is (sym (append_assoc all (line ∷ []) (lines_from (length all + 1) offset parts)))

pub Cut-line : (text : List ℕ) (all : List TextLine) (start end : ℕ) (all' : List TextLine) → IsUtf8 text → Cut text all start end → end < length text → get_or text end 0 ≡ 10
    → all' ≡ all ++ line_at (length all) start (slice_range text start end) ∷ [] → Cut text all' (end + 1) (end + 1)
Cut-line text all start end all' utf8 cut left newline pushed =
    let line = line_at (length all) start (slice_range text start end) in
    let part_end : start + length (slice_range text start end) + 1 ≡ end + 1 = omega (arith, cut.ordered, length_part text start end cut.ordered cut.within) in
    let ascii : get_or text end 0 < 128 = omega (arith, newline) in
    rw pushed (record {
      whole = sym (pushed_lines all line _ (end + 1) (slice_split is_newline (drop (end + 1) text)) (length_push all line))
          ∙ ap (λ offset. all ++ line ∷ lines_from (length all + 1) offset (slice_split is_newline (drop (end + 1) text))) (sym part_end)
          ∙ ap (λ parts. all ++ lines_from (length all) start parts) (sym (parts_at text all start end cut left newline))
          ∙ cut.whole;
      ordered = omega arith;
      within = omega (arith, left);
      clear = λ k h. absurd (none_left k (end + 1) h);
      boundary = IsCharBoundary-after_ascii text end utf8 left ascii;
      lines = All-push (IsLineOf text) all line cut.lines (is_line text (length all) start end cut.ordered cut.within cut.boundary (IsCharBoundary-before_ascii text end left ascii));
    })

pub Cut-last : (text : List ℕ) (all : List TextLine) (start end : ℕ) (all' : List TextLine) → Cut text all start end → end ≡ length text
    → all' ≡ all ++ line_at (length all) start (slice_range text start end) ∷ [] → (all' ≡ lines_of text) × All (IsLineOf text) all'
Cut-last text all start end all' cut ends pushed =
    let line = line_at (length all) start (slice_range text start end) in
    let rest : drop start text ≡ slice_range text start end = drop_split text start end cut.ordered ∙ ap (λ t. slice_range text start end ++ t) (drop_all end text (omega (arith, ends))) ∙ append-nil (slice_range text start end) in
    let parts : slice_split is_newline (drop start text) ≡ slice_range text start end ∷ [] = ap (slice_split is_newline) rest ∙ slice_split_none is_newline (slice_range text start end) (clear_part text all start end cut) in
    rw pushed (
      ap (λ parts. all ++ lines_from (length all) start parts) (sym parts) ∙ cut.whole,
      All-push (IsLineOf text) all line cut.lines (is_line text (length all) start end cut.ordered cut.within cut.boundary (subst (λ e. IsCharBoundary text e) (sym ends) (IsCharBoundary-end text))),
    )

pub texts_from : (number offset : ℕ) (parts : List (List ℕ)) → map (λ line. line.text) (lines_from number offset parts) ≡ parts
texts_from number offset [] = refl
texts_from number offset (part ∷ rest) = ap (λ others. part ∷ others) (texts_from (number + 1) (offset + length part + 1) rest)

pub joined : (text : List ℕ) → join_with_byte 10 (map (λ line. line.text) (lines_of text)) ≡ text
joined text = rw (texts_from 0 0 (slice_split is_newline text)) (join_with_byte-slice_split 10 text)

pub number_at : (number offset : ℕ) (parts : List (List ℕ)) (k : ℕ) (line : TextLine) → k < length (lines_from number offset parts) → (get_or (lines_from number offset parts) k line).number ≡ number + k
number_at number offset [] k line h = absurd (omega (arith, h))
number_at number offset (part ∷ rest) zero line h = omega arith
number_at number offset (part ∷ rest) (suc k) line h =
    let more : (get_or (lines_from (number + 1) (offset + length part + 1) rest) k line).number ≡ number + 1 + k = number_at (number + 1) (offset + length part + 1) rest k line (omega (arith, h)) in
    omega (arith, more)

-- a line of a text stands at its number
pub line_at_number : (text : List ℕ) (k : ℕ) (line : TextLine) → k < length (lines_of text) → get_or (lines_of text) k line ≡ line → slice_get (lines_of text) line.number ≡ Some line
line_at_number text k line h is =
    let number : line.number ≡ k = sym (ap (λ l. l.number) is) ∙ number_at 0 0 (slice_split is_newline text) k line h ∙ omega arith in
    subst (λ n. slice_get (lines_of text) n ≡ Some line) (sym number) (slice_get_read (lines_of text) (length (lines_of text)) k line refl h (sym is))

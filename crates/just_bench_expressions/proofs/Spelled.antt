-- The spelling of a part of the lexemes as a part of the spelling.
use Rattle.std.proofs.Common.{suc, ◌≡◌, ℕ, ◌+◌, ◌-◌, ◌<◌, ◌≤◌, sym, ◌∙◌, ap, refl, subst, List, [], ◌∷◌, ◌++◌, length, take, drop, get_or, Bool, true, false, arith, Option, Some, None, append_assoc, length-append, rules}
use Rattle.std.proofs.Math.Seq.{drop-cons, take-add, take-length, get_or-append_seam, drop-append_seam, take-append_seam}
use Rattle.std.specs.Prelude.{if◌then◌else◌, ◌||◌, slice_range}
use Rattle.std.specs.List.{All}
use Rattle.std.specs.Str.{IsCharBoundary, IsUtf8}
use Rattle.std.proofs.lemmas.List.{append-nil, take_more, take-append-drop}
use borrow.Author.Count.{below_more}
use Rattle.std.proofs.Math.ListN.{get_or-append}
use Rattle.std.proofs.lemmas.List.Elements.{All-nil, All-head, All-tail, All-push, All-take, All-drop}
use Rattle.std.proofs.lemmas.Str.{IsCharBoundary-start, IsCharBoundary-at_seam, IsUtf8-nil, IsUtf8-append, IsUtf8-from_ascii}
use Rattle.just_names.specs.Token.{lexeme}
use Rattle.just_bench_expressions.specs.declared.lexer.Kind.{Kind}
use Rattle.just_bench_expressions.specs.declared.lexer.Lexeme.{Lexeme}
use Rattle.just_bench_expressions.specs.Lexemes.{HasQuotes}
use Rattle.just_bench_expressions.specs.Spelling.{is_comma, is_plus, gap, spelled_after, spell, IsText, IsSpelling}
use Rattle.just_bench_expressions.specs.loops.Spelling.{last_kind}

pub spelled-append : (before : Option Kind) (a b : List Lexeme) → spelled_after before (a ++ b) ≡ spelled_after before a ++ spelled_after (last_kind before a) b
spelled-append before [] b = refl
spelled-append before (l ∷ rest) b =
    ap (λ t. gap before l.kind ++ lexeme l.token ++ t) (spelled-append (Some l.kind) rest b)
    ∙ sym (append_assoc (gap before l.kind ++ lexeme l.token) (spelled_after (Some l.kind) rest) (spelled_after (last_kind (Some l.kind) rest) b))

pub last-append : (before : Option Kind) (a : List Lexeme) (l : Lexeme) → last_kind before (a ++ l ∷ []) ≡ Some l.kind
last-append before [] l = refl
last-append before (m ∷ rest) l = last-append (Some m.kind) rest l

-- what stands before a part of the spelling that begins with this lexeme
abbrev pub front_of : List Lexeme → Lexeme → List ℕ
front_of a l = spell a ++ gap (last_kind None a) l.kind

pub spell_to : (a : List Lexeme) (l : Lexeme) (mid : List Lexeme) → spell (a ++ l ∷ mid) ≡ front_of a l ++ spell (l ∷ mid)
spell_to a l mid = spelled-append None a (l ∷ mid) ∙ simp append_assoc

-- one more lexeme
pub spell_more : (a : List Lexeme) (l : Lexeme) → spell (a ++ l ∷ []) ≡ spell a ++ gap (last_kind None a) l.kind ++ lexeme l.token
spell_more a l = spell_to a l [] ∙ ap (λ t. front_of a l ++ t) (append-nil (lexeme l.token))

-- what was spelled of the first lexemes
pub record Spelled (ls : List Lexeme) (k : ℕ) (text ends : List ℕ) (before : Option Kind) : Type 0 where
  pub spelled : text ≡ spell (take k ls)
  pub last : before ≡ last_kind None (take k ls)
  pub counted : length ends ≡ k
  pub each : (i : ℕ) → i < k → get_or ends i 0 ≡ length (spell (take (i + 1) ls))
  pub texts : All IsText (take k ls)

pub Spelled-start : (ls : List Lexeme) (text ends : List ℕ) → text ≡ [] → ends ≡ [] → Spelled ls 0 text ends None
Spelled-start ls text ends empty none = record {
  spelled = empty;
  last = refl;
  counted = ap length none;
  each = λ i h. absurd (below_zero i h);
  texts = All-nil IsText;
}
  where
    below_zero : (i : ℕ) → i < 0 → ⊥
    below_zero i h = omega (arith, h)

pub Spelled-push : (ls : List Lexeme) (k : ℕ) (l : Lexeme) (text ends : List ℕ) (before : Option Kind) (text' ends' : List ℕ) → Spelled ls k text ends before → k < length ls → l ≡ get_or ls k l
    → IsUtf8 (lexeme l.token) → text' ≡ text ++ gap before l.kind ++ lexeme l.token → ends' ≡ ends ++ length text' ∷ [] → Spelled ls (k + 1) text' ends' (Some l.kind)
Spelled-push ls k l text ends before text' ends' read left is utf8 longer pushed =
    let more : take (k + 1) ls ≡ take k ls ++ l ∷ [] = take_more ls k l left ∙ ap (λ x. take k ls ++ x ∷ []) (sym is) in
    let spelled : text' ≡ spell (take (k + 1) ls) =
    longer ∙ ap (λ t. t ++ gap before l.kind ++ lexeme l.token) read.spelled ∙ ap (λ b. spell (take k ls) ++ gap b l.kind ++ lexeme l.token) read.last
    ∙ sym (spell_more (take k ls) l) ∙ ap spell (sym more) in
    let before_it : (i : ℕ) → i < k → get_or ends' i 0 ≡ length (spell (take (i + 1) ls)) =
    λ i h. rw pushed (get_or-append ends (length text' ∷ []) 0 i (omega (arith, h, read.counted)) ∙ read.each i h) in
    let it : get_or ends' k 0 ≡ length (spell (take (k + 1) ls)) =
    rw pushed (ap (λ n. get_or (ends ++ length text' ∷ []) n 0) (sym read.counted) ∙ get_or-append_seam ends (length text') [] 0) ∙ ap length spelled in
    record {
      spelled = spelled;
      last = rw more (sym (last-append None (take k ls) l));
      counted = rw pushed (omega (arith, length-append ends (length text' ∷ []), read.counted));
      each = below_more (λ i. get_or ends' i 0 ≡ length (spell (take (i + 1) ls))) k before_it it;
      texts = rw more (All-push IsText (take k ls) l read.texts utf8);
    }

pub Spelled-all : (ls : List Lexeme) (text ends : List ℕ) (before : Option Kind) → Spelled ls (length ls) text ends before → All HasQuotes ls → IsSpelling ls text ends
Spelled-all ls text ends before read quoted = record {
  spelled = read.spelled ∙ ap spell (take-length ls);
  counted = read.counted;
  each = read.each;
  texts = subst (All IsText) (take-length ls) read.texts;
  quoted = quoted;
}

blank_is_text : (b : Bool) → IsUtf8 (if b then 32 ∷ [] else [])
blank_is_text true = IsUtf8-from_ascii (32 ∷ []) (search rules)
blank_is_text false = IsUtf8-nil

gap_is_text : (before : Option Kind) (next : Kind) → IsUtf8 (gap before next)
gap_is_text None next = IsUtf8-nil
gap_is_text (Some before) next = blank_is_text ((is_comma before || is_plus before) || is_plus next)

pub spelled_is_text : (before : Option Kind) (ls : List Lexeme) → All IsText ls → IsUtf8 (spelled_after before ls)
spelled_is_text before [] all = IsUtf8-nil
spelled_is_text before (l ∷ rest) all =
    IsUtf8-append (gap before l.kind ++ lexeme l.token) (spelled_after (Some l.kind) rest)
    (IsUtf8-append (gap before l.kind) (lexeme l.token) (gap_is_text before l.kind) (All-head IsText l rest all))
    (spelled_is_text (Some l.kind) rest (All-tail IsText l rest all))

-- the part stands in the text from one place to another, and no character is cut by its ends
pub record Stands (text : List ℕ) (start end : ℕ) (part : List ℕ) : Type 0 where
  pub order : start ≤ end
  pub within : end ≤ length text
  pub starts : IsCharBoundary text start
  pub ends : IsCharBoundary text end
  pub same : slice_range text start end ≡ part

pub seams : (text front part back : List ℕ) → text ≡ (front ++ part) ++ back → IsUtf8 (part ++ back) → IsUtf8 back → Stands text (length front) (length (front ++ part)) part
seams text front part back is more last = record {
  order = omega (arith, length-append front part);
  within = omega (arith, ap length is, length-append (front ++ part) back);
  starts = IsCharBoundary-at_seam text front (part ++ back) (is ∙ append_assoc front part back) more;
  ends = IsCharBoundary-at_seam text (front ++ part) back is last;
  same =
      let count : length (front ++ part) - length front ≡ length part = omega (arith, length-append front part) in
      let rest : drop (length front) text ≡ part ++ back = ap (drop (length front)) (is ∙ append_assoc front part back) ∙ drop-append_seam front (part ++ back) in
      ap (λ n. take n (drop (length front) text)) count ∙ ap (take (length part)) rest ∙ take-append_seam part back;
}

-- the lexemes from one place to another, the first of them apart
pub record Cut (ls : List Lexeme) (start end : ℕ) (l : Lexeme) : Type 0 where
  pub mid : List Lexeme
  pub part : slice_range ls start end ≡ l ∷ mid
  pub front : take end ls ≡ take start ls ++ l ∷ mid

pub cut : (ls : List Lexeme) (start end : ℕ) (l : Lexeme) → start < end → end ≤ length ls → l ≡ get_or ls start l → Cut ls start end l
cut ls start end l some within is =
    let count : end - start ≡ suc (end - start - 1) = omega (arith, some) in
    let whole : start + (end - start) ≡ end = omega (arith, some) in
    let left : start < length ls = omega (arith, some, within) in
    let rest : drop start ls ≡ l ∷ drop (suc start) ls = drop-cons ls start l left ∙ ap (λ x. x ∷ drop (suc start) ls) (sym is) in
    let part : slice_range ls start end ≡ l ∷ take (end - start - 1) (drop (suc start) ls) = ap (take (end - start)) rest ∙ ap (λ n. take n (l ∷ drop (suc start) ls)) count in
    record {
      mid = take (end - start - 1) (drop (suc start) ls);
      part = part;
      front = ap (λ n. take n ls) (sym whole) ∙ take-add start (end - start) ls ∙ ap (λ t. take start ls ++ t) part;
    }

-- where the spelling of a part of the lexemes stands
pub record Excerpted (ls : List Lexeme) (text ends : List ℕ) (start end : ℕ) (l : Lexeme) : Type 0 where
  pub size : length (lexeme l.token) ≤ get_or ends start 0
  pub stands : Stands text (get_or ends start 0 - length (lexeme l.token)) (get_or ends (end - 1) 0) (spell (slice_range ls start end))

pub excerpted : (ls : List Lexeme) (text ends : List ℕ) (start end : ℕ) (l : Lexeme) → IsSpelling ls text ends → start < end → end ≤ length ls → l ≡ get_or ls start l → Excerpted ls text ends start end l
excerpted ls text ends start end l of some within is =
    let a = take start ls in
    let found = cut ls start end l some within is in
    let front = front_of a l in
    let part = spell (l ∷ found.mid) in
    let back = spelled_after (last_kind None (take end ls)) (drop end ls) in
    let left : start < length ls = omega (arith, some, within) in
    let one : take (start + 1) ls ≡ a ++ l ∷ [] = take_more ls start l left ∙ ap (λ x. a ++ x ∷ []) (sym is) in
    let first_end : get_or ends start 0 ≡ length front + length (lexeme l.token) =
    of.each start left ∙ ap (λ xs. length (spell xs)) one ∙ ap length (spell_more a l) ∙ length-append front (lexeme l.token) in
    let same_end : end - 1 + 1 ≡ end = omega (arith, some) in
    let to : spell (take end ls) ≡ front ++ part = ap spell found.front ∙ spell_to a l found.mid in
    let last_end : get_or ends (end - 1) 0 ≡ length (front ++ part) =
    of.each (end - 1) (omega (arith, some, within)) ∙ ap (λ n. length (spell (take n ls))) same_end ∙ ap length to in
    let whole : text ≡ (front ++ part) ++ back =
    of.spelled ∙ ap spell (sym (take-append-drop end ls)) ∙ spelled-append None (take end ls) (drop end ls) ∙ ap (λ t. t ++ back) to in
    let part_text : IsUtf8 part = spelled_is_text None (l ∷ found.mid) (subst (All IsText) found.part (All-take IsText (end - start) (drop start ls) (All-drop IsText start ls of.texts))) in
    let back_text : IsUtf8 back = spelled_is_text (last_kind None (take end ls)) (drop end ls) (All-drop IsText end ls of.texts) in
    let start_is : get_or ends start 0 - length (lexeme l.token) ≡ length front = omega (arith, first_end) in
    let stands : Stands text (length front) (length (front ++ part)) part = seams text front part back whole (IsUtf8-append part back part_text back_text) back_text in
    record {
      size = omega (arith, first_end);
      stands = rw (start_is, last_end, found.part) stands;
    }

-- the same, of what the calls answered
pub record Placed (copy items word : List ℕ) (now : List Lexeme) (start end : ℕ) : Type 0 where
  pub size : length word ≤ get_or items start 0
  pub stands : Stands copy (get_or items start 0 - length word) (get_or items (end - 1) 0) (spell (slice_range now start end))

pub placed : (ls seen now : List Lexeme) (text ends copy items word : List ℕ) (start end : ℕ) (l : Lexeme) → IsSpelling ls text ends → seen ≡ ls → ls ≡ now → copy ≡ text → items ≡ ends
    → l ≡ get_or seen start l → word ≡ lexeme (get_or seen start l).token → start < end → end ≤ length now → Placed copy items word now start end
placed ls seen now text ends copy items word start end l of seen_is now_is copy_is items_is is word_is some within =
    let fits : end ≤ length ls = rw now_is within in
    let here : l ≡ get_or ls start l = rw (← seen_is) is in
    let word_of : word ≡ lexeme l.token = word_is ∙ ap (λ x. lexeme x.token) (sym is) in
    let found = excerpted ls text ends start end l of some fits here in
    rw (copy_is, items_is, word_of, ← now_is) (record { size = found.size; stands = found.stands })

-- no lexemes are spelled by nothing
pub no_part : (all : List Lexeme) (start end : ℕ) → end ≤ start → spell (slice_range all start end) ≡ []
no_part all start end none =
    let count : end - start ≡ 0 = omega (arith, none) in
    ap (λ n. spell (take n (drop start all))) count

pub no_excerpt : (ls : List Lexeme) (text ends copy : List ℕ) → IsSpelling ls text ends → copy ≡ text → Stands copy 0 0 []
no_excerpt ls text ends copy of same =
    let utf8 : IsUtf8 copy = rw (same, of.spelled) (spelled_is_text None ls of.texts) in
    let bound = IsCharBoundary-start copy utf8 in
    record { order = omega arith; within = omega arith; starts = bound; ends = bound; same = refl }

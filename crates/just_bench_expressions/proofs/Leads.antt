-- How lexemes from one place to another are spelled, before what follows them.
use Rattle.std.proofs.Common.{suc, ◌≡◌, ℕ, ◌+◌, ◌-◌, ◌<◌, ◌≤◌, sym, ◌∙◌, ap, refl, List, [], ◌∷◌, ◌++◌, take, drop, Bool, true, false, arith, Option, Some, None}
use Rattle.std.proofs.Math.Seq.{take-add}
use Rattle.std.specs.Prelude.{if◌then◌else◌, ◌||◌, slice_range}
use Rattle.std.proofs.lemmas.List.{append-nil, drop-drop}
use Rattle.just_names.specs.Token.{lexeme}
use Rattle.just_bench_expressions.specs.declared.lexer.Kind.{Kind}
use Rattle.just_bench_expressions.specs.declared.lexer.Lexeme.{Lexeme}
use Rattle.just_bench_expressions.specs.Spelling.{is_comma, is_plus, gap, spell}
use Rattle.just_bench_expressions.specs.loops.Spelling.{last_kind}
use Rattle.just_bench_expressions.proofs.Spelled.{front_of, spell_to, spell_more, last-append}

-- the lexeme stands at a place
abbrev pub At : List Lexeme → ℕ → Lexeme → Type 0
At all at l = drop at all ≡ l ∷ drop (at + 1) all

-- what stands before a lexeme that follows an operand
abbrev pub after_operand : Kind → List ℕ
after_operand k = if is_plus k then 32 ∷ [] else []

-- the lexemes from one place to another, and the gap before what follows and is no `+`, are spelled like this
pub record Leads (all : List Lexeme) (from to : ℕ) (text : List ℕ) : Type 0 where
  pub ordered : from ≤ to
  pub spelled : (l : Lexeme) → is_plus l.kind ≡ false → front_of (slice_range all from to) l ≡ text

-- the lexemes from one place to another are spelled like this, and the last of them is as at the end of an operand
pub record Ends (all : List Lexeme) (from to : ℕ) (text : List ℕ) : Type 0 where
  pub ordered : from ≤ to
  pub spelled : spell (slice_range all from to) ≡ text
  pub gaps : (k : Kind) → gap (last_kind None (slice_range all from to)) k ≡ after_operand k

-- the lexeme at a place is no `+`
pub record Begins (all : List Lexeme) (from : ℕ) : Type 0 where
  pub l : Lexeme
  pub is : At all from l
  pub other : is_plus l.kind ≡ false

-- lexemes from one place to another, cut in between
pub slices : {A : Type 0} (all : List A) (from mid to : ℕ) → from ≤ mid → mid ≤ to → slice_range all from to ≡ slice_range all from mid ++ slice_range all mid to
slices all from mid to first second =
    let size : to - from ≡ mid - from + (to - mid) = omega (arith, first, second) in
    let place : from + (mid - from) ≡ mid = omega (arith, first) in
    ap (λ n. take n (drop from all)) size ∙ take-add (mid - from) (to - mid) (drop from all)
    ∙ ap (λ xs. take (mid - from) (drop from all) ++ take (to - mid) xs) (drop-drop (mid - from) from all ∙ ap (λ n. drop n all) place)

-- one lexeme more
pub slice_more : (all : List Lexeme) (from at : ℕ) (l : Lexeme) → from ≤ at → At all at l → slice_range all from (at + 1) ≡ slice_range all from at ++ l ∷ []
slice_more all from at l ordered is =
    let one : at + 1 - at ≡ 1 = omega arith in
    slices all from at (at + 1) ordered (omega arith)
    ∙ ap (λ xs. slice_range all from at ++ xs) (ap (λ n. take n (drop at all)) one ∙ ap (take 1) is)

-- no lexemes
none_between : (all : List Lexeme) (at : ℕ) → slice_range all at at ≡ []
none_between all at = let none : at - at ≡ 0 = omega arith in ap (λ n. take n (drop at all)) none

-- those that begin with a lexeme
some_between : (all : List Lexeme) (from to : ℕ) (l : Lexeme) → from < to → At all from l → slice_range all from to ≡ l ∷ take (to - from - 1) (drop (from + 1) all)
some_between all from to l some is =
    let size : to - from ≡ suc (to - from - 1) = omega (arith, some) in
    ap (λ n. take n (drop from all)) size ∙ ap (take (suc (to - from - 1))) is

last-after : (before : Option Kind) (a : List Lexeme) (l : Lexeme) (mid : List Lexeme) → last_kind before (a ++ l ∷ mid) ≡ last_kind (Some l.kind) mid
last-after before [] l mid = refl
last-after before (m ∷ rest) l mid = last-after (Some m.kind) rest l mid

-- at a place nothing leads
pub leads_start : (all : List Lexeme) (at : ℕ) → Leads all at at []
leads_start all at = record {
  ordered = omega arith;
  spelled = λ l other. ap (λ xs. front_of xs l) (none_between all at);
}

-- what ends leads on
pub leads_on : (all : List Lexeme) (from at : ℕ) (text : List ℕ) → Ends all from at text → Leads all from at text
leads_on all from at text e = record {
  ordered = e.ordered;
  spelled = λ l other. ap (λ t. t ++ gap (last_kind None (slice_range all from at)) l.kind) e.spelled ∙ ap (λ t. text ++ t) (e.gaps l.kind ∙ ap (λ (b : Bool). if b then 32 ∷ [] else []) other) ∙ append-nil text;
}

-- an operand after what leads to it
pub joined_ends : (all : List Lexeme) (from mid to : ℕ) (text more : List ℕ) → Leads all from mid text → Begins all mid → mid < to → Ends all mid to more → Ends all from to (text ++ more)
joined_ends all from mid to text more leads begins some e =
    let l = begins.l in
    let a = slice_range all from mid in
    let rest = take (to - mid - 1) (drop (mid + 1) all) in
    let part : slice_range all mid to ≡ l ∷ rest = some_between all mid to l some begins.is in
    let whole : slice_range all from to ≡ a ++ l ∷ rest = slices all from mid to leads.ordered e.ordered ∙ ap (λ xs. a ++ xs) part in
    record {
      ordered = omega (arith, leads.ordered, e.ordered);
      spelled = ap spell whole ∙ spell_to a l rest ∙ ap (λ t. t ++ spell (l ∷ rest)) (leads.spelled l begins.other) ∙ ap (λ t. text ++ t) (sym (ap spell part) ∙ e.spelled);
      gaps = λ k. ap (λ o. gap o k) (ap (last_kind None) whole ∙ last-after None a l rest ∙ sym (ap (last_kind None) part)) ∙ e.gaps k;
    }

-- the gap after a lexeme of a kind
gap_after : (all : List Lexeme) (from at : ℕ) (l : Lexeme) (k : Kind) → from ≤ at → At all at l → gap (last_kind None (slice_range all from (at + 1))) k ≡ gap (Some l.kind) k
gap_after all from at l k ordered is = ap (λ o. gap o k) (ap (last_kind None) (slice_more all from at l ordered is) ∙ last-append None (slice_range all from at) l)

-- a lexeme that is no comma and no `+`, after what leads to it
pub one_ends : (all : List Lexeme) (from at : ℕ) (text : List ℕ) (l : Lexeme) → Leads all from at text → At all at l → is_comma l.kind ≡ false → is_plus l.kind ≡ false → Ends all from (at + 1) (text ++ lexeme l.token)
one_ends all from at text l leads is no_comma no_plus = record {
  ordered = omega (arith, leads.ordered);
  spelled = ap spell (slice_more all from at l leads.ordered is) ∙ spell_more (slice_range all from at) l ∙ ap (λ t. t ++ lexeme l.token) (leads.spelled l no_plus);
  gaps = λ k. gap_after all from at l k leads.ordered is ∙ ap (λ b. if (b || is_plus l.kind) || is_plus k then 32 ∷ [] else []) no_comma ∙ ap (λ (b : Bool). if b || is_plus k then 32 ∷ [] else []) no_plus;
}

-- after a comma or a `+` stands a blank
blank_after : (l : Lexeme) (k : Kind) → (is_comma l.kind || is_plus l.kind) ≡ true → gap (Some l.kind) k ≡ 32 ∷ []
blank_after l k is = ap (λ (b : Bool). if b || is_plus k then 32 ∷ [] else []) is

-- a comma or a `+` after what ends
pub mark_leads : (all : List Lexeme) (from at : ℕ) (text : List ℕ) (l : Lexeme) → Ends all from at text → At all at l → (is_comma l.kind || is_plus l.kind) ≡ true
    → Leads all from (at + 1) (text ++ after_operand l.kind ++ lexeme l.token ++ 32 ∷ [])
mark_leads all from at text l e is separates =
    let a = slice_range all from at in
    let to_here : spell (slice_range all from (at + 1)) ≡ text ++ after_operand l.kind ++ lexeme l.token =
    ap spell (slice_more all from at l e.ordered is) ∙ spell_more a l ∙ (λ i. e.spelled i ++ e.gaps l.kind i ++ lexeme l.token) in
    record {
      ordered = omega (arith, e.ordered);
      spelled = λ next other. (λ i. to_here i ++ (gap_after all from at l next.kind e.ordered is ∙ blank_after l next.kind separates) i);
    }

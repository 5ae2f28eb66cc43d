-- The program and what stands behind it.
use Rattle.std.proofs.Common.{◌≡◌, refl, sym, ◌∙◌, ap, subst, ℕ, suc, ◌+◌, ◌<◌, arith, Bool, true, false, cond, not, ◌||◌, [], ◌∷◌, length, Option, None, Some}
use Rattle.std.specs.Prelude.{if◌then◌else◌, ◌==◌, codes, drop, nat_eq, MatchOption}
use Rattle.std.specs.Borrow.{Bor}
use Rattle.std.specs.Str.{IsCharBoundary}
use Rattle.std.specs.Str.Pattern.{FindsTextPrefix, StripsPrefix}
use Rattle.std.specs.List.{after_first, before_first, list_any, position_or_len, starts_with}
use Rattle.std.proofs.lemmas.List.Folds.{list_any_at}
use Rattle.std.proofs.lemmas.List.Sums.{passes_at_first}
use Rattle.std.proofs.lemmas.Option.{same_Some}
use Rattle.std.proofs.lemmas.Str.Pattern.{IsSplitOnceResult, split_once_first, starts_text}
use Rattle.just_parts.specs.declared.layers.shebang.Shebang.{Shebang}
use Rattle.just_names.specs.Texts.{Text}
use Rattle.just_bench_syntax.specs.Shebangs.{is_blank, said_program, shebang, without_blanks}

pub found_first : (p : ℕ → Bool) (xs : Text) → position_or_len p xs < length xs → list_any p xs ≡ true
found_first p xs within = list_any_at p xs (position_or_len p xs) 0 within (passes_at_first p xs 0 within)

none_more : (b : Bool) (n m : ℕ) (r : Bool) → (n ≡ m → r ≡ false) → cond (not b) (1 + n) 0 ≡ suc m → (b || r) ≡ false
none_more true n m r rest is = absurd (omega arith)
none_more false n m r rest is = rest (omega arith)

pub found_none : (p : ℕ → Bool) (xs : Text) → position_or_len p xs ≡ length xs → list_any p xs ≡ false
found_none p [] is = refl
found_none p (x ∷ xs) is = none_more (p x) (position_or_len p xs) (length xs) (list_any p xs) (found_none p xs) is

abbrev in_two : Text → Option Shebang
in_two text = Some (record { interpreter = before_first is_blank text; argument = Some (without_blanks (after_first is_blank text)) })

abbrev in_one : Text → Option Shebang
in_one text = Some (record { interpreter = text; argument = None })

same_number : (a b : ℕ) → (a == b) ≡ true → a ≡ b
same_number a b h = grind arith

pub said_nothing : (text : Text) → (length text == 0) ≡ true → said_program text ≡ None
said_nothing [] empty = refl
said_nothing (byte ∷ rest) empty = absurd (omega (arith, same_number (length (byte ∷ rest)) 0 empty))

pub said_two : (text : Text) → (length text == 0) ≡ false → position_or_len is_blank text < length text → said_program text ≡ in_two text
said_two [] empty within = cc
said_two (byte ∷ rest) empty within = ap (λ b. if b then in_two (byte ∷ rest) else in_one (byte ∷ rest)) (found_first is_blank (byte ∷ rest) within)

pub said_one : (text : Text) → (length text == 0) ≡ false → position_or_len is_blank text ≡ length text → said_program text ≡ in_one text
said_one [] empty whole = cc
said_one (byte ∷ rest) empty whole = ap (λ b. if b then in_two (byte ∷ rest) else in_one (byte ∷ rest)) (found_none is_blank (byte ∷ rest) whole)

pub shebang_marked : (text : Text) → starts_with nat_eq text (codes "#!") ≡ true → shebang text ≡ said_program (without_blanks (drop 2 text))
shebang_marked text marked = ap (λ b. if b then said_program (without_blanks (drop 2 text)) else None) marked

pub shebang_plain : (text : Text) → starts_with nat_eq text (codes "#!") ≡ false → shebang text ≡ None
shebang_plain text plain = ap (λ b. if b then said_program (without_blanks (drop 2 text)) else None) plain

-- what a cut at the first blank gives
pub said_whole : (text : Text) (r : Option (Bor Text × Bor Text)) → (length text == 0) ≡ false → IsSplitOnceResult 32 text r → r ≡ None → said_program text ≡ in_one text
said_whole text None some split is = said_one text some (split_once_first 32 text None split (omega arith))
said_whole text (Some parts) some split is = cc

pub said_cut : (text : Text) (r : Option (Bor Text × Bor Text)) (front back : Bor Text) → (length text == 0) ≡ false → IsSplitOnceResult 32 text r → r ≡ Some (front, back)
    → said_program text ≡ Some (record { interpreter = front.now; argument = Some (without_blanks back.now) })
said_cut text None front back some split is = cc
said_cut text (Some parts) front back some split is =
    let first = split_once_first 32 text (Some parts) split (omega arith) in
    let same : parts ≡ (front, back) = same_Some parts (front, back) is in
    let before : before_first is_blank text ≡ front.now = sym first.1 ∙ ap (λ (p : Bor Text × Bor Text). p.0.now) same in
    let after : after_first is_blank text ≡ back.now = sym first.2 ∙ ap (λ (p : Bor Text × Bor Text). p.1.now) same in
    said_two text some first.0 ∙ (λ i. Some (record { interpreter = before i; argument = Some (without_blanks (after i)) }))

abbrev Strips : Text → Option (Bor Text) → Type 0
Strips text r = MatchOption r (FindsTextPrefix (codes "#!") text None) (λ x. StripsPrefix (FindsTextPrefix (codes "#!")) text x.now)

pub shebang_some : (text : Text) (r : Option (Bor Text)) (rest : Bor Text) → Strips text r → r ≡ Some rest → shebang text ≡ said_program (without_blanks rest.now)
shebang_some text None rest strips is = cc
shebang_some text (Some x) rest strips is =
    let n = strips.0 in
    let two : n ≡ 2 = strips.1.0 in
    let bound : IsCharBoundary text n = subst (IsCharBoundary text) (sym two) strips.1.2 in
    let marked = starts_text true (codes "#!") text (n, strips.1, bound) in
    shebang_marked text (sym marked)
    ∙ ap (λ t. said_program (without_blanks t)) (ap (λ k. drop k text) (sym two) ∙ sym strips.2 ∙ ap (λ (b : Bor Text). b.now) (same_Some x rest is))

pub shebang_none : (text : Text) (r : Option (Bor Text)) → Strips text r → r ≡ None → shebang text ≡ None
shebang_none text None strips is = shebang_plain text (sym (starts_text false (codes "#!") text strips))
shebang_none text (Some x) strips is = cc

-- Numbers that are given one after another.
use Rattle.std.proofs.Common.{◌≡◌, ℕ, suc, ◌+◌, ◌^◌, ◌<◌, ◌≤◌, List, [], ◌∷◌, ◌++◌, length, take, sym, drop, map, get_or, refl, set, subst, ◌∙◌, ap, arith, add-one, length-append}
use Rattle.std.proofs.Math.Seq.{drop-cons}
use Rattle.std.specs.List.{All}
use Rattle.std.proofs.lemmas.List.{drop-set-lt, take_more_set}
use Rattle.std.proofs.lemmas.List.Elements.{All-head, All-tail}
use Rattle.just_parts.specs.Items.{Item}
use Rattle.just_parts.specs.Syntax.{AreRising, item_numbers, numbers_of_items}
use Rattle.just_bench_syntax.specs.Numbering.{numbers_counted}
use Rattle.just_bench_syntax.specs.loops.Numbering.{AreNumberedInTurn}

rising_lower : (low middle : ℕ) (ns : List ℕ) (high : ℕ) → low ≤ middle → AreRising middle ns high → AreRising low ns high
rising_lower low middle [] high h rising = omega (arith, h, rising)
rising_lower low middle (n ∷ ns) high h rising = (omega (arith, h, rising.0), rising.1)

rising_append : (low : ℕ) (ns : List ℕ) (middle : ℕ) (ms : List ℕ) (high : ℕ) → AreRising low ns middle → AreRising middle ms high → AreRising low (ns ++ ms) high
rising_append low [] middle ms high before after = rising_lower low middle ms high before after
rising_append low (n ∷ ns) middle ms high before after = (before.0, rising_append (n + 1) ns middle ms high before.1 after)

pub numbered_none : (low : ℕ) → AreNumberedInTurn low [] low
numbered_none low = record { rising = omega arith; fits = λ h. h }

pub numbered_one : (low n high : ℕ) → n ≡ low → high ≡ low + 1 → high ≤ 2 ^ 64 → AreNumberedInTurn low (n ∷ []) high
numbered_one low n high is more fits = record { rising = (omega (arith, is), omega (arith, is, more)); fits = λ _. fits }

numbered_append : (low : ℕ) (ns : List ℕ) (middle : ℕ) (ms : List ℕ) (high : ℕ) → AreNumberedInTurn low ns middle → AreNumberedInTurn middle ms high → AreNumberedInTurn low (ns ++ ms) high
numbered_append low ns middle ms high before after = record {
  rising = rising_append low ns middle ms high before.rising after.rising;
  fits = λ h. after.fits (before.fits h);
}

-- one more element of a list is written with its numbers
pub numbered_next : {A : Type 0} (given : List A → List ℕ) → ((xs ys : List A) → given (xs ++ ys) ≡ given xs ++ given ys)
    → (low : ℕ) (xs : List A) (k : ℕ) (x : A) (middle high : ℕ) → k < length xs → AreNumberedInTurn low (given (take k xs)) middle → AreNumberedInTurn middle (given (x ∷ [])) high
    → AreNumberedInTurn low (given (take (k + 1) (set xs k x))) high
numbered_next given joined low xs k x middle high within before after =
    rw (take_more_set xs k x within, joined (take k xs) (x ∷ [])) (numbered_append low (given (take k xs)) middle (given (x ∷ [])) high before after)

-- a list is its own image where each element is
pub map_all : {A : Type 0} (f : A → A) (xs : List A) → All (λ x. f x ≡ x) xs → map f xs ≡ xs
map_all f [] same = refl
map_all f (x ∷ xs) same = let head = All-head (λ y. f y ≡ y) x xs same in let tail = map_all f xs (All-tail (λ y. f y ≡ y) x xs same) in cc

-- an element is written at a place, and those after it stay
pub rest : {A : Type 0} (xs : List A) (k : ℕ) (old new : A) → k < length xs → old ≡ get_or xs k old → drop k xs ≡ old ∷ drop (k + 1) (set xs k new)
rest xs k old new within here =
    rw (add-one k) (drop-cons xs k old within ∙ ap (λ x. x ∷ drop (suc k) xs) (sym here) ∙ ap (λ ys. old ∷ ys) (sym (drop-set-lt (suc k) xs k new (omega arith))))

pub first : {A : Type 0} (P : A → Type 0) (xs : List A) (k : ℕ) (old : A) → k < length xs → old ≡ get_or xs k old → All P (drop k xs) → P old
first P xs k old within here left = All-head P old _ (subst (All P) (rest xs k old old within here) left)

pub counted_rest : (xs : List Item) (k : ℕ) (old new : Item) → k < length xs → old ≡ get_or xs k old → numbers_counted (drop k xs) ≡ length (item_numbers old) + numbers_counted (drop (k + 1) (set xs k new))
counted_rest xs k old new within here = ap numbers_counted (rest xs k old new within here) ∙ length-append (item_numbers old) (numbers_of_items (drop (k + 1) (set xs k new)))

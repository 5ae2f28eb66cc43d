-- Answers that are taken one by one.
use Rattle.std.specs.Prelude.{ℕ, zero, suc, Bool, true, false, List, [], ◌∷◌}

-- the next one, or the usual one where none is left
abbrev pub next_or : {A : Type 0} → List A → A → A
next_or [] usual = usual
next_or (x ∷ xs) usual = x

-- those after it
abbrev pub rest : {A : Type 0} → List A → List A
rest [] = []
rest (x ∷ xs) = xs

-- those that are left, after one is taken or none
abbrev pub left_in_queue : {A : Type 0} → Bool → List A → List A
left_in_queue true xs = rest xs
left_in_queue false xs = xs

-- the first ones, and the usual one where none is left
abbrev pub first_or : {A : Type 0} → ℕ → List A → A → List A
first_or zero xs usual = []
first_or (suc n) xs usual = next_or xs usual ∷ first_or n (rest xs) usual

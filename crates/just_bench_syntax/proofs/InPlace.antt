-- Lists whose elements are changed in place.
use Rattle.std.proofs.Common.{zero, suc, ◌≡◌, ℕ, ◌+◌, ◌<◌, ◌∙◌, ap, refl, List, [], ◌∷◌, ◌++◌, length, map, take, drop, get_or, set, arith}
use Rattle.std.proofs.lemmas.List.{append-nil, drop_all, take_all}
use Rattle.just_bench_syntax.specs.Items.{with_last}

-- the last of them
pub last_changed : {A : Type 0} (f : A → A) (xs : List A) (k : ℕ) (x y : A) → k + 1 ≡ length xs → x ≡ get_or xs k x → y ≡ f x → set xs k y ≡ with_last f xs
last_changed f [] k x y count here is = absurd (omega (arith, count))
last_changed f (a ∷ []) zero x y count here is = ap (λ z. z ∷ []) is ∙ ap (λ z. f z ∷ []) here
last_changed f (a ∷ []) (suc k) x y count here is = absurd (omega (arith, count))
last_changed f (a ∷ b ∷ rest) zero x y count here is = absurd (omega (arith, count))
last_changed f (a ∷ b ∷ rest) (suc k) x y count here is = ap (λ zs. a ∷ zs) (last_changed f (b ∷ rest) k x y (omega (arith, count)) here is)

pub none_last : {A : Type 0} (f : A → A) (xs : List A) → length xs ≡ 0 → xs ≡ with_last f xs
none_last f [] none = refl
none_last f (x ∷ rest) none = absurd (omega (arith, none))

-- those before a place
abbrev pub half : {A : Type 0} → (A → A) → List A → ℕ → List A
half f xs k = map f (take k xs) ++ drop k xs

next_half : {A : Type 0} (f : A → A) (xs : List A) (k : ℕ) (x y : A) → k < length xs → x ≡ get_or (half f xs k) k x → y ≡ f x → set (half f xs k) k y ≡ half f xs (suc k)
next_half f [] k x y within here is = absurd (omega (arith, within))
next_half f (a ∷ xs) zero x y within here is = ap (λ z. z ∷ xs) is ∙ ap (λ z. f z ∷ xs) here
next_half f (a ∷ xs) (suc k) x y within here is = ap (λ zs. f a ∷ zs) (next_half f xs k x y (omega (arith, within)) here is)

pub half_step : {A : Type 0} (f : A → A) (xs old : List A) (k : ℕ) (x y : A) → old ≡ half f xs k → k < length xs → x ≡ get_or old k x → y ≡ f x → set old k y ≡ half f xs (k + 1)
half_step f xs old k x y was within here is =
    let next : suc k ≡ k + 1 = omega arith in
    ap (λ zs. set zs k y) was ∙ next_half f xs k x y within (here ∙ ap (λ zs. get_or zs k x) was) is ∙ ap (half f xs) next

pub half_end : {A : Type 0} (f : A → A) (xs : List A) (k : ℕ) → length xs ≡ k → half f xs k ≡ map f xs
half_end f xs k count = rw (take_all k xs (omega (arith, count)), drop_all k xs (omega (arith, count))) (append-nil (map f xs))

-- Going through a list and keeping what was not seen before.
use Rattle.std.proofs.Common.{◌≡◌, Bool, true, false, ◌||◌, List, [], ◌∷◌, ◌++◌, refl, sym, ◌∙◌, ap}
use Rattle.std.proofs.lemmas.Bool.{true≢false}
use Rattle.just_execution.specs.Firsts.{stands_among}

-- a test that holds of equals and of nothing else
pub record Exact {A : Type 0} (same : A → A → Bool) : Type 0 where
  pub itself : (x : A) → same x x ≡ true
  pub only : (x y : A) → same x y ≡ true → x ≡ y

or_assoc : (a b c : Bool) → (a || (b || c)) ≡ ((a || b) || c)
or_assoc true b c = refl
or_assoc false b c = refl

pub or_false : (a : Bool) → (a || false) ≡ a
or_false true = refl
or_false false = refl

pub absorbed : (a b c : Bool) → (b ≡ true → a ≡ true) → (a || (b || c)) ≡ (a || c)
absorbed true b c h = refl
absorbed false true c h = absurd (true≢false (sym (h refl)))
absorbed false false c h = refl

pub regroup : (a b c : Bool) → ((a || (b || false)) || c) ≡ (a || (b || c))
regroup true b c = refl
regroup false true c = refl
regroup false false c = refl

pub has-append : {A : Type 0} (same : A → A → Bool) → (xs ys : List A) (x : A) → stands_among same (xs ++ ys) x ≡ (stands_among same xs x || stands_among same ys x)
has-append same [] ys x = refl
has-append same (y ∷ xs) ys x = rw (has-append same xs ys x) (or_assoc (same y x) (stands_among same xs x) (stands_among same ys x))

-- one more seen: the rest without it
pub twice : (a b : Bool) → (a || (b || false)) ≡ ((a || (b || false)) || (b || false))
twice true b = refl
twice false true = refl
twice false false = refl

pub swapped : (a b c : Bool) → ((a || (b || false)) || (c || false)) ≡ ((a || (c || false)) || (b || false))
swapped true b c = refl
swapped false true true = refl
swapped false true false = refl
swapped false false true = refl
swapped false false false = refl

pub has-two : {A : Type 0} (same : A → A → Bool) (s : List A) (x y z : A) → stands_among same ((s ++ (x ∷ [])) ++ (y ∷ [])) z ≡ ((stands_among same s z || (same x z || false)) || (same y z || false))
has-two same s x y z = has-append same (s ++ (x ∷ [])) (y ∷ []) z ∙ ap (λ b. b || (same y z || false)) (has-append same s (x ∷ []) z)

pub has-twice : {A : Type 0} (same : A → A → Bool) (s : List A) (x y z : A) → x ≡ y → stands_among same (s ++ (x ∷ [])) z ≡ stands_among same ((s ++ (y ∷ [])) ++ (x ∷ [])) z
has-twice same s x y z h = rw (← h) (has-append same s (x ∷ []) z ∙ twice (stands_among same s z) (same x z) ∙ sym (has-two same s x x z))

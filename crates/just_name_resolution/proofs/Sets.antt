-- Sets of numbers and of names.
use Rattle.std.proofs.Common.{◌≡◌, ℕ, Bool, true, false, cond, ◌||◌, refl, ◌∙◌, ap}
use Rattle.std.proofs.lemmas.Bool.Decides.{Decides-eqb}
use Rattle.std.proofs.lemmas.Cmp.{nat_eq_equiv}
use Rattle.just_names.specs.declared.number.Number.{Number}
use Rattle.just_parts.specs.Needs.{same_number}

pub number_itself : (n : Number) → same_number n n ≡ true
number_itself n = nat_eq_equiv.refl n.0

pub one_number : (a b : Number) → same_number a b ≡ true → a ≡ b
one_number a b e = let made : ℕ → Number = λ k. record { 0 = k } in ap made ((Decides-eqb a.0 b.0).0 e)

-- one of two, and neither
pub or_left : (b c : Bool) → b ≡ true → (b || c) ≡ true
or_left b c e = ap (λ x. x || c) e

pub or_right : (b c : Bool) → c ≡ true → (b || c) ≡ true
or_right true c e = refl
or_right false c e = e

pub or_neither : (b c : Bool) → b ≡ false → c ≡ false → (b || c) ≡ false
or_neither b c e f = ap (λ x. x || c) e ∙ f

pub or_added : (r b c : Bool) → (r || cond b true c) ≡ cond b true (r || c)
or_added r false c = refl
or_added true true c = refl
or_added false true c = refl

pub or_nothing : (b c : Bool) → c ≡ false → (b || c) ≡ b
or_nothing true c e = refl
or_nothing false c e = e

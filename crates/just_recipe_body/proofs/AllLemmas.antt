-- What holds of two lists one after the other holds of each.
use Rattle.std.proofs.Common.{List, [], ◌∷◌, ◌++◌, All}
use Rattle.std.proofs.lemmas.List.Elements.{All-cons, All-head, All-nil, All-tail}

module _ {A : Type 0} (P : A → Type 0) where
  pub all-left : (xs ys : List A) → All P (xs ++ ys) → All P xs
  all-left [] ys h = All-nil P
  all-left (x ∷ xs) ys h = All-cons P x xs (All-head P x (xs ++ ys) h) (all-left xs ys (All-tail P x (xs ++ ys) h))

  pub all-right : (xs ys : List A) → All P (xs ++ ys) → All P ys
  all-right [] ys h = h
  all-right (x ∷ xs) ys h = all-right xs ys (All-tail P x (xs ++ ys) h)

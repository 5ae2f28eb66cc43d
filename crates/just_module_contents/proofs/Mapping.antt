-- Elements at places, and lists that are made element by element.
use Rattle.std.proofs.Common.{◌≡◌, ◌≤◌, ℕ, ◌+◌, List, [], ◌∷◌, ◌++◌, length, map, take, Some, sym, ap, ◌∙◌}
use Rattle.std.specs.List.{slice_get}
use Rattle.std.proofs.lemmas.List.{map-append, take_all, take_more}
use Rattle.std.proofs.lemmas.Option.{get_or_from_slice_get, slice_get_within}

module _ {A B : Type 0} (f : A → B) (xs : List A) where
  -- one more element
  pub mapped_more : (made more : List B) (i : ℕ) (x : A) (y : B) → made ≡ map f (take i xs) → slice_get xs i ≡ Some x → y ≡ f x → more ≡ made ++ y ∷ [] → more ≡ map f (take (i + 1) xs)
  mapped_more made more i x y so at is e =
      e ∙ (λ k. so k ++ is k ∷ []) ∙ sym (map-append f (take i xs) (x ∷ []))
      ∙ ap (map f) (ap (λ z. take i xs ++ z ∷ []) (sym (get_or_from_slice_get xs i x x at)) ∙ sym (take_more xs i x (slice_get_within xs i x at)))

  -- all of them
  pub mapped_all : (made : List B) (i : ℕ) → length xs ≤ i → made ≡ map f (take i xs) → made ≡ map f xs
  mapped_all made i end so = so ∙ ap (map f) (take_all i xs end)

-- Lists that end in an element.
use Rattle.std.proofs.Common.{◌≡◌, Bool, true, false, ◌&&◌, List, [], ◌∷◌, ◌++◌, refl, sym, ap, ◌∙◌}
use Rattle.std.specs.Cmp.Lexicographic.{pointwise}
use Rattle.std.proofs.Math.Bool.{and-false}

-- a && (b && c), with c moved to the front
and_moved : (a b c : Bool) → (a && (b && c)) ≡ (b && (a && c))
and_moved true b c = refl
and_moved false b c = sym (and-false b)

module _ {X : Type 0} (e : X → X → Bool) where
  more_right : (ys : List X) (y : X) → pointwise e [] (ys ++ y ∷ []) ≡ false
  more_right [] y = refl
  more_right (z ∷ zs) y = refl

  more_left : (xs : List X) (x : X) → pointwise e (xs ++ x ∷ []) [] ≡ false
  more_left [] x = refl
  more_left (w ∷ ws) x = refl

  pub pointwise_pushed : (xs ys : List X) (x y : X) → pointwise e (xs ++ x ∷ []) (ys ++ y ∷ []) ≡ (e x y && pointwise e xs ys)
  pointwise_pushed [] [] x y = refl
  pointwise_pushed [] (z ∷ zs) x y = ap (λ b. e x z && b) (more_right zs y) ∙ and-false (e x z) ∙ sym (and-false (e x y))
  pointwise_pushed (w ∷ ws) [] x y = ap (λ b. e w y && b) (more_left ws x) ∙ and-false (e w y) ∙ sym (and-false (e x y))
  pointwise_pushed (w ∷ ws) (z ∷ zs) x y = ap (λ b. e w z && b) (pointwise_pushed ws zs x y) ∙ and_moved (e w z) (e x y) (pointwise e ws zs)

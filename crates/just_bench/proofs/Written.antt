-- What is written piece by piece.
use Rattle.std.proofs.Common.{◌≡◌, ◌<◌, ℕ, ◌+◌, List, [], ◌∷◌, ◌++◌, take, drop, get_or, length, Option, sym, ◌∙◌, ap, subst}
use Rattle.std.specs.List.{flat_map}
use Rattle.std.specs.Io.KnownBytes.{Appends}
use Rattle.std.proofs.lemmas.Grind.{flat_map-append}
use Rattle.std.proofs.lemmas.List.{append-nil, take-append-drop, take_more}
use Rattle.just_bench.specs.Writing.{GetsBeginning}
use Rattle.just_bench.proofs.Begun.{begun_after, begun_before}

module _ {X : Type 0} (f : X → List ℕ) (xs : List X) (i : ℕ) (x : X) (within : i < length xs) (is : x ≡ get_or xs i x) where
  -- one more piece
  pub one_more : flat_map f (take (i + 1) xs) ≡ flat_map f (take i xs) ++ f x
  one_more =
      ap (flat_map f) (take_more xs i x within ∙ ap (λ y. take i xs ++ y ∷ []) (sym is)) ∙ flat_map-append f (take i xs) (x ∷ []) ∙ ap (λ t. flat_map f (take i xs) ++ t) (append-nil (f x))

  all_pieces : (flat_map f (take i xs) ++ f x) ++ flat_map f (drop (i + 1) xs) ≡ flat_map f xs
  all_pieces = ap (λ t. t ++ flat_map f (drop (i + 1) xs)) (sym one_more) ∙ sym (flat_map-append f (take (i + 1) xs) (drop (i + 1) xs)) ∙ ap (flat_map f) (take-append-drop (i + 1) xs)

  -- a beginning of the next piece, and so of all
  pub begun_within : (old middle new : Option (List ℕ)) → Appends old middle (flat_map f (take i xs)) → GetsBeginning middle new (f x) → GetsBeginning old new (flat_map f xs)
  begun_within old middle new h b =
      subst (GetsBeginning old new) all_pieces (begun_before old new (flat_map f (take i xs) ++ f x) (flat_map f (drop (i + 1) xs)) (begun_after old middle new (flat_map f (take i xs)) (f x) h b))

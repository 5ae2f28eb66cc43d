-- One step of the loops over tables and places.
use Rattle.std.proofs.Common.{◌≡◌, ◌+◌, ◌<◌, ℕ, List, [], ◌∷◌, ◌++◌, get_or, length, map, take, Some, Bor, sym, ◌∙◌, ap}
use Rattle.std.specs.List.{slice_get}
use Rattle.std.proofs.lemmas.List.{map-append, take_more}
use Rattle.std.proofs.lemmas.Option.{slice_get-get_or}

-- one value more
pub values_more : {A B : Type 0} (f : A → B) (made more : List B) (yielded : List (Bor A)) (a : Bor A) (x : B) → made ≡ map f (map (λ (r : Bor A). r.now) yielded) → more ≡ made ++ x ∷ [] → x ≡ f a.now
    → more ≡ map f (map (λ (r : Bor A). r.now) (yielded ++ a ∷ []))
values_more {A} f made more yielded a x before is one =
    let now : Bor A → A = λ r. r.now in
    is
    ∙ ((λ i. before i ++ one i ∷ [])
    ∙ (sym (map-append f (map now yielded) (a.now ∷ [])) ∙ ap (map f) (sym (map-append now yielded (a ∷ [])))))

-- one element more of a list
pub take_item : {A : Type 0} (xs : List A) (i : ℕ) (x : A) → i < length xs → x ≡ get_or xs i x → take (i + 1) xs ≡ take i xs ++ x ∷ []
take_item xs i x h is = take_more xs i x h ∙ ap (λ y. take i xs ++ y ∷ []) (sym is)

-- one place more
pub found_more : {A : Type 0} (xs found more : List A) (places : List ℕ) (i : ℕ) (x y : A) → map Some found ≡ map (slice_get xs) (take i places) → more ≡ found ++ x ∷ [] → x ≡ y → i < length places
    → get_or places i 0 < length xs → y ≡ get_or xs (get_or places i 0) y → map Some more ≡ map (slice_get xs) (take (i + 1) places)
found_more xs found more places i x y before is same inside within at =
    let p = get_or places i 0 in
    let got = slice_get-get_or xs p y within ∙ ap Some (sym at ∙ sym same) in
    ap (map Some) is
    ∙ (map-append Some found (x ∷ [])
    ∙ ((λ k. before k ++ sym got k ∷ [])
    ∙ (sym (map-append (slice_get xs) (take i places) (p ∷ [])) ∙ ap (map (slice_get xs)) (sym (take_more places i 0 inside)))))

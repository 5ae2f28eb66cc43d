-- Lists and tables that are made again, value after value.
use Rattle.std.proofs.Common.{◌≡◌, ◌∙◌, ℕ, ◌+◌, List, [], ◌∷◌, ◌++◌, ap, Some, refl, sym, take}
use Rattle.std.specs.List.{slice_get}
use Rattle.std.proofs.lemmas.List.{take_more}
use Rattle.std.proofs.lemmas.Option.{get_or_from_slice_get, slice_get_within}
use Rattle.just_table.specs.Entries.{put, put_all}
use Rattle.just_names.specs.Texts.{Text}

-- one more element
pub taken_more : {A : Type 0} (xs taken more : List A) (i : ℕ) (x copy : A) → taken ≡ take i xs → slice_get xs i ≡ Some x → copy ≡ x → more ≡ taken ++ copy ∷ [] → more ≡ take (i + 1) xs
taken_more xs taken more i x copy so at is e =
    e ∙ (λ k. so k ++ (is k ∷ [])) ∙ ap (λ y. take i xs ++ y ∷ []) (sym (get_or_from_slice_get xs i x x at)) ∙ sym (take_more xs i x (slice_get_within xs i x at))

-- one more value under its key
put_more : {A : Type 0} (key : A → Text) (held : List (Text × A)) (xs : List A) (x : A) → put_all key held (xs ++ x ∷ []) ≡ put (key x) x (put_all key held xs)
put_more key held [] x = refl
put_more key held (y ∷ ys) x = put_more key (put (key y) y held) ys x

-- one more value of a list under its name
pub one_put : {A : Type 0} (key : A → Text) (xs : List A) (held more : List (Text × A)) (i : ℕ) (x copy : A) → held ≡ put_all key [] (take i xs) → slice_get xs i ≡ Some x → copy ≡ x → more ≡ put (key copy) copy held → more ≡ put_all key [] (take (i + 1) xs)
one_put key xs held more i x copy so at is e =
    e ∙ (ap (λ y. put (key y) y held) is ∙ (ap (put (key x) x) so ∙ (sym (put_more key [] (take i xs) x)
    ∙ ap (put_all key []) (ap (λ y. take i xs ++ y ∷ []) (sym (get_or_from_slice_get xs i x x at)) ∙ sym (take_more xs i x (slice_get_within xs i x at))))))

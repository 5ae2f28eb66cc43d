-- Lists that are related place by place.
use Rattle.std.proofs.Common.{◌≡◌, ℕ, zero, suc, ◌+◌, ◌<◌, List, [], ◌∷◌, ◌++◌, ap, drop, length, take, get_or, inl, inr, refl, sym, subst, arith}
use Rattle.std.specs.List.{AllZip}
use Rattle.just_graph.proofs.Members.{In}
use Rattle.just_module_recipes.proofs.SameSets.{taken}
use Rattle.just_module_recipes.specs.loops.Completing.{counts_of, paths_of}
use Rattle.just_names.specs.declared.name.Namepath.{Namepath}
use Rattle.just_recipe.specs.declared.dependency.UnresolvedDependency.{UnresolvedDependency}

module _ {A B : Type 0} (R : A → B → Type 0) where
  pub push_zip : (xs : List A) (ys : List B) (x : A) (y : B) → AllZip R xs ys → R x y → AllZip R (xs ++ x ∷ []) (ys ++ y ∷ [])
  push_zip [] [] x y a r = (r, tt)
  push_zip [] (z ∷ ys) x y a r = absurd a
  push_zip (w ∷ xs) [] x y a r = absurd a
  push_zip (w ∷ xs) (z ∷ ys) x y a r = (a.0, push_zip xs ys x y a.1 r)

  pub zip_forth : (xs : List A) (ys : List B) (x : A) → AllZip R xs ys → In x xs → (y : B) × In y ys × R x y
  zip_forth [] ys x a h = absurd h
  zip_forth (w ∷ xs) [] x a h = absurd a
  zip_forth (w ∷ xs) (z ∷ ys) x a (inl e) = (z, inl refl, subst (λ v. R v z) (sym e) a.0)
  zip_forth (w ∷ xs) (z ∷ ys) x a (inr h) = let r = zip_forth xs ys x a.1 h in (r.0, inr r.1, r.2)

  pub zip_back : (xs : List A) (ys : List B) (y : B) → AllZip R xs ys → In y ys → (x : A) × In x xs × R x y
  zip_back [] [] y a h = absurd h
  zip_back [] (z ∷ ys) y a h = absurd a
  zip_back (w ∷ xs) [] y a h = absurd h
  zip_back (w ∷ xs) (z ∷ ys) y a (inl e) = (w, inl refl, subst (λ v. R w v) (sym e) a.0)
  zip_back (w ∷ xs) (z ∷ ys) y a (inr h) = let r = zip_back xs ys y a.1 h in (r.0, inr r.1, r.2)

  -- one more of each
  pub zip_more : (ds : List A) (row more : List B) (at : ℕ) (d : A) (t : B) → at < length ds → d ≡ get_or ds at d → AllZip R (take at ds) row → R d t → more ≡ row ++ t ∷ [] → AllZip R (take (at + 1) ds) more
  zip_more ds row more at d t h is a r m =
      subst (AllZip R (take (at + 1) ds)) (sym m) (subst (λ xs. AllZip R xs (row ++ t ∷ [])) (sym (taken ds at d h is)) (push_zip (take at ds) row d t a r))

  pub zip_length : (xs : List A) (ys : List B) → AllZip R xs ys → length ys ≡ length xs
  zip_length [] [] a = refl
  zip_length [] (z ∷ ys) a = absurd a
  zip_length (w ∷ xs) [] a = absurd a
  zip_length (w ∷ xs) (z ∷ ys) a = omega (arith, zip_length xs ys a.1)

  -- the two at a place
  pub zip_at : (xs : List A) (ys : List B) (k : ℕ) (x : A) (y : B) → AllZip R xs ys → k < length xs → R (get_or xs k x) (get_or ys k y)
  zip_at [] ys k x y a h = absurd (omega arith)
  zip_at (w ∷ xs) [] k x y a h = absurd a
  zip_at (w ∷ xs) (z ∷ ys) zero x y a h = a.0
  zip_at (w ∷ xs) (z ∷ ys) (suc k) x y a h = zip_at xs ys k x y a.1 (omega arith)

-- what relates to the paths of dependencies relates to those of others with the same paths
pub zip_paths : {B : Type 0} (R : Namepath → B → Type 0) (ds es : List UnresolvedDependency) (ys : List B) → paths_of ds ≡ paths_of es → AllZip (λ (d : UnresolvedDependency) y. R d.recipe y) ds ys → AllZip (λ (d : UnresolvedDependency) y. R d.recipe y) es ys
zip_paths R [] [] ys e a = a
zip_paths R [] (d ∷ es) ys e a = cc
zip_paths R (d ∷ ds) [] ys e a = cc
zip_paths R (d ∷ ds) (x ∷ es) [] e a = absurd a
zip_paths R (d ∷ ds) (x ∷ es) (y ∷ ys) e a = (subst (λ (p : Namepath). R p y) (ap (λ ps. get_or ps 0 d.recipe) e) a.0, zip_paths R ds es ys (ap (λ ps. drop 1 ps) e) a.1)

-- and what relates to how many arguments they are given to those of others that are given as many
pub zip_counts : {B : Type 0} (R : ℕ → B → Type 0) (ds es : List UnresolvedDependency) (ys : List B) → counts_of ds ≡ counts_of es → AllZip (λ (d : UnresolvedDependency) y. R (length d.arguments) y) ds ys → AllZip (λ (d : UnresolvedDependency) y. R (length d.arguments) y) es ys
zip_counts R [] [] ys e a = a
zip_counts R [] (d ∷ es) ys e a = cc
zip_counts R (d ∷ ds) [] ys e a = cc
zip_counts R (d ∷ ds) (x ∷ es) [] e a = absurd a
zip_counts R (d ∷ ds) (x ∷ es) (y ∷ ys) e a = (subst (λ (n : ℕ). R n y) (ap (λ ns. get_or ns 0 0) e) a.0, zip_counts R ds es ys (ap (λ ns. drop 1 ns) e) a.1)

-- Recipes that are held under their numbers.
use Rattle.std.proofs.Common.{◌≡◌, ℕ, ◌<◌, Bool, true, false, cond, List, [], ◌∷◌, ◌++◌, length, Option, Some, None, IsSome, refl, sym, ◌∙◌, ap, subst, inl, inr, ◌⊎◌, append_assoc}
use Rattle.std.specs.List.{Contains, flat_map}
use Rattle.std.specs.Prelude.{find, ◌==◌}
use Rattle.std.proofs.lemmas.Bool.Decides.{eqb_tells}
use Rattle.std.proofs.lemmas.List.{get_or-map}
use Rattle.just_graph.proofs.Members.{In, contained, from_map, in_left, in_map, is_in}
use Rattle.just_module_contents.specs.Recipes.{no_recipe, recipe_at}
use Rattle.just_module_contents.specs.Resolved.{number_at}
use Rattle.just_recipe.specs.Recipes.{find_number, numbers}
use Rattle.just_recipe.specs.declared.dependency.Dependency.{Dependency}
use Rattle.just_recipe.specs.declared.dependency.UnresolvedDependency.{UnresolvedDependency}
use Rattle.just_recipe.specs.declared.recipe.Recipe.{Recipe}

pub flat-append : {A B : Type 0} (f : A → List B) (xs ys : List A) → flat_map f (xs ++ ys) ≡ flat_map f xs ++ flat_map f ys
flat-append f [] ys = refl
flat-append f (x ∷ xs) ys = ap (λ zs. f x ++ zs) (flat-append f xs ys) ∙ sym (append_assoc (f x) (flat_map f xs) (flat_map f ys))

pub empty_or : {A : Type 0} (xs : List A) → (xs ≡ []) ⊎ ((x : A) × Contains xs x)
empty_or [] = inl refl
empty_or (x ∷ xs) = inr (x, contained x (x ∷ xs) (inl refl))

pub none_in : {A : Type 0} (xs : List A) (x : A) → xs ≡ [] → Contains xs x → ⊥
none_in xs x e c = is_in x [] (subst (λ ys. Contains ys x) e c)

pub numbers_in : (x : Recipe Dependency) (xs : List (Recipe Dependency)) → In x xs → Contains (numbers xs) x.number.0
numbers_in x xs h = contained x.number.0 (numbers xs) (in_map (λ (r : Recipe Dependency). r.number.0) x xs h)

pub held_more : (xs ys : List (Recipe Dependency)) (n : ℕ) → Contains (numbers xs) n → Contains (numbers (xs ++ ys)) n
held_more xs ys n c =
    let r = from_map (λ (r : Recipe Dependency). r.number.0) n xs (is_in n (numbers xs) c) in
    subst (Contains (numbers (xs ++ ys))) (sym r.2) (numbers_in r.0 (xs ++ ys) (in_left r.0 xs ys r.1))

eq_from_test : (a b : ℕ) → (a == b) ≡ true → a ≡ b
eq_from_test a b t = elim (eqb_tells a b) [ inl e ↦ e.1 | inr e ↦ (let wrong : true ≡ false = sym t ∙ e.0 in absurd (cc)) ]

test_from_eq : (a b : ℕ) → a ≡ b → (a == b) ≡ true
test_from_eq a b e = elim (eqb_tells a b) [ inl t ↦ t.0 | inr f ↦ absurd (f.1 e) ]

-- what a test finds, and that it is found
found_in_cons : {A : Type 0} (p : A → Bool) (y x : A) (ys : List A) (b : Bool) → p y ≡ b → cond b (Some y) (find p ys) ≡ Some x → (find p ys ≡ Some x → In x ys × (p x ≡ true)) → In x (y ∷ ys) × (p x ≡ true)
found_in_cons p y x ys true t e rest = let same : x ≡ y = cc in (inl same, ap p same ∙ t)
found_in_cons p y x ys false t e rest = let r = rest e in (inr r.0, r.1)

find_there : {A : Type 0} (p : A → Bool) (xs : List A) (x : A) → find p xs ≡ Some x → In x xs × (p x ≡ true)
find_there p [] x e = absurd (cc)
find_there p (y ∷ ys) x e = found_in_cons p y x ys (p y) refl e (find_there p ys x)

unique_in_cons : {A : Type 0} (p : A → Bool) (y x : A) (ys : List A) (b : Bool) → (b ≡ true → y ≡ x) → (b ≡ false → find p ys ≡ Some x) → cond b (Some y) (find p ys) ≡ Some x
unique_in_cons p y x ys true here rest = ap Some (here refl)
unique_in_cons p y x ys false here rest = rest refl

find_unique : {A : Type 0} (p : A → Bool) (xs : List A) (x : A) → In x xs → p x ≡ true → ((y : A) → In y xs → p y ≡ true → y ≡ x) → find p xs ≡ Some x
find_unique p [] x h t one = absurd h
find_unique p (y ∷ ys) x (inl e) t one = unique_in_cons p y x ys (p y) (λ s. sym e) (λ f. let wrong : true ≡ false = sym t ∙ (ap p e ∙ f) in absurd (cc))
find_unique p (y ∷ ys) x (inr h) t one = unique_in_cons p y x ys (p y) (λ s. one y (inl refl) s) (λ f. find_unique p ys x h t (λ z m. one z (inr m)))

more_in_cons : {A : Type 0} (z x : A) (old new : Option A) (b : Bool) → (old ≡ Some x → new ≡ Some x) → cond b (Some z) old ≡ Some x → cond b (Some z) new ≡ Some x
more_in_cons z x old new true rest h = h
more_in_cons z x old new false rest h = rest h

find_more : {A : Type 0} (p : A → Bool) (xs ys : List A) (x : A) → find p xs ≡ Some x → find p (xs ++ ys) ≡ Some x
find_more p [] ys x e = absurd (cc)
find_more p (z ∷ xs) ys x e = more_in_cons z x (find p xs) (find p (xs ++ ys)) (p z) (find_more p xs ys x) e

-- the same of numbers
pub number_found : (xs : List (Recipe Dependency)) (n : ℕ) (x : Recipe Dependency) → find_number xs n ≡ Some x → In x xs × (x.number.0 ≡ n)
number_found xs n x e = let f = find_there (λ (r : Recipe Dependency). r.number.0 == n) xs x e in (f.0, eq_from_test x.number.0 n f.1)

pub number_unique : (xs : List (Recipe Dependency)) (n : ℕ) (x : Recipe Dependency) → In x xs → x.number.0 ≡ n → ((y : Recipe Dependency) → In y xs → y.number.0 ≡ n → y ≡ x) → find_number xs n ≡ Some x
number_unique xs n x h e one = find_unique (λ (r : Recipe Dependency). r.number.0 == n) xs x h (test_from_eq x.number.0 n e) (λ y m t. one y m (eq_from_test y.number.0 n t))

pub number_more : (xs ys : List (Recipe Dependency)) (n : ℕ) (x : Recipe Dependency) → find_number xs n ≡ Some x → find_number (xs ++ ys) n ≡ Some x
number_more xs ys n x e = find_more (λ (r : Recipe Dependency). r.number.0 == n) xs ys x e

some_of : {A : Type 0} (o : Option A) → IsSome o → (x : A) × (o ≡ Some x)
some_of None s = absurd (cc)
some_of (Some x) s = (x, refl)

-- the recipe of a number that is held
pub held_some : (xs : List (Recipe Dependency)) (n : ℕ) → IsSome (find_number xs n) → (x : Recipe Dependency) × (find_number xs n ≡ Some x)
held_some xs n s = some_of (find_number xs n) s

pub held_there : (xs : List (Recipe Dependency)) (n : ℕ) → IsSome (find_number xs n) → Contains (numbers xs) n
held_there xs n s =
    let x = held_some xs n s in
    let f = number_found xs n x.0 x.1 in
    subst (Contains (numbers xs)) f.1 (numbers_in x.0 xs f.0)

-- it stays the same
pub held_same : (xs ys : List (Recipe Dependency)) (n : ℕ) → IsSome (find_number xs n) → find_number (xs ++ ys) n ≡ find_number xs n
held_same xs ys n s = let x = held_some xs n s in number_more xs ys n x.0 x.1 ∙ sym x.1

-- the number at a place
pub number_of_place : (rs : List (Recipe UnresolvedDependency)) (i : ℕ) → i < length rs → number_at rs i ≡ (recipe_at rs i).number.0
number_of_place rs i h = get_or-map (λ (r : Recipe UnresolvedDependency). r.number.0) rs i no_recipe 0 h

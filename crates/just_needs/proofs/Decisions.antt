-- What is decided: that it holds, or that it does not.
use Rattle.std.proofs.Common.{◌≡◌, ◌⊎◌, ◌↔◌, ℕ, Bool, true, false, List, [], ◌∷◌, Option, None, Some, refl, sym, subst, inl, inr}
use Rattle.std.proofs.lemmas.Bool.{false≢true}
use Rattle.std.proofs.lemmas.Bool.Decides.{Decides-eqb}
use Rattle.std.proofs.lemmas.Slice.Eq.{bytes_eq-Decides}
use Rattle.std.specs.Bool.{Decides}
use Rattle.std.specs.Str.{bytes_eq}
use Rattle.just_graph.proofs.Members.{In}
use Rattle.just_names.specs.Texts.{Text}

-- what holds where another thing does is decided with it
pub dec-by : {A B : Type 0} → (A → B) → (B → A) → Dec A → Dec B
dec-by f g (yes a) = yes (f a)
dec-by f g (no h) = no (λ b. h (g b))

-- one of two, and both
pub dec-or : {A B : Type 0} → Dec A → Dec B → Dec (A ⊎ B)
dec-or (yes a) b = yes (inl a)
dec-or (no f) (yes b) = yes (inr b)
dec-or (no f) (no g) = no (λ h. elim h [ inl a ↦ f a | inr b ↦ g b ])

pub dec-and : {A B : Type 0} → Dec A → Dec B → Dec (A × B)
dec-and (yes a) (yes b) = yes (a, b)
dec-and (yes a) (no g) = no (λ h. g h.1)
dec-and (no f) b = no (λ h. f h.0)

-- what a test tells, and whether two tests, numbers or texts are one
pub dec-told : (b : Bool) (P : Type 0) → Decides b P → Dec P
dec-told true P d = yes (d.0 refl)
dec-told false P d = no (λ p. false≢true (d.1 p))

pub dec-is : (b c : Bool) → Dec (b ≡ c)
dec-is true true = yes refl
dec-is false false = yes refl
dec-is true false = no (λ e. false≢true (sym e))
dec-is false true = no false≢true

pub dec-number : (a b : ℕ) → Dec (a ≡ b)
dec-number a b = dec-told _ (a ≡ b) (Decides-eqb a b)

pub dec-text : (a b : Text) → Dec (a ≡ b)
dec-text a b = dec-told (bytes_eq a b) (a ≡ b) (bytes_eq-Decides a b)

-- whether some member has a property
pub dec-some : {A : Type 0} (P : A → Type 0) → ((x : A) → Dec (P x)) → (xs : List A) → Dec ((x : A) × In x xs × P x)
dec-some P d [] = no (λ h. h.1)
dec-some P d (y ∷ ys) = dec-by {A = P y ⊎ ((x : _) × In x ys × P x)} forth back (dec-or (d y) (dec-some P d ys))
  where
    forth : P y ⊎ ((x : _) × In x ys × P x) → (x : _) × In x (y ∷ ys) × P x
    forth (inl p) = (y, inl refl, p)
    forth (inr r) = (r.0, inr r.1, r.2)

    back : ((x : _) × In x (y ∷ ys) × P x) → P y ⊎ ((x : _) × In x ys × P x)
    back (x, inl e, p) = inl (subst P e p)
    back (x, inr i, p) = inr (x, i, p)

-- whether something is a member
pub dec-in : {A : Type 0} → ((x y : A) → Dec (x ≡ y)) → (x : A) (xs : List A) → Dec (In x xs)
dec-in d x [] = no (λ h. h)
dec-in d x (y ∷ ys) = dec-or (d x y) (dec-in d x ys)

-- whether there is a value, with a property
pub dec-found : {A : Type 0} (P : A → Type 0) → ((x : A) → Dec (P x)) → (o : Option A) → Dec ((x : A) × (o ≡ Some x) × P x)
dec-found P d None = no (λ h. let wrong = h.1 in cc)
dec-found P d (Some y) = dec-by (λ p. (y, refl, p)) (λ h. let same : h.0 ≡ y = (let e = h.1 in cc) in subst P same h.2) (d y)

-- whether two lists are one, where it is decided of members
pub dec-list : {A : Type 0} → ((x y : A) → Dec (x ≡ y)) → (xs ys : List A) → Dec (xs ≡ ys)
dec-list d [] [] = yes refl
dec-list d [] (y ∷ ys) = no (λ e. cc)
dec-list d (x ∷ xs) [] = no (λ e. cc)
dec-list d (x ∷ xs) (y ∷ ys) = dec-by {A = (x ≡ y) × (xs ≡ ys)} (λ p. let a = p.0 in let b = p.1 in cc) (λ e. (cc, cc)) (dec-and (d x y) (dec-list d xs ys))

-- the test of what is decided
pub test : {P : Type 0} → Dec P → Bool
test (yes p) = true
test (no f) = false

pub tests : {P : Type 0} (d : Dec P) → (test d ≡ true) ↔ P
unfolding test
tests (yes p) = (λ e. p, λ q. refl)
tests (no f) = (λ e. absurd (false≢true e), λ p. absurd (f p))

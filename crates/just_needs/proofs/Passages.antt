-- Steps that pass listed places alone.
use Rattle.std.proofs.Common.{◌⊎◌, List, [], ◌∷◌, inl, inr, refl, subst}
use Rattle.just_graph.proofs.Members.{In}
use Rattle.just_needs.proofs.Decisions.{dec-and, dec-by, dec-or}

-- steps lead from a place to one that has a property, and each of them ends at a listed place
pub data Passes {A : Type 0} (R : A → A → Type 0) (listed : List A) (P : A → Type 0) : A → Type 0 where
  here : {a : A} → P a → Passes R listed P a
  onward : {a b : A} → R a b → In b listed → Passes R listed P b → Passes R listed P a

module _ {A : Type 0} (R : A → A → Type 0) where
  -- one more listed place
  pass-more : (v : A) (listed : List A) (P : A → Type 0) (a : A) → Passes R listed P a → Passes R (v ∷ listed) P a
  pass-more v listed P a (here p) = here p
  pass-more v listed P a (onward {b = b} r i rest) = onward r (inr i) (pass-more v listed P b rest)

  -- steps up to this place, and steps from it
  pass-it : (v : A) (listed : List A) (P : A → Type 0) → Passes R listed P v → (a : A) → Passes R listed (λ x. R x v) a → Passes R (v ∷ listed) P a
  pass-it v listed P from a (here r) = onward r (inl refl) (pass-more v listed P v from)
  pass-it v listed P from a (onward {b = b} r i rest) = onward r (inr i) (pass-it v listed P from b rest)

  -- steps pass the place or not
  pass-cases : (v : A) (listed : List A) (P : A → Type 0) (a : A) → Passes R (v ∷ listed) P a → Passes R listed P a ⊎ (Passes R listed (λ x. R x v) a × Passes R listed P v)
  pass-cases v listed P a (here p) = inl (here p)
  pass-cases v listed P a (onward {b = b} r i rest) = next i (pass-cases v listed P b rest)
    where
      next : In b (v ∷ listed) → Passes R listed P b ⊎ (Passes R listed (λ x. R x v) b × Passes R listed P v) → Passes R listed P a ⊎ (Passes R listed (λ x. R x v) a × Passes R listed P v)
      next (inl e) (inl p) = inr (here (subst (R a) e r), subst (Passes R listed P) e p)
      next (inl e) (inr p) = inr (here (subst (R a) e r), p.1)
      next (inr c) (inl p) = inl (onward r c p)
      next (inr c) (inr p) = inr (onward r c p.0, p.1)

  -- so whether there are such steps is decided, one listed place after another
  pub dec-passes : ((a b : A) → Dec (R a b)) → (listed : List A) (P : A → Type 0) → ((a : A) → Dec (P a)) → (a : A) → Dec (Passes R listed P a)
  dec-passes d [] P p a = dec-by here ended (p a)
    where
      ended : Passes R [] P a → P a
      ended (here q) = q
      ended (onward r i rest) = absurd i
  dec-passes d (v ∷ listed) P p a =
      dec-by {A = Passes R listed P a ⊎ (Passes R listed (λ x. R x v) a × Passes R listed P v)}
      (λ h. elim h [ inl q ↦ pass-more v listed P a q | inr both ↦ pass-it v listed P both.1 a both.0 ])
      (pass-cases v listed P a)
      (dec-or (dec-passes d listed P p a) (dec-and (dec-passes d listed (λ x. R x v) (λ x. d x v) a) (dec-passes d listed P p v)))

-- Keys under places.
use Rattle.std.proofs.Common.{◌≡◌, ◌⊎◌, ℕ, zero, suc, Bool, true, false, cond, List, [], ◌∷◌, ◌++◌, length, Option, Some, None, refl, sym, ap, subst, ◌∙◌, inl, inr}
use Rattle.std.specs.Prelude.{slice_get, MatchOption}
use Rattle.std.proofs.lemmas.Bool.{false≢true}
use Rattle.just_graph.proofs.Index.{some_same, none_some}
use Rattle.just_graph.proofs.Told.{get_last}
use Rattle.just_parts.specs.Asts.{AstKey, same_ast_key}
use Rattle.just_parts.proofs.AstKeys.{key_same}
use Rattle.just_module_headers.specs.Files.{HasPlaces}

-- an element of a list with one more behind it
pub get_pushed : {A : Type 0} (xs : List A) (x : A) (p : ℕ) (y : A) → slice_get (xs ++ x ∷ []) p ≡ Some y → (slice_get xs p ≡ Some y) ⊎ (x ≡ y)
get_pushed [] x zero y e = inr (some_same e)
get_pushed [] x (suc p) y e = cc
get_pushed (z ∷ xs) x zero y e = inl e
get_pushed (z ∷ xs) x (suc p) y e = get_pushed xs x p y e

pub get_before : {A : Type 0} (xs ys : List A) (p : ℕ) (y : A) → slice_get xs p ≡ Some y → slice_get (xs ++ ys) p ≡ Some y
get_before [] ys p y e = absurd (none_some e)
get_before (x ∷ xs) ys zero y e = e
get_before (x ∷ xs) ys (suc p) y e = get_before xs ys p y e

module _ (keys : List AstKey) (k q : AstKey) where
  leads_on : (o new : Option ℕ) → (b : Bool) → same_ast_key k q ≡ b → new ≡ cond b (Some (length keys)) o → MatchOption o ((p : ℕ) → slice_get keys p ≡ Some q → ⊥) (λ p. slice_get keys p ≡ Some q)
      → MatchOption new ((p : ℕ) → slice_get (keys ++ k ∷ []) p ≡ Some q → ⊥) (λ p. slice_get (keys ++ k ∷ []) p ≡ Some q)
  leads_on o new true t e h =
      subst (λ n. MatchOption n ((p : ℕ) → slice_get (keys ++ k ∷ []) p ≡ Some q → ⊥) (λ p. slice_get (keys ++ k ∷ []) p ≡ Some q)) (sym e)
      (get_last keys k ∙ ap Some ((key_same k q).0 t))
  leads_on None new false t e h =
      subst (λ n. MatchOption n ((p : ℕ) → slice_get (keys ++ k ∷ []) p ≡ Some q → ⊥) (λ p. slice_get (keys ++ k ∷ []) p ≡ Some q)) (sym e)
      (λ p at. elim (get_pushed keys k p q at) [ inl i ↦ h p i | inr same ↦ false≢true (sym t ∙ (key_same k q).1 same) ])
  leads_on (Some r) new false t e h =
      subst (λ n. MatchOption n ((p : ℕ) → slice_get (keys ++ k ∷ []) p ≡ Some q → ⊥) (λ p. slice_get (keys ++ k ∷ []) p ≡ Some q)) (sym e)
      (get_before keys (k ∷ []) r q h)

-- one more key has the next place
pub leads_more : (keys more : List AstKey) (k l : AstKey) (n : ℕ) (old new : AstKey → Option ℕ) → n ≡ length keys → l ≡ k → more ≡ keys ++ k ∷ [] → ((q : AstKey) → new q ≡ cond (same_ast_key l q) (Some n) (old q)) → HasPlaces keys old → HasPlaces more new
leads_more keys more k l n old new count same pushed is leads =
    subst (λ ks. HasPlaces ks new) (sym pushed)
    (λ q. leads_on keys k q (old q) (new q) (same_ast_key k q) refl (is q ∙ ap (λ m. cond (same_ast_key l q) (Some m) (old q)) count ∙ ap (λ x. cond (same_ast_key x q) (Some (length keys)) (old q)) same) (leads q))

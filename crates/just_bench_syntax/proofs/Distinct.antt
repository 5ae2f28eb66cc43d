-- Sigils that a text begins with, as far as each stands there once.
use Rattle.std.proofs.Common.{◌≡◌, ℕ, suc, ◌+◌, ◌<◌, ◌≤◌, Bool, true, false, ◌||◌, List, [], ◌∷◌, ◌++◌, Option, Some, None, take, drop, length, get_or, refl, sym, ap, ◌∙◌, arith, add-one}
use Rattle.std.specs.List.{before_first, list_any, position_or_len}
use Rattle.std.proofs.Math.Seq.{drop-cons}
use Rattle.std.proofs.lemmas.List.{append-nil, append_assoc, drop_all}
use Rattle.std.proofs.lemmas.List.Folds.{list_any-append}
use Rattle.just_ast_expressions.specs.declared.sigil.Sigil.{Sigil}
use Rattle.just_ast_expressions.specs.declared.sigil.Sigil.TheVariants as sigil
use Rattle.just_ast_expressions.specs.contracts.sigil.SigilPartialEq.TheImpl.{eq-value}
use Rattle.just_bench_syntax.specs.Sigils.{sigils_begun, leading, same, sigil_of}

same_is : (a b : Sigil) → eq-value.it a b ≡ same a b
same_is sigil.Guard sigil.Guard = refl
same_is sigil.Guard sigil.Infallible = refl
same_is sigil.Guard sigil.Quiet = refl
same_is sigil.Infallible sigil.Guard = refl
same_is sigil.Infallible sigil.Infallible = refl
same_is sigil.Infallible sigil.Quiet = refl
same_is sigil.Quiet sigil.Guard = refl
same_is sigil.Quiet sigil.Infallible = refl
same_is sigil.Quiet sigil.Quiet = refl

abbrev pub stands : List Sigil → Sigil → Bool
stands found s = list_any (λ f. eq-value.it f s) found

module _ {A : Type 0} (p : A → Bool) (x : A) (xs : List A) where
  cut : p x ≡ true → before_first p (x ∷ xs) ≡ []
  cut e = rw e refl

  kept : p x ≡ false → before_first p (x ∷ xs) ≡ x ∷ before_first p xs
  kept e = let on : 1 + position_or_len p xs ≡ suc (position_or_len p xs) = omega arith in rw e (ap (λ n. take n (x ∷ xs)) on)

module _ {A : Type 0} (p q r : A → Bool) (either : (x : A) → r x ≡ (p x || (q x || false))) where
  twice_by : (b c : Bool) (x : A) (xs : List A) → p x ≡ b → q x ≡ c
      → before_first p (before_first q xs) ≡ before_first r xs → before_first p (before_first q (x ∷ xs)) ≡ before_first r (x ∷ xs)
  twice_by true true x xs e f h = ap (before_first p) (cut q x xs f) ∙ sym (cut r x xs (either x ∙ rw e refl))
  twice_by false true x xs e f h = ap (before_first p) (cut q x xs f) ∙ sym (cut r x xs (either x ∙ rw (e, f) refl))
  twice_by true false x xs e f h = ap (before_first p) (kept q x xs f) ∙ cut p x (before_first q xs) e ∙ sym (cut r x xs (either x ∙ rw e refl))
  twice_by false false x xs e f h = ap (before_first p) (kept q x xs f) ∙ kept p x (before_first q xs) e ∙ ap (λ ys. x ∷ ys) h ∙ sym (kept r x xs (either x ∙ rw (e, f) refl))

  twice : (xs : List A) → before_first p (before_first q xs) ≡ before_first r xs
  twice [] = refl
  twice (x ∷ xs) = twice_by (p x) (q x) x xs refl refl (twice xs)

-- the found ones, and those after them as far as each stands there once
abbrev pub Begun : List ℕ → ℕ → List Sigil → Type 0
Begun bytes i found = found ++ before_first (stands found) (leading (drop i bytes)) ≡ leading bytes

pub Begun-none : (bytes : List ℕ) → Begun bytes 0 []
Begun-none bytes = all (leading bytes) where
  all : (xs : List Sigil) → before_first (stands []) xs ≡ xs
  all [] = refl
  all (x ∷ xs) = kept (stands []) x xs refl ∙ ap (λ ys. x ∷ ys) (all xs)

-- where nothing more may come, all are found
stops : (bytes : List ℕ) (i : ℕ) (found : List Sigil) → Begun bytes i found → before_first (stands found) (leading (drop i bytes)) ≡ [] → found ≡ leading bytes
stops bytes i found so_far none = sym (append-nil found) ∙ ap (λ xs. found ++ xs) (sym none) ∙ so_far

pub Begun-all : (bytes : List ℕ) (i : ℕ) (found : List Sigil) → length bytes ≤ i → Begun bytes i found → found ≡ leading bytes
Begun-all bytes i found past so_far = stops bytes i found so_far (ap (λ xs. before_first (stands found) (leading xs)) (drop_all i bytes past))

module _ (bytes : List ℕ) (i : ℕ) (found : List Sigil) (within : i < length bytes) (so_far : Begun bytes i found) where
  next : (o : Option Sigil) → sigil_of (get_or bytes i 0) ≡ o → leading (drop i bytes) ≡ sigils_begun o (leading (drop (suc i) bytes))
  next o is_o = ap leading (drop-cons bytes i 0 within) ∙ ap (λ s. sigils_begun s (leading (drop (suc i) bytes))) is_o

  pub Begun-other : sigil_of (get_or bytes i 0) ≡ None → found ≡ leading bytes
  Begun-other none = stops bytes i found so_far (ap (before_first (stands found)) (next None none))

  module _ (s : Sigil) (some : sigil_of (get_or bytes i 0) ≡ Some s) where
    pub Begun-again : stands found s ≡ true → found ≡ leading bytes
    Begun-again again = stops bytes i found so_far (ap (before_first (stands found)) (next (Some s) some) ∙ cut (stands found) s _ again)

    pub Begun-more : (new : List Sigil) → stands found s ≡ false → new ≡ found ++ s ∷ [] → Begun bytes (i + 1) new
    Begun-more new apart is_new =
        let either = λ (x : Sigil). list_any-append (λ f. eq-value.it f x) found (s ∷ []) ∙ ap (λ e. stands found x || (e || false)) (same_is s x) in
        let both = twice (stands found) (same s) (stands (found ++ s ∷ [])) either (leading (drop (suc i) bytes)) in
        let here = ap (before_first (stands found)) (next (Some s) some) ∙ kept (stands found) s _ apart ∙ ap (λ xs. s ∷ xs) both in
        rw (is_new, add-one i) (append_assoc found (s ∷ []) _ ∙ sym (ap (λ xs. found ++ xs) here) ∙ so_far)

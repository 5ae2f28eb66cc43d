-- What is written, step by step.
use Rattle.std.proofs.Common.{◌≡◌, refl, sym, ap, ◌∙◌, subst, ℕ, List, [], ◌∷◌, ◌++◌, map, append-nil, Option, None, Some, IfSome, IsOk, Result}
use Rattle.std.specs.Option.{option_map}
use Rattle.std.specs.Fmt.{DisplaysOnOk, HasWritten, IsPlainFormatter, ◌++?◌}
use Rattle.std.specs.declared.fmt.Error.{Error}
use Rattle.std.specs.declared.fmt.Formatter.{Formatter}
use Rattle.std.proofs.Output.{has_written_append, then_text_assoc}
use Rattle.just_recipe.specs.RecipeTexts.{all_texts, each_after}

module _ {W : Type 0} (took : W → List ℕ → W → Type 0) where
  -- a text, if it is known, took one formatter to another
  abbrev pub Put : Formatter W → Option (List ℕ) → Formatter W → Type 0
  Put f text g = IfSome text (λ bs. IsPlainFormatter f → HasWritten took f bs g)

  pub put_ok : (f g : Formatter W) (r : Result (Unit {0}) Error) (text : Option (List ℕ)) → IsOk r → DisplaysOnOk took f r text g → Put f text g
  put_ok f g r None ok h = tt
  put_ok f g r (Some bs) ok h = λ plain. h plain ok

  pub put_more : (f g h : Formatter W) (first second : Option (List ℕ)) → Put f first g → Put g second h → Put f (first ++? second) h
  put_more f g h None second p q = tt
  put_more f g h (Some a) None p q = tt
  put_more f g h (Some a) (Some b) p q = λ plain. let one = p plain in has_written_append took f a g b h one (q one.plain)

  pub put_along : (f g : Formatter W) (text other : Option (List ℕ)) → text ≡ other → Put f text g → Put f other g
  put_along f g text other e = subst (λ (t : Option (List ℕ)). Put f t g) e

  pub put_where_ok : (f g : Formatter W) (r : Result (Unit {0}) Error) (text : Option (List ℕ)) → (IsOk r → Put f text g) → DisplaysOnOk took f r text g
  put_where_ok f g r None p = tt
  put_where_ok f g r (Some bs) p = λ plain ok. p ok plain

module _ {A : Type 0} (before : List ℕ) (text : A → Option (List ℕ)) where
  -- each item behind a text, if the texts of all are known
  abbrev pub each_text : List A → Option (List ℕ)
  each_text [] = Some []
  each_text (x ∷ xs) = (Some before ++? text x) ++? each_text xs

  last_text : (o : Option (List ℕ)) → o ++? Some [] ≡ Some [] ++? o
  last_text None = refl
  last_text (Some t) = ap Some (append-nil t)

  -- one more
  pub each_more : (xs : List A) (x : A) → each_text (xs ++ x ∷ []) ≡ each_text xs ++? (Some before ++? text x)
  each_more [] x = last_text (Some before ++? text x)
  each_more (y ∷ ys) x = ap (λ t. (Some before ++? text y) ++? t) (each_more ys x) ∙ sym (then_text_assoc (Some before ++? text y) (each_text ys) (Some before ++? text x))

  behind_first : (o : Option (List ℕ)) (others : Option (List (List ℕ))) (texts : List (Option (List ℕ))) → others ≡ all_texts texts
      → (Some before ++? o) ++? option_map (each_after before) others ≡ option_map (each_after before) (all_texts (o ∷ texts))
  behind_first None others texts e = refl
  behind_first (Some t) None texts e = ap (λ ts. option_map (each_after before) (option_map (λ rest. t ∷ rest) ts)) e
  behind_first (Some t) (Some ts) texts e = ap (λ ts. option_map (each_after before) (option_map (λ rest. t ∷ rest) ts)) e

  pub each_is : (xs : List A) → each_text xs ≡ option_map (each_after before) (all_texts (map text xs))
  each_is [] = refl
  each_is (x ∷ xs) = ap (λ t. (Some before ++? text x) ++? t) (each_is xs) ∙ behind_first (text x) (all_texts (map text xs)) (map text xs) refl

-- texts that are known
pub all_known_texts : {A : Type 0} (text : A → List ℕ) (xs : List A) → all_texts (map (λ x. Some (text x)) xs) ≡ Some (map text xs)
all_known_texts text [] = refl
all_known_texts text (x ∷ xs) = ap (option_map (λ others. text x ∷ others)) (all_known_texts text xs)

-- Texts as they are cut at their slashes.
use Rattle.std.proofs.Common.{◌≡◌, ◌≢◌, ◌↔◌, ℕ, ◌+◌, ◌<◌, ◌≤◌, ◌==◌, suc, Bool, true, false, not, List, [], ◌∷◌, ◌++◌, reverse, length, get_or, take, drop, refl, sym, ap, ◌∙◌, subst, arith, IsTrue, Option, None, Some, MatchOption, Bor, append_assoc, length-append, take-append-drop, take_at, zero-add}
use Rattle.std.specs.Str.Pattern.{RFindsChar}
use Rattle.std.specs.Str.{NoCharPasses}
use Rattle.std.specs.List.{All, list_all, slice_split, prefix_len, suffix_len, before_last}
use Rattle.std.proofs.lemmas.Bool.{cond-true, cond-false, false≢true}
use Rattle.std.proofs.lemmas.List.{length-reverse, reverse-append}
use Rattle.std.proofs.lemmas.List.Elements.{All-nil, All-cons, All-head, All-tail, All-append}
use Rattle.std.proofs.lemmas.Str.Pattern.{NoCharPasses-char, drop_at_char}
use borrow.Author.Tests.{ne_eqb}
use Rattle.just_paths.specs.Clean.{IsClean, is_slash, is_component, folder_of, or_root}

-- no byte is a slash
abbrev pub LacksSlash : List ℕ → Type 0
LacksSlash bs = (i : ℕ) → i < length bs → get_or bs i 0 ≢ 47

-- the clause of `rsplit_once` at a character
abbrev pub IsLastSplit : ℕ → List ℕ → Option (Bor (List ℕ) × Bor (List ℕ)) → Type 0
IsLastSplit c bs r = MatchOption r (RFindsChar c bs None) (λ x. (i : ℕ) × (j : ℕ) × RFindsChar c bs (Some (i, j)) × (x.0.now ≡ take i bs) × (x.1.now ≡ drop j bs) × (i ≤ j) × (length x.0.now ≡ i) × (length x.1.now + j ≡ length bs))

pub last_parts : (bs : List ℕ) (r : Option (Bor (List ℕ) × Bor (List ℕ))) → IsLastSplit 47 bs r
    → MatchOption r (LacksSlash bs) (λ x. (bs ≡ x.0.now ++ 47 ∷ x.1.now) × LacksSlash x.1.now)
last_parts bs None h = λ i l. NoCharPasses-char 47 bs i h (omega arith) l
last_parts bs (Some x) h = (
  sym (take-append-drop h.0 bs) ∙ (λ k. sym h.3 k ++ (drop_at_char 47 bs h.0 h.1 h.2.1 (omega arith) ∙ ap (λ l. 47 ∷ l) (sym h.4)) k),
  λ i. NoCharPasses-char 47 x.1.now i (subst (NoCharPasses (λ d. d == 47)) (sym h.4) h.2.0) (omega arith),
)

all_others : (bs : List ℕ) → LacksSlash bs → All (λ b. not (is_slash b) ≡ true) bs
all_others [] h = All-nil (λ b. not (is_slash b) ≡ true)
all_others (b ∷ bs) h = All-cons (λ b. not (is_slash b) ≡ true) b bs (ap not (ne_eqb b 47 (h 0 (omega arith)))) (all_others bs (λ i l. h (suc i) (omega arith)))

pub clean_by : (path rest : List ℕ) (b : Bool) → path ≡ 47 ∷ rest → list_all is_component (slice_split is_slash rest) ≡ b → IsTrue b ↔ IsClean path
clean_by path rest b e h = (
  (λ t. record { rest = rest; rooted = e; components = h ∙ t }),
  λ clean.
      let same : clean.rest ≡ rest = (cc (e, clean.rooted)) in
      sym h ∙ ap (λ l. list_all is_component (slice_split is_slash l)) (sym same) ∙ clean.components,
)

pub unclean_by : (path : List ℕ) → ((rest : List ℕ) → path ≢ 47 ∷ rest) → IsTrue false ↔ IsClean path
unclean_by path h = ((λ t. absurd (false≢true t)), λ clean. absurd (h clean.rest clean.rooted))

-- a clean path has a slash
pub clean_has : (path : List ℕ) → IsClean path → LacksSlash path → ⊥
clean_has path clean h = subst LacksSlash clean.rooted h 0 (omega arith) refl

-- ---- the last slash
module _ {X : Type 0} (p : X → Bool) where
  All-reverse : (P : X → Type 0) (xs : List X) → All P xs → All P (reverse xs)
  All-reverse P [] h = h
  All-reverse P (x ∷ xs) h =
      subst (All P) (sym (reverse-append (x ∷ []) xs))
      (All-append P (reverse xs) (x ∷ []) (All-reverse P xs (All-tail P x xs h)) (All-cons P x [] (All-head P x xs h) (All-nil P)))

  prefix_len-append : (xs ys : List X) → All (λ x. p x ≡ true) xs → prefix_len p (xs ++ ys) ≡ length xs + prefix_len p ys
  prefix_len-append [] ys h = sym (zero-add _)
  prefix_len-append (x ∷ xs) ys h =
      let more = prefix_len-append xs ys (All-tail (λ y. p y ≡ true) x xs h) in
      cond-true (p x) _ 0 (All-head (λ y. p y ≡ true) x xs h) ∙ omega arith

  suffix_len_at : (xs : List X) (y : X) (ys : List X) → p y ≡ false → All (λ x. p x ≡ true) ys → suffix_len p (xs ++ y ∷ ys) ≡ length ys
  suffix_len_at xs y ys stop h =
      let turned : reverse (xs ++ y ∷ ys) ≡ reverse ys ++ (y ∷ reverse xs) =
      reverse-append xs (y ∷ ys) ∙ ap (λ zs. zs ++ reverse xs) (reverse-append (y ∷ []) ys) ∙ append_assoc (reverse ys) (y ∷ []) (reverse xs) in
      let none : prefix_len p (y ∷ reverse xs) ≡ 0 = cond-false (p y) _ 0 stop in
      ap (prefix_len p) turned ∙ prefix_len-append (reverse ys) _ (All-reverse (λ x. p x ≡ true) ys h) ∙ omega (arith, length-reverse ys)

pub before_slash : (front name : List ℕ) → LacksSlash name → before_last is_slash (front ++ 47 ∷ name) ≡ front
before_slash front name h =
    take_at front (47 ∷ name) _ (omega (arith, suffix_len_at (λ b. not (is_slash b)) front 47 name refl (all_others name h), length-append front (47 ∷ name)))

pub folder_is : (path front name : List ℕ) → path ≡ front ++ 47 ∷ name → LacksSlash name → or_root front ≡ folder_of path
folder_is path front name e h = ap or_root (sym (before_slash front name h) ∙ ap (before_last is_slash) (sym e))

pub some_folder : (front : List ℕ) → front ≢ [] → front ≡ or_root front
some_folder [] h = absurd (h refl)
some_folder (b ∷ bs) h = refl

-- The word of an option has one name, and no other piece is it.
use Rattle.std.proofs.Common.{◌≡◌, ◌≢◌, inl, inr, ℕ, suc, ◌<◌, length, get_or, Bool, true, false, ◌||◌, [], ◌∷◌, ◌++◌, Option, Some, None, refl, sym, ap, ◌∙◌, arith, eq-eqb, eqb}
use Rattle.std.proofs.lemmas.Bool.{false≢true, ne_eqb}
use Rattle.std.proofs.lemmas.Str.{chars-nil}
use Rattle.just_names.specs.Texts.{Text}
use Rattle.just_tail.specs.Pieces.{OptionName, long, cluster, dashed_name, option_word, has_equals, IsOptionName, is_dashed, IsNameless}

or_false : (a b : Bool) → (a || b) ≡ false → (a ≡ false) × (b ≡ false)
or_false false b e = (refl, e)
or_false true b e = absurd (false≢true (sym e))

-- no byte of the text is `=`
abbrev IsUncut : Text → Type 0
IsUncut [] = Unit {0}
IsUncut (b ∷ bs) = (b ≢ 61) × IsUncut bs

uncut : (text : Text) → has_equals text ≡ false → IsUncut text
uncut [] h = tt
uncut (b ∷ bs) h =
    let p = or_false (eqb b 61) (has_equals bs) h in
    ((λ e. false≢true (sym p.0 ∙ eq-eqb b 61 e)), uncut bs p.1)

-- a text is cut at its first `=` in one way
cut_once : (xs ys a b : Text) → IsUncut xs → IsUncut ys → xs ++ 61 ∷ a ≡ ys ++ 61 ∷ b → (xs ≡ ys) × (a ≡ b)
cut_once [] [] a b l m e = (refl, (cc))
cut_once [] (y ∷ ys) a b l m e = let p : y ≡ 61 = (cc) in absurd (m.0 p)
cut_once (x ∷ xs) [] a b l m e = let p : x ≡ 61 = (cc) in absurd (l.0 p)
cut_once (x ∷ xs) (y ∷ ys) a b l m e =
    let tails : xs ++ 61 ∷ a ≡ ys ++ 61 ∷ b = (cc) in
    let r = cut_once xs ys a b l.1 m.1 tails in
    let same : x ≡ y = (cc) in
    (let q : xs ≡ ys = r.0 in (cc), r.1)

no_cut : (xs ys b : Text) → IsUncut xs → xs ≡ ys ++ 61 ∷ b → ⊥
no_cut [] [] b l e = (cc)
no_cut [] (y ∷ ys) b l e = (cc)
no_cut (x ∷ xs) [] b l e = let p : x ≡ 61 = (cc) in l.0 p
no_cut (x ∷ xs) (y ∷ ys) b l e = let t : xs ≡ ys ++ 61 ∷ b = (cc) in no_cut xs ys b l.1 t

uncut_name : (n : OptionName) → IsOptionName n → IsUncut (dashed_name n)
uncut_name (long name) p = ((λ e. omega arith), ((λ e. omega arith), uncut name p.1))
uncut_name (cluster name) p = ((λ e. omega arith), uncut name p.1)

text_once : (n m : OptionName) (a b : Option Text) → IsOptionName n → IsOptionName m → option_word n a ≡ option_word m b → (dashed_name n ≡ dashed_name m) × (a ≡ b)
text_once n m None None p q e = (e, refl)
text_once n m None (Some v) p q e = absurd (no_cut (dashed_name n) (dashed_name m) v (uncut_name n p) e)
text_once n m (Some v) None p q e = absurd (no_cut (dashed_name m) (dashed_name n) v (uncut_name m q) (sym e))
text_once n m (Some v) (Some w) p q e =
    let r = cut_once (dashed_name n) (dashed_name m) v w (uncut_name n p) (uncut_name m q) e in
    (r.0, ap (λ t. Some t) r.1)

name_once : (n m : OptionName) → IsOptionName n → IsOptionName m → dashed_name n ≡ dashed_name m → n ≡ m
name_once (long a) (long b) p q e = let f : a ≡ b = (cc) in ap long f
name_once (long a) (cluster b) p q e = absurd (q.2 (a, (cc)))
name_once (cluster a) (long b) p q e = absurd (p.2 (b, (cc)))
name_once (cluster a) (cluster b) p q e = let f : a ≡ b = (cc) in ap cluster f

-- the word of an option has one name and one `V`
pub option_once : (n m : OptionName) (a b : Option Text) → IsOptionName n → IsOptionName m → option_word n a ≡ option_word m b → (n ≡ m) × (a ≡ b)
option_once n m a b p q e = let r = text_once n m a b p q e in (name_once n m p q r.0, r.1)

-- it begins with `-`
pub option_dashed : (n : OptionName) (a : Option Text) → IsOptionName n → is_dashed (option_word n a) ≡ true
option_dashed (long name) None p = refl
option_dashed (long name) (Some v) p = refl
option_dashed (cluster []) None p = absurd (p.0 chars-nil)
option_dashed (cluster []) (Some v) p = absurd (p.0 chars-nil)
option_dashed (cluster (c ∷ cs)) None p = refl
option_dashed (cluster (c ∷ cs)) (Some v) p = refl

-- it is not `--`
pub not_dashes : (n : OptionName) (a : Option Text) → IsOptionName n → option_word n a ≡ 45 ∷ (45 ∷ []) → ⊥
not_dashes (long name) None p e = p.0 (cc)
not_dashes (long []) (Some v) p e = p.0 refl
not_dashes (long (c ∷ cs)) (Some v) p e = (cc)
not_dashes (cluster name) None p e = p.2 ([], (cc))
not_dashes (cluster []) (Some v) p e = p.0 chars-nil
not_dashes (cluster (c ∷ cs)) (Some v) p e = p.2 (cs, (let f : c ≡ 45 = (cc) in ap (λ x. x ∷ cs) f))

not_equals : (c : ℕ) (cs : Text) → has_equals (c ∷ cs) ≡ false → c ≡ 61 → ⊥
not_equals c cs h e = (uncut (c ∷ cs) h).0 e

second : (a b c : ℕ) (v w : Text) → a ∷ (b ∷ v) ≡ a ∷ (c ∷ w) → b ≡ c
second a b c v w e = (cc)

apart : ◌≡◌ {A = ℕ} 45 61 → ⊥
apart e = omega arith

no_third : (a b c : ℕ) (v : Text) → a ∷ (b ∷ []) ≡ a ∷ (b ∷ (c ∷ v)) → ⊥
no_third a b c v e = (cc)

short_named : (n : OptionName) (a : Option Text) (v : Text) → IsOptionName n → option_word n a ≡ 45 ∷ (61 ∷ v) → ⊥
short_named (long name) None v p e = apart (second 45 45 61 name v e)
short_named (long name) (Some w) v p e = apart (second 45 45 61 (name ++ 61 ∷ w) v e)
short_named (cluster []) a v p e = p.0 chars-nil
short_named (cluster (c ∷ cs)) None v p e = not_equals c cs p.1 (cc)
short_named (cluster (c ∷ cs)) (Some w) v p e = not_equals c cs p.1 (cc)

long_named : (n : OptionName) (a : Option Text) (v : Text) → IsOptionName n → option_word n a ≡ 45 ∷ (45 ∷ (61 ∷ v)) → ⊥
long_named (long []) a v p e = p.0 refl
long_named (long (c ∷ cs)) None v p e = not_equals c cs p.1 (cc)
long_named (long (c ∷ cs)) (Some w) v p e = not_equals c cs p.1 (cc)
long_named (cluster []) a v p e = p.0 chars-nil
long_named (cluster (c ∷ cs)) None v p e = p.2 (cs, (let f : c ≡ 45 = (cc) in ap (λ x. x ∷ cs) f))
long_named (cluster (c ∷ cs)) (Some w) v p e = p.2 (cs, (let f : c ≡ 45 = (cc) in ap (λ x. x ∷ cs) f))

-- it has a name
pub is_named : (n : OptionName) (a : Option Text) → IsOptionName n → IsNameless (option_word n a) → ⊥
is_named n a p (v, inl e) = short_named n a v p e
is_named n a p (v, inr e) = long_named n a v p e

-- a word without a name begins with `-`
pub nameless_dashed : (w : Text) → IsNameless w → is_dashed w ≡ true
nameless_dashed w (v, inl e) = ap is_dashed e
nameless_dashed w (v, inr e) = ap is_dashed e

-- it is not `--`
pub nameless_dashes : (w : Text) → w ≡ 45 ∷ (45 ∷ []) → IsNameless w → ⊥
nameless_dashes w f (v, inl e) = apart (second 45 45 61 [] v (sym f ∙ e))
nameless_dashes w f (v, inr e) = no_third 45 45 61 v (sym f ∙ e)

-- no `=` is in a text that has none at any place
pub uncut_everywhere : (w : Text) → ((i : ℕ) → i < length w → get_or w i 0 ≢ 61) → has_equals w ≡ false
uncut_everywhere [] h = refl
uncut_everywhere (b ∷ bs) h =
    ap (λ t. t || has_equals bs) (ne_eqb b 61 (h 0 (omega arith))) ∙ uncut_everywhere bs (λ i q. h (suc i) (omega arith))

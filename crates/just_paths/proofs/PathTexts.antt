-- A word is a path in one way, or it is none.
use Rattle.std.proofs.Common.{◌≡◌, ◌≢◌, ◌⊎◌, inl, inr, ℕ, zero, suc, ◌<◌, Bool, true, false, List, [], ◌∷◌, ◌++◌, length, refl, sym, ap, ◌∙◌, subst, arith, length-append}
use Rattle.std.proofs.lemmas.Bool.{cases_eq, false≢true}
use Rattle.std.proofs.lemmas.List.{append-nil, append_cancel_right}
use Rattle.just_names.specs.Identifier.{is_identifier}
use Rattle.just_names.specs.Texts.{Text, joined}
use Rattle.just_paths.specs.Modulepath.{IsWordPath, IsArgumentPath, DropsEnd}
use Rattle.just_paths.proofs.ModulepathLemmas.{LacksColon, lacks_identifier, path_one, path_cons, only_one, only_cons}

-- a word is a path in one way
pub word_path_once : (word : Text) (cs ds : List Text) → IsWordPath word cs → IsWordPath word ds → cs ≡ ds
word_path_once word [] ds p q = absurd (p.0 refl)
word_path_once word (c ∷ []) ds p q =
    let e : c ≡ word = sym (append-nil c) ∙ sym p.2 in
    let o = only_one c ds (lacks_identifier c p.1.0) (subst (λ w. IsWordPath w ds) (sym e) q) in
    sym o.0
word_path_once word (c ∷ d ∷ cs) ds p q =
    let o = only_cons c (58 ∷ joined (58 ∷ 58 ∷ []) (d ∷ cs)) ds (lacks_identifier c p.1.0) (subst (λ w. IsWordPath w ds) p.2 q) in
    let more : joined (58 ∷ 58 ∷ []) (d ∷ cs) ≡ o.1 = let e = o.3 in (cc) in
    let rest = word_path_once (joined (58 ∷ 58 ∷ []) (d ∷ cs)) (d ∷ cs) o.2 ((λ e. (cc)), p.1.1, refl) (subst (λ w. IsWordPath w o.2) (sym more) o.5) in
    ap (λ t. c ∷ t) rest ∙ sym o.4

-- one end is dropped
pub drops_once : (word x y : Text) → DropsEnd word x → DropsEnd word y → x ≡ y
drops_once word x y (inl p) (inl q) = append_cancel_right x y (58 ∷ (58 ∷ [])) (sym p ∙ q)
drops_once word x y (inl p) (inr q) = absurd (q.0 x p)
drops_once word x y (inr p) (inl q) = absurd (p.0 y q)
drops_once word x y (inr p) (inr q) = p.1 ∙ sym q.1

-- and an argument in one way
pub argument_path_once : (word : Text) (cs ds : List Text) → IsArgumentPath word cs → IsArgumentPath word ds → cs ≡ ds
argument_path_once word cs ds p q =
    word_path_once p.0 cs ds p.2 (subst (λ w. IsWordPath w ds) (sym (drops_once word p.0 q.0 p.1 q.1)) q.2)

-- the text lacks a colon, or is cut at its first one
abbrev Cut : Text → Type 0
Cut word = LacksColon word ⊎ ((name : Text) × (after : Text) × LacksColon name × (word ≡ name ++ 58 ∷ after))

cut_step : (b : ℕ) (bs : Text) → (b ≡ 58) ⊎ (b ≢ 58) → Cut bs → Cut (b ∷ bs)
cut_step b bs (inl e) c = inr ([], bs, tt, ap (λ x. x ∷ bs) e)
cut_step b bs (inr n) (inl l) = inl (n, l)
cut_step b bs (inr n) (inr c) = inr (b ∷ c.0, c.1, (n, c.2), ap (λ t. b ∷ t) c.3)

cut : (word : Text) → Cut word
cut [] = inl tt
cut (b ∷ bs) = cut_step b bs (cases_eq b 58) (cut bs)

-- the word is a path, or it is none
abbrev pub PathOrNone : (List Text → Type 0) → Type 0
PathOrNone P = ((names : List Text) × P names) ⊎ ((names : List Text) → P names → ⊥)

-- a word without a colon
decide_one : (word : Text) (test : Bool) → is_identifier word ≡ test → LacksColon word → PathOrNone (IsWordPath word)
decide_one word true e l = inl (word ∷ [], path_one word e)
decide_one word false e l = inr (λ names p. false≢true (sym e ∙ (only_one word names l p).1))

-- after an identifier and `::`
decide_more : (name more : Text) (test : Bool) → is_identifier name ≡ test → LacksColon name → PathOrNone (IsWordPath more) →
    PathOrNone (IsWordPath (name ++ 58 ∷ (58 ∷ more)))
decide_more name more true e l (inl p) = inl (name ∷ p.0, path_cons name more p.0 e p.1)
decide_more name more true e l (inr none) =
    inr (λ names p. let o = only_cons name (58 ∷ more) names l p in
    let same : o.1 ≡ more = let f = o.3 in (cc) in
    none o.2 (subst (λ w. IsWordPath w o.2) same o.5))
decide_more name more false e l d = inr (λ names p. false≢true (sym e ∙ (only_cons name (58 ∷ more) names l p).0))

-- after the first colon
no_end : (name : Text) → LacksColon name → (names : List Text) → IsWordPath (name ++ 58 ∷ []) names → ⊥
no_end name l names p = let o = only_cons name [] names l p in let f = o.3 in (cc)

no_colon : (name : Text) (b : ℕ) (more : Text) → b ≢ 58 → LacksColon name → (names : List Text) → IsWordPath (name ++ 58 ∷ (b ∷ more)) names → ⊥
no_colon name b more n l names p = let o = only_cons name (b ∷ more) names l p in let f = o.3 in let e : b ≡ 58 = (cc) in n e

decide_colon : (name : Text) (b : ℕ) (more : Text) → (b ≡ 58) ⊎ (b ≢ 58) → LacksColon name → PathOrNone (IsWordPath more) →
    PathOrNone (IsWordPath (name ++ 58 ∷ (b ∷ more)))
decide_colon name b more (inl e) l d =
    subst (λ x. PathOrNone (IsWordPath (name ++ 58 ∷ (x ∷ more)))) (sym e) (decide_more name more (is_identifier name) refl l d)
decide_colon name b more (inr n) l d = inr (no_colon name b more n l)

decide_after : (fuel : ℕ) → ((word : Text) → length word < fuel → PathOrNone (IsWordPath word)) → (name after : Text) → LacksColon name →
    length (name ++ 58 ∷ after) < suc fuel → PathOrNone (IsWordPath (name ++ 58 ∷ after))
decide_after fuel decide name [] l h = inr (no_end name l)
decide_after fuel decide name (b ∷ more) l h =
    decide_colon name b more (cases_eq b 58) l (decide more (omega (arith, length-append name (58 ∷ (b ∷ more)))))

decide_cut : (fuel : ℕ) → ((word : Text) → length word < fuel → PathOrNone (IsWordPath word)) → (word : Text) → length word < suc fuel → Cut word →
    PathOrNone (IsWordPath word)
decide_cut fuel decide word h (inl l) = decide_one word (is_identifier word) refl l
decide_cut fuel decide word h (inr c) =
    let small : length (c.0 ++ 58 ∷ c.1) < suc fuel = subst (λ w. length w < suc fuel) c.3 h in
    subst (λ w. PathOrNone (IsWordPath w)) (sym c.3) (decide_after fuel decide c.0 c.1 c.2 small)

decide_word : (fuel : ℕ) (word : Text) → length word < fuel → PathOrNone (IsWordPath word)
decide_word zero word h = absurd (omega arith)
decide_word (suc n) word h = decide_cut n (decide_word n) word h (cut word)

-- the word ends in `::`, or it does not
abbrev End : Text → Type 0
End word = ((front : Text) × (word ≡ front ++ 58 ∷ (58 ∷ []))) ⊎ ((front : Text) → word ≢ front ++ 58 ∷ (58 ∷ []))

two : (b : ℕ) (bs : Text) → (b ≡ 58) ⊎ (b ≢ 58) → (b ∷ bs ≡ 58 ∷ (58 ∷ [])) ⊎ (b ∷ bs ≢ 58 ∷ (58 ∷ []))
two b [] d = inr (λ e. (cc))
two b (c ∷ d ∷ ds) s = inr (λ e. (cc))
two b (c ∷ []) (inr n) = inr (λ e. let f : b ≡ 58 = (cc) in n f)
two b (c ∷ []) (inl e) = elim (cases_eq c 58) [
  | inl f ↦ inl (cc)
  | inr n ↦ inr (λ f. let g : c ≡ 58 = (cc) in n g)
]

no_front_empty : (front : Text) → [] ≢ front ++ 58 ∷ (58 ∷ [])
no_front_empty [] e = (cc)
no_front_empty (x ∷ xs) e = (cc)

no_front : (b : ℕ) (bs : Text) → b ∷ bs ≢ 58 ∷ (58 ∷ []) → ((front : Text) → bs ≢ front ++ 58 ∷ (58 ∷ [])) → (front : Text) → b ∷ bs ≢ front ++ 58 ∷ (58 ∷ [])
no_front b bs n none [] e = n e
no_front b bs n none (x ∷ xs) e = let f : bs ≡ xs ++ 58 ∷ (58 ∷ []) = (cc) in none xs f

end_step : (b : ℕ) (bs : Text) → (b ∷ bs ≡ 58 ∷ (58 ∷ [])) ⊎ (b ∷ bs ≢ 58 ∷ (58 ∷ [])) → End bs → End (b ∷ bs)
end_step b bs (inl e) d = inl ([], e)
end_step b bs (inr n) (inl p) = inl (b ∷ p.0, ap (λ t. b ∷ t) p.1)
end_step b bs (inr n) (inr none) = inr (no_front b bs n none)

decide_end : (word : Text) → End word
decide_end [] = inr no_front_empty
decide_end (b ∷ bs) = end_step b bs (two b bs (cases_eq b 58)) (decide_end bs)

-- a core of the word, where one `::` is dropped at its end
core_of : (word : Text) → End word → (core : Text) × DropsEnd word core
core_of word (inl p) = (p.0, inl p.1)
core_of word (inr none) = (word, inr (none, refl))

decide_argument : (word : Text) (c : (core : Text) × DropsEnd word core) → PathOrNone (IsWordPath c.0) → PathOrNone (IsArgumentPath word)
decide_argument word c (inl p) = inl (p.0, (c.0, c.1, p.1))
decide_argument word c (inr none) = inr (λ names p. none names (subst (λ t. IsWordPath t names) (drops_once word p.0 c.0 p.1 c.1) p.2))

-- a word of an invocation, and one of an argument
pub decide_word_path : (word : Text) → PathOrNone (IsWordPath word)
decide_word_path word = decide_word (suc (length word)) word (omega arith)

pub decide_argument_path : (word : Text) → PathOrNone (IsArgumentPath word)
decide_argument_path word =
    let c = core_of word (decide_end word) in
    decide_argument word c (decide_word_path c.0)

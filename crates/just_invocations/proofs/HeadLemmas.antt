-- Heads, and why there is none.
use Rattle.std.proofs.Common.{◌≡◌, ℕ, zero, suc, ◌≤◌, Bool, true, false, List, [], ◌∷◌, ◌++◌, Option, Some, None, length, take, drop, refl, sym, ap, ◌∙◌, subst, arith, eqb, IfSome}
use Rattle.std.proofs.Math.Dec.{eqb-suc-zero}
use Rattle.std.proofs.lemmas.List.{append-nil, take_all, drop_all}
use Rattle.std.specs.Bool.{MatchBool}
use Rattle.std.specs.Borrow.{Bor}
use Rattle.just_names.specs.Texts.{Text, texts}
use Rattle.just_recipe.specs.declared.dependency.Dependency.{Dependency}
use Rattle.just_recipe.specs.declared.recipe.Recipe.{Recipe}
use Rattle.just_tail.specs.Words.{Words}
use Rattle.just_justfile.specs.declared.justfile.Justfile.{Justfile}
use Rattle.just_justfile.specs.Closed.{HeldRecipes}
use Rattle.just_invocations.specs.Cause.{InvocationFault}
use Rattle.just_invocations.specs.Words.{has_colon, is_empty}
use Rattle.just_invocations.specs.Head.{TakesDefault, WordsLead, WordsMislead, IsHead, NoHead, PathLeads, NoPath}

-- the names end in a module, whose default is taken
pub leads_default : (root : Justfile) (recipes : HeldRecipes) (here : Justfile) (names : List (Bor Text)) (i : ℕ) (r : Recipe Dependency) → length names ≤ i → TakesDefault recipes here r →
    ((head rest : Words) (r : Recipe Dependency) → WordsLead root recipes here head rest r → WordsLead root recipes root (texts (take i names) ++ head) rest r) →
    WordsLead root recipes root (texts (take (length names) names)) (texts (drop (length names) names)) r
leads_default root recipes here names i r h p ok =
    let front : texts (take i names) ++ [] ≡ texts (take (length names) names) =
    append-nil _ ∙ ap texts (take_all i names h ∙ sym (take_all (length names) names (omega arith))) in
    let rest : [] ≡ texts (drop (length names) names) = ap texts (sym (drop_all (length names) names (omega arith))) in
    subst (λ ws. WordsLead root recipes root ws (texts (drop (length names) names)) r) front
    (subst (λ ws. WordsLead root recipes root (texts (take i names) ++ []) ws r) rest (ok [] [] r (refl, p)))

head_of_front : (root : Justfile) (recipes : HeldRecipes) (word : Bor Text) (others : List (Bor Text)) (k : ℕ) (r : Recipe Dependency) → has_colon word.now ≡ false →
    WordsLead root recipes root (texts (take k (word ∷ others))) (texts (drop k (word ∷ others))) r → IsHead root recipes (texts (take k (word ∷ others))) (texts (drop k (word ∷ others))) r
head_of_front root recipes word others zero r e p = p
head_of_front root recipes word others (suc k) r e p =
    subst (λ b. MatchBool b ((texts (take k others) ≡ []) × PathLeads root recipes (is_empty (texts (drop k others))) word.now r)
    (WordsLead root recipes root (texts (take (suc k) (word ∷ others))) (texts (drop (suc k) (word ∷ others))) r)) (sym e) p

-- names in turn are a head where the first has no colon
pub head_by_names : (root : Justfile) (recipes : HeldRecipes) (words : List (Bor Text)) (word : Bor Text) (others : List (Bor Text)) (k : ℕ) (r : Recipe Dependency) →
    words ≡ word ∷ others → has_colon word.now ≡ false →
    WordsLead root recipes root (texts (take k words)) (texts (drop k words)) r → IsHead root recipes (texts (take k words)) (texts (drop k words)) r
head_by_names root recipes words word others k r e f =
    subst (λ ws. WordsLead root recipes root (texts (take k ws)) (texts (drop k ws)) r → IsHead root recipes (texts (take k ws)) (texts (drop k ws)) r) (sym e) (head_of_front root recipes word others k r f)

empty_by_length : (others : List (Bor Text)) (last : Bool) → last ≡ eqb (length others) 0 → last ≡ is_empty (texts others)
empty_by_length [] last e = e
empty_by_length (x ∷ xs) last e = e ∙ eqb-suc-zero (length xs)

head_of_path : (root : Justfile) (recipes : HeldRecipes) (word : Bor Text) (others : List (Bor Text)) (last : Bool) (r : Recipe Dependency) → has_colon word.now ≡ true → last ≡ is_empty (texts others) →
    PathLeads root recipes last word.now r → IsHead root recipes (word.now ∷ []) (texts others) r
head_of_path root recipes word others last r f g p =
    subst (λ b. MatchBool b ((texts [] ≡ []) × PathLeads root recipes (is_empty (texts others)) word.now r) (WordsLead root recipes root (word.now ∷ []) (texts others) r)) (sym f)
    (refl, subst (λ b. PathLeads root recipes b word.now r) g p)

-- a word with a colon is a head where its path leads to a recipe
pub head_by_path : (root : Justfile) (recipes : HeldRecipes) (words : List (Bor Text)) (word : Bor Text) (others : List (Bor Text)) (last : Bool) (r : Recipe Dependency) →
    words ≡ word ∷ others → has_colon word.now ≡ true → last ≡ eqb (length others) 0 →
    PathLeads root recipes last word.now r → IsHead root recipes (texts (take 1 words)) (texts (drop 1 words)) r
head_by_path root recipes words word others last r e f g p =
    subst (λ ws. IsHead root recipes (texts (take 1 ws)) (texts (drop 1 ws)) r) (sym e) (head_of_path root recipes word others last r f (empty_by_length others last g) p)

-- a word with a colon is none where its path leads to no recipe
pub no_head_by_path : (root : Justfile) (recipes : HeldRecipes) (words : List (Bor Text)) (word : Bor Text) (others : List (Bor Text)) (last : Bool) (o : Option InvocationFault) →
    words ≡ word ∷ others → has_colon word.now ≡ true → last ≡ eqb (length others) 0 →
    IfSome o (NoPath root recipes last word.now) → IfSome o (NoHead root recipes (texts words))
no_head_by_path root recipes words word others last None e f g p = p
no_head_by_path root recipes words word others last (Some cause) e f g p =
    subst (λ ws. NoHead root recipes (texts ws) cause) (sym e)
    (subst (λ b. MatchBool b (NoPath root recipes (is_empty (texts others)) word.now cause) (WordsMislead root recipes root false [] (word.now ∷ texts others) cause)) (sym f)
    (subst (λ b. NoPath root recipes b word.now cause) (empty_by_length others last g) p))

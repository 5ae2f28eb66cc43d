-- Invocations, one after another.
use Rattle.std.proofs.Common.{◌≡◌, ◌≢◌, inl, inr, ℕ, zero, suc, ◌+◌, ◌<◌, ◌≤◌, List, [], ◌∷◌, ◌++◌, Option, Some, None, length, take, drop, map, refl, sym, ap, ◌∙◌, subst, arith, IfSome}
use Rattle.std.specs.Prelude.{option_map}
use Rattle.std.proofs.lemmas.List.{map-append, drop_all, take-append-drop}
use Rattle.std.specs.Borrow.{Bor}
use Rattle.just_names.specs.Texts.{Text, texts}
use Rattle.just_recipe.specs.declared.dependency.Dependency.{Dependency}
use Rattle.just_recipe.specs.declared.recipe.Recipe.{Recipe}
use Rattle.just_tail.specs.Cause as tail_cause
use Rattle.just_tail.specs.Words.{Words}
use Rattle.just_justfile.specs.declared.justfile.Justfile.{Justfile}
use Rattle.just_justfile.specs.Closed.{HeldRecipes, resolved_name}
use Rattle.just_invocations.specs.Cause.{InvocationFault, with_recipe}
use Rattle.just_invocations.specs.Head.{IsHead}
use Rattle.just_invocations.specs.Split.{Counts, RecipeTakesArguments, NoArguments, Invoked, invoked_of, Invokes, Chain, IsSplit, NoInvocation, HasWordsFault}
use Rattle.just_invocations.specs.declared.invocation.Invocation.{Invocation}

texts_cut : (n : ℕ) (words : List (Bor Text)) → texts words ≡ texts (take n words) ++ texts (drop n words)
texts_cut n words = ap texts (sym (take-append-drop n words)) ∙ map-append (λ w. w.now) (take n words) (drop n words)

pub drop_add : (t n : ℕ) (ws : List (Bor Text)) → drop (t + n) ws ≡ drop n (drop t ws)
drop_add zero n ws = let e : 0 + n ≡ n = omega arith in ap (λ k. drop k ws) e
drop_add (suc t) zero [] = let e : suc t + 0 ≡ suc t = omega arith in ap (λ k. drop k []) e
drop_add (suc t) (suc n) [] = let e : suc t + suc n ≡ suc (t + suc n) = omega arith in ap (λ k. drop k []) e
drop_add (suc t) n (x ∷ xs) = let e : suc t + n ≡ suc (t + n) = omega arith in ap (λ k. drop k (x ∷ xs)) e ∙ drop_add t n xs

pub some_left : (n : ℕ) (words : List (Bor Text)) → n < length words → texts (drop n words) ≢ []
some_left n [] h e = omega arith
some_left zero (w ∷ ws) h e = (cc)
some_left (suc n) (w ∷ ws) h e = some_left n ws (omega arith) e

-- a head of n words, and what stands after it
module _ (counts : Counts) (root : Justfile) (recipes : HeldRecipes) (words : List (Bor Text)) (n : ℕ) (r : Recipe Dependency) (rest : List (Bor Text))
    (rest_is : rest ≡ drop n words)
    (names : IsHead root recipes (texts (take n words)) (texts (drop n words)) r) where
  -- arguments of t words
  pub invokes_from : (t : ℕ) (groups : List Words) → RecipeTakesArguments counts r (texts (take t rest)) (texts (drop t rest)) groups →
      Invokes counts root recipes (texts words) (texts (drop (n + t) words)) (record { recipe = r; groups = groups })
  invokes_from t groups takes =
      let cut : texts (drop n words) ≡ texts (take t (drop n words)) ++ texts (drop t (drop n words)) = texts_cut t (drop n words) in
      subst (λ ws. Invokes counts root recipes (texts words) (texts ws) (record { recipe = r; groups = groups })) (sym (drop_add n t words))
      (record {
        head = texts (take n words);
        tail = texts (take t (drop n words));
        whole = texts_cut n words ∙ ap (λ ws. texts (take n words) ++ ws) cut;
        names = subst (λ ws. IsHead root recipes (texts (take n words)) ws r) cut names;
        takes = subst (λ ws. RecipeTakesArguments counts r (texts (take t ws)) (texts (drop t ws)) groups) rest_is takes;
      })

  -- no arguments
  pub rejects_from : (why : tail_cause.ArgumentFault) (cause : InvocationFault) → NoArguments counts r (texts rest) why → cause ≡ with_recipe (resolved_name r) why → NoInvocation counts root recipes (texts words) cause
  rejects_from why cause stops says =
      inr (record {
        recipe = r;
        head = texts (take n words);
        rest = texts (drop n words);
        why = why;
        whole = texts_cut n words;
        names = names;
        stops = subst (λ ws. NoArguments counts r (texts ws) why) rest_is stops;
        says = says;
      })

-- what comes out of a map was made of what went in
pub map_some : {A B : Type 0} (f : A → B) (o : Option A) (y : B) → option_map f o ≡ Some y → (x : A) × (o ≡ Some x) × (y ≡ f x)
map_some f None y e = absurd (let g : ⊥ = (cc) in g)
map_some f (Some x) y e = (x, refl, (let g : f x ≡ y = (cc) in sym g))

pub if_some_at : {A : Type 0} (o : Option A) (x : A) (P : A → Type 0) → IfSome o P → o ≡ Some x → P x
if_some_at None x P p e = absurd (let f : ⊥ = (cc) in f)
if_some_at (Some y) x P p e = let f : y ≡ x = (cc) in subst P f p

-- invocations, and one more
chain_push : (counts : Counts) (root : Justfile) (recipes : HeldRecipes) (words mid rest : Words) (is : List Invoked) (i : Invoked) →
    Chain counts root recipes words is mid → Chain counts root recipes mid (i ∷ []) rest → Chain counts root recipes words (is ++ i ∷ []) rest
chain_push counts root recipes words mid rest [] i p q = subst (λ ws. Chain counts root recipes ws (i ∷ []) rest) (sym p) q
chain_push counts root recipes words mid rest (j ∷ js) i p q = (p.0, p.1, p.2, chain_push counts root recipes p.1 mid rest js i p.3 q)

-- one more that is read
pub chain_more : (counts : Counts) (root : Justfile) (recipes : HeldRecipes) (words : List (Bor Text)) (n t : ℕ) (old new : List Invocation) (i : Invocation) (left : List (Bor Text)) → n < length words → left ≡ drop n words →
    new ≡ old ++ i ∷ [] → Invokes counts root recipes (texts left) (texts (drop t left)) (invoked_of i) →
    Chain counts root recipes (texts words) (map invoked_of old) (texts (drop n words)) → Chain counts root recipes (texts words) (map invoked_of new) (texts (drop (n + t) words))
chain_more counts root recipes words n t old new i left h same pushed invokes chain =
    let here : Invokes counts root recipes (texts (drop n words)) (texts (drop (n + t) words)) (invoked_of i) =
    subst (λ ws. Invokes counts root recipes (texts (drop n words)) (texts ws) (invoked_of i)) (sym (drop_add n t words))
    (subst (λ ws. Invokes counts root recipes (texts ws) (texts (drop t ws)) (invoked_of i)) same invokes) in
    let more : map invoked_of new ≡ map invoked_of old ++ invoked_of i ∷ [] = ap (map invoked_of) pushed ∙ map-append invoked_of old (i ∷ []) in
    subst (λ is. Chain counts root recipes (texts words) is (texts (drop (n + t) words))) (sym more)
    (chain_push counts root recipes (texts words) (texts (drop n words)) (texts (drop (n + t) words)) (map invoked_of old) (invoked_of i) chain
    (some_left n words h, texts (drop (n + t) words), here, refl))

-- none begins after those that were read
pub fault_after : (counts : Counts) (root : Justfile) (recipes : HeldRecipes) (words : List (Bor Text)) (n : ℕ) (is : List Invoked) (left : List (Bor Text)) (cause : InvocationFault) → n < length words → left ≡ drop n words →
    Chain counts root recipes (texts words) is (texts (drop n words)) → NoInvocation counts root recipes (texts left) cause → HasWordsFault counts root recipes (texts words) cause
fault_after counts root recipes words n is left cause h same chain stops =
    (is, texts (drop n words), chain, inl (some_left n words h), subst (λ ws. NoInvocation counts root recipes (texts ws) cause) same stops)

-- all words are read
pub chain_all : (counts : Counts) (root : Justfile) (recipes : HeldRecipes) (words : List (Bor Text)) (n : ℕ) (is : List Invoked) → length words ≤ n →
    Chain counts root recipes (texts words) is (texts (drop n words)) → Chain counts root recipes (texts words) is []
chain_all counts root recipes words n is h chain = subst (λ ws. Chain counts root recipes (texts words) is ws) (ap texts (drop_all n words h)) chain

-- no words
pub split_of_none : (counts : Counts) (root : Justfile) (recipes : HeldRecipes) (words : List (Bor Text)) (k : ℕ) (is : List Invoked) (i : Invoked) → words ≡ [] → is ≡ i ∷ [] →
    Invokes counts root recipes (texts words) (texts (drop k words)) i → IsSplit counts root recipes (texts words) is
split_of_none counts root recipes [] zero is i e f p = (i, f, p)
split_of_none counts root recipes [] (suc k) is i e f p = (i, f, p)
split_of_none counts root recipes (w ∷ ws) k is i e f p = absurd (let g : ⊥ = (cc) in g)

pub fault_of_none : (counts : Counts) (root : Justfile) (recipes : HeldRecipes) (words : List (Bor Text)) (cause : InvocationFault) → words ≡ [] → NoInvocation counts root recipes (texts words) cause → HasWordsFault counts root recipes (texts words) cause
fault_of_none counts root recipes words cause e p = ([], texts words, refl, inr (ap texts e), p)

-- words are at least one invocation
pub split_some : (counts : Counts) (root : Justfile) (recipes : HeldRecipes) (words : Words) (is : List Invoked) → IsSplit counts root recipes words is → 0 < length is
split_some counts root recipes [] is split = omega (arith, ap length split.1)
split_some counts root recipes (w ∷ ws) [] split = absurd (let e : w ∷ ws ≡ [] = split in let f : ⊥ = (cc) in f)
split_some counts root recipes (w ∷ ws) (i ∷ is) split = omega arith

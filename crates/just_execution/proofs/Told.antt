-- Interactions that count beside those that do not, under fixed answers.
use Rattle.std.proofs.Common.{◌≡◌, ◌⊎◌, ℕ, List, [], ◌∷◌, ◌++◌, Option, refl, sym, ◌∙◌, ap, subst, inl, inr, append_assoc, Ok, Err}
use Rattle.std.specs.Prelude.{Result}
use Rattle.std.proofs.lemmas.List.{append-nil}
use Rattle.just_errors.specs.declared.halt.Halt.{Halt}
use Rattle.just_errors.specs.declared.halt.Halt.TheVariants.{Memory, Exhausted}
use Rattle.just_run_layers.specs.Host.{Answer}
use Rattle.just_run_layers.specs.Interactions.{Log, Question, Interaction, Return, Fail, Ask, and_then, CanReturn, HasTrace, trace_under, result_under, ArePromised, logged_all, IsTraceOrPrefix}
use Rattle.just_run_layers.proofs.InteractionLemmas.{then-assoc, took-steady}
use Rattle.just_errors.specs.Halts.{discard_value}
use Rattle.just_execution.specs.Run.{in_turn}

-- two values of a relation, or one halt
abbrev pub Ends : {A B : Type 0} → (A → B → Type 0) → Result A Halt → Result B Halt → Type 0
Ends R (Ok x) (Ok y) = R x y
Ends R (Ok x) (Err e) = ⊥
Ends R (Err e) (Ok y) = ⊥
Ends R (Err e) (Err d) = e ≡ d

-- the same questions and ends that agree; or a number ran out after a beginning of the questions
abbrev pub IsWithin : {A B : Type 0} → (A → B → Type 0) → List Question → Result A Halt → List Question → Result B Halt → Type 0
IsWithin R p a q b = ((p ≡ q) × Ends R a b) ⊎ ((a ≡ Err Exhausted) × (rest : List Question) × (q ≡ p ++ rest))

moved : {A B : Type 0} (R : A → B → Type 0) (p u q v : List Question) (a c : Result A Halt) (b d : Result B Halt) → p ≡ u → a ≡ c → q ≡ v → b ≡ d → IsWithin R p a q b → IsWithin R u c v d
moved R p u q v a c b d i j k l h = subst (λ x. IsWithin R u c v x) l (subst (λ x. IsWithin R u c x b) k (subst (λ x. IsWithin R u x q b) j (subst (λ x. IsWithin R x a q b) i h)))

-- the same questions before both
before : {A B : Type 0} (R : A → B → Type 0) (qs p q : List Question) (a : Result A Halt) (b : Result B Halt) → IsWithin R p a q b → IsWithin R (qs ++ p) a (qs ++ q) b
before R qs p q a b (inl (e, h)) = inl (ap (λ t. qs ++ t) e, h)
before R qs p q a b (inr (e, rest, h)) = inr (e, rest, ap (λ t. qs ++ t) h ∙ sym (append_assoc qs p rest))

ends-itself : {A : Type 0} (r : Result A Halt) → Ends (λ (x y : A). x ≡ y) r r
ends-itself (Ok x) = refl
ends-itself (Err e) = refl

module _ (f : Question → Answer) where
  -- the counted steps ask the same and end in the same way, or a counter ended them after a beginning
  abbrev pub Within : {A B : Type 0} → (A → B → Type 0) → Interaction A → Interaction B → Type 0
  Within R s u = IsWithin R (trace_under f s) (result_under f s) (trace_under f u) (result_under f u)

  -- what steps come to under these answers they can come to
  pub outcome-gives : {A : Type 0} (s : Interaction A) (x : A) → result_under f s ≡ Ok x → CanReturn s x
  outcome-gives (Return y) x e = cc
  outcome-gives (Fail d) x e = absurd (cc)
  outcome-gives (Ask q g) x e = (f q, outcome-gives (g (f q)) x e)

  abbrev rest_path : {A B : Type 0} → Result A Halt → (A → Interaction B) → List Question
  rest_path (Ok x) k = trace_under f (k x)
  rest_path (Err e) k = []

  abbrev rest_outcome : {A B : Type 0} → Result A Halt → (A → Interaction B) → Result B Halt
  rest_outcome (Ok x) k = result_under f (k x)
  rest_outcome (Err e) k = Err e

  path-then : {A B : Type 0} (s : Interaction A) (k : A → Interaction B) → trace_under f (and_then s k) ≡ trace_under f s ++ rest_path (result_under f s) k
  path-then (Return x) k = refl
  path-then (Fail e) k = refl
  path-then (Ask q g) k = ap (λ t. q ∷ t) (path-then (g (f q)) k)

  outcome-then : {A B : Type 0} (s : Interaction A) (k : A → Interaction B) → result_under f (and_then s k) ≡ rest_outcome (result_under f s) k
  outcome-then (Return x) k = refl
  outcome-then (Fail e) k = refl
  outcome-then (Ask q g) k = outcome-then (g (f q)) k

  pub within-itself : {A : Type 0} (s : Interaction A) → Within (λ (x y : A). x ≡ y) s s
  within-itself s = inl (refl, ends-itself (result_under f s))

  rest-within : {A B C D : Type 0} (R : A → B → Type 0) (S : C → D → Type 0) (r : Result A Halt) (o : Result B Halt) (k : A → Interaction C) (l : B → Interaction D) →
      Ends R r o → ((x : A) (y : B) → r ≡ Ok x → o ≡ Ok y → R x y → Within S (k x) (l y)) → IsWithin S (rest_path r k) (rest_outcome r k) (rest_path o l) (rest_outcome o l)
  rest-within R S (Ok x) (Ok y) k l e h = h x y refl refl e
  rest-within R S (Ok x) (Err d) k l e h = absurd e
  rest-within R S (Err d) (Ok y) k l e h = absurd e
  rest-within R S (Err d) (Err c) k l e h = inl (refl, e)

  -- steps, and after their success others, on both sides
  pub within-then : {A B C D : Type 0} (R : A → B → Type 0) (S : C → D → Type 0) (s : Interaction A) (u : Interaction B) (k : A → Interaction C) (l : B → Interaction D) →
      Within R s u → ((x : A) (y : B) → result_under f s ≡ Ok x → result_under f u ≡ Ok y → R x y → Within S (k x) (l y)) → Within S (and_then s k) (and_then u l)
  within-then R S s u k l (inl (e, ends)) h =
      let both =
      before S (trace_under f s) (rest_path (result_under f s) k) (rest_path (result_under f u) l) (rest_outcome (result_under f s) k) (rest_outcome (result_under f u) l) (rest-within R S (result_under f s) (result_under f u) k l ends h) in
      moved S (trace_under f s ++ rest_path (result_under f s) k) (trace_under f (and_then s k)) (trace_under f s ++ rest_path (result_under f u) l) (trace_under f (and_then u l))
      (rest_outcome (result_under f s) k) (result_under f (and_then s k)) (rest_outcome (result_under f u) l) (result_under f (and_then u l))
      (sym (path-then s k)) (sym (outcome-then s k)) (ap (λ t. t ++ rest_path (result_under f u) l) e ∙ sym (path-then u l)) (sym (outcome-then u l)) both
  within-then R S s u k l (inr (e, rest, begun)) h =
      let more : List Question = rest_path (result_under f u) l in
      let short : trace_under f (and_then s k) ≡ trace_under f s = path-then s k ∙ ap (λ o. trace_under f s ++ rest_path o k) e ∙ append-nil (trace_under f s) in
      inr (
        outcome-then s k ∙ ap (λ o. rest_outcome o k) e,
        rest ++ more,
        path-then u l ∙ ap (λ t. t ++ more) begun ∙ append_assoc (trace_under f s) rest more ∙ ap (λ t. t ++ (rest ++ more)) (sym short),
      )

-- steps in turn, cut in two
pub in_turn-append : (xs ys : List (Interaction (Unit {0}))) → in_turn (xs ++ ys) ≡ and_then (in_turn xs) (λ _. in_turn ys)
in_turn-append [] ys = refl
in_turn-append (x ∷ xs) ys = ap (λ s. and_then x (λ _. s)) (in_turn-append xs ys) ∙ sym (then-assoc x (λ _. in_turn xs) (λ _. in_turn ys))

ends-without : {A : Type 0} (r : Result A Halt) (o : Result (Unit {0}) Halt) → Ends (λ x y. Unit {0}) r o → discard_value r ≡ o
ends-without (Ok x) (Ok y) h = refl
ends-without (Ok x) (Err e) h = absurd h
ends-without (Err e) (Ok y) h = absurd h
ends-without (Err e) (Err d) h = ap (λ x. Err x) h

steady-left : (p : Question → Option Answer) (f : Question → Answer) (xs ys : List Question) → ArePromised p f (xs ++ ys) → ArePromised p f xs
steady-left p f [] ys h = tt
steady-left p f (x ∷ xs) ys h = (h.0, steady-left p f xs ys h.1)

halted : {A : Type 0} (r : Result A Halt) → (r ≡ Err Memory) ⊎ (r ≡ Err Exhausted) → (discard_value r ≡ Err Memory) ⊎ (discard_value r ≡ Err Exhausted)
halted r (inl h) = inl (ap discard_value h)
halted r (inr h) = inr (ap discard_value h)

-- what was taken of the counted steps follows the others
pub took-run : (p : Question → Option Answer) (f : Question → Answer) (s : Interaction (List ℕ)) (u : Interaction (Unit {0})) (old new : Log) (r : Result (List ℕ) Halt) →
    Within f (λ x y. Unit {0}) s u → ArePromised p f (trace_under f u) → HasTrace p s old new r → IsTraceOrPrefix (trace_under f u) (result_under f u) old new (discard_value r)
took-run p f s u old new r (inl (same, ends)) steady t =
    let end : discard_value (result_under f s) ≡ result_under f u = ends-without (result_under f s) (result_under f u) ends in
    elim (took-steady p f s old new r (subst (ArePromised p f) (sym same) steady) t) [
      | inl (n, e) ↦ inl (n ∙ ap (λ qs. logged_all qs old) same, ap discard_value e ∙ end)
      | inr (h, (xs, ys, e, n)) ↦ inr (halted r h, (xs, ys, sym same ∙ e, n))
    ]
took-run p f s u old new r (inr (out, rest, begun)) steady t =
    elim (took-steady p f s old new r (steady-left p f (trace_under f s) rest (subst (ArePromised p f) begun steady)) t) [
      | inl (n, e) ↦ inr (inr (ap discard_value (e ∙ out)), (trace_under f s, rest, begun, n))
      | inr (h, (xs, ys, e, n)) ↦ inr (halted r h, (xs, ys ++ rest, begun ∙ ap (λ qs. qs ++ rest) e ∙ append_assoc xs ys rest, n))
    ]

-- Interactions that execute nothing.
use Rattle.std.proofs.Common.{◌≡◌, List, [], ◌∷◌, ◌++◌, Option, Result, Err, sym, ◌∙◌, ap, inl, inr}
use Rattle.std.proofs.lemmas.Grind.{flat_map-append}
use Rattle.std.proofs.lemmas.List.{append-nil}
use Rattle.just_errors.specs.declared.halt.Halt.{Halt}
use Rattle.just_errors.specs.declared.halt.Halt.TheVariants.{Memory, Exhausted}
use Rattle.just_run_layers.specs.declared.host.Entry.{Entry}
use Rattle.just_run_layers.specs.Host.{Answer, Executed, executed, executed_by}
use Rattle.just_run_layers.specs.Interactions.{Log, executed_in, Question, ToHost, ToEvaluator, Interaction, Return, Fail, Ask, and_then, HasTrace, logged}
use Rattle.just_run_layers.proofs.Halts.{ok-not, err-is, memory-not}

-- what was executed is what the entries say, one after another
pub executed-append : (xs ys : List Entry) → executed (xs ++ ys) ≡ executed xs ++ executed ys
executed-append xs ys = flat_map-append executed_by xs ys

-- what a question executes
abbrev pub executed_of : Question → List Executed
executed_of (ToHost entry) = executed (entry ∷ [])
executed_of (ToEvaluator inquiry) = []

pub executed-after : (q : Question) (old : Log) → executed_in (logged q old) ≡ executed_in old ++ executed_of q
executed-after (ToHost entry) old = executed-append old.entries (entry ∷ [])
executed-after (ToEvaluator inquiry) old = sym (append-nil (executed_in old))

-- none of their questions executes a recipe, and they run out of no counter
abbrev pub Quiet : {A : Type 0} → Interaction A → Type 0
Quiet (Return x) = Unit {0}
Quiet (Fail e) = e ≡ Exhausted → ⊥
Quiet (Ask q k) = (executed_of q ≡ []) × ((a : Answer) → Quiet (k a))

pub quiet-then : {A B : Type 0} (s : Interaction A) (k : A → Interaction B) → Quiet s → ((x : A) → Quiet (k x)) → Quiet (and_then s k)
quiet-then (Return x) k h l = l x
quiet-then (Fail e) k h l = h
quiet-then (Ask q g) k h l = (h.0, λ a. quiet-then (g a) k (h.1 a) l)

pub took-quiet : {A : Type 0} (p : Question → Option Answer) (s : Interaction A) (old new : Log) (r : Result A Halt) → Quiet s → HasTrace p s old new r →
    (executed_in new ≡ executed_in old) × (r ≡ Err Exhausted → ⊥)
took-quiet p (Return x) old new r h (n, inl e) = (ap executed_in n, λ k. ok-not r x Exhausted e k)
took-quiet p (Return x) old new r h (n, inr e) = (ap executed_in n, λ k. memory-not (err-is r Memory Exhausted e k))
took-quiet p (Fail d) old new r h (n, inl e) = (ap executed_in n, λ k. h (err-is r d Exhausted e k))
took-quiet p (Fail d) old new r h (n, inr e) = (ap executed_in n, λ k. memory-not (err-is r Memory Exhausted e k))
took-quiet p (Ask q g) old new r h (inl (n, e)) = (ap executed_in n, λ k. memory-not (err-is r Memory Exhausted e k))
took-quiet p (Ask q g) old new r h (inr t) =
    let rest = took-quiet p (g t.0) (logged q old) new r (h.1 t.0) t.2 in
    (rest.0 ∙ executed-after q old ∙ ap (λ es. executed_in old ++ es) h.0 ∙ append-nil (executed_in old), rest.1)

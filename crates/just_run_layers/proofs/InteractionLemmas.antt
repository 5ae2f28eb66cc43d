-- Interactions one after another, and their traces.
use Rattle.std.proofs.Common.{◌≡◌, ◌⊎◌, List, [], ◌∷◌, Option, Some, refl, sym, ◌++◌, ◌∙◌, ap, subst, inl, inr, append_assoc, Ok, Err}
use Rattle.std.specs.Prelude.{Result, IsErrAnd}
use Rattle.std.proofs.lemmas.List.{append-nil}
use Rattle.just_errors.specs.declared.halt.Halt.{Halt}
use Rattle.just_errors.specs.declared.halt.Halt.TheVariants.{Memory}
use Rattle.just_run_layers.specs.declared.host.Entry.{Entry}
use Rattle.just_run_layers.specs.Evaluation.{Inquiry, ScopeRequest, requests_of, requested}
use Rattle.just_run_layers.specs.Host.{Answer, Answers, KeepsPromises, kept_call}
use Rattle.just_run_layers.specs.Interactions.{Question, ToHost, ToEvaluator, both, Interaction, Return, Fail, Ask, and_then, CanReturn, Log, log_of, logged, logged_all, HasTrace, trace_under, result_under, ArePromised, calls, requests_in, IsTraceOrPrefix}

-- promises
pub keeps-then : {Q : Type 0} (a b c : Q → Option Answer) → KeepsPromises a b → KeepsPromises b c → KeepsPromises a c
keeps-then a b c k l = λ q x h. l q x (k q x h)

pub keeps-self : {Q : Type 0} (a : Q → Option Answer) → KeepsPromises a a
keeps-self a = λ q x h. h

pub keeps-both : (e d : Inquiry → Option Answer) (h g : Entry → Option Answer) → KeepsPromises e d → KeepsPromises h g → KeepsPromises (both e h) (both d g)
keeps-both e d h g k l (ToEvaluator q) a p = k q a p
keeps-both e d h g k l (ToHost q) a p = l q a p

-- steps are the same however they are grouped
pub then-assoc : {A B C : Type 0} (s : Interaction A) (k : A → Interaction B) (l : B → Interaction C) → and_then (and_then s k) l ≡ and_then s (λ x. and_then (k x) l)
then-assoc (Return x) k l = refl
then-assoc (Fail e) k l = refl
then-assoc (Ask q g) k l = λ i. Ask q (λ a. then-assoc (g a) k l i)

pub then-give : {A : Type 0} (s : Interaction A) → and_then s (λ x. Return x) ≡ s
then-give (Return x) = refl
then-give (Fail e) = refl
then-give (Ask q g) = λ i. Ask q (λ a. then-give (g a) i)

-- where what follows is the same for each value that they can come to
pub then-each : {A B : Type 0} (s : Interaction A) (k l : A → Interaction B) → ((x : A) → CanReturn s x → k x ≡ l x) → and_then s k ≡ and_then s l
then-each (Return x) k l h = h x refl
then-each (Fail e) k l h = refl
then-each (Ask q g) k l h = λ i. Ask q (λ a. then-each (g a) k l (λ x t. h x (a, t)) i)

-- where it is the same for every value
pub then-same : {A B : Type 0} (s : Interaction A) (k l : A → Interaction B) → ((x : A) → k x ≡ l x) → and_then s k ≡ and_then s l
then-same s k l h = then-each s k l (λ x t. h x)

-- what was taken under more promises was taken under fewer
pub took-kept : {A : Type 0} (p q : Question → Option Answer) → KeepsPromises p q → (s : Interaction A) (old new : Log) (r : Result A Halt) → HasTrace q s old new r → HasTrace p s old new r
took-kept p q k (Return x) old new r t = t
took-kept p q k (Fail e) old new r t = t
took-kept p q k (Ask x g) old new r (inl t) = inl t
took-kept p q k (Ask x g) old new r (inr t) = inr (t.0, (λ b h. t.1 b (k x b h)), took-kept p q k (g t.0) (logged x old) new r t.2)

-- out of memory before anything else
pub took-out : {A : Type 0} (p : Question → Option Answer) (s : Interaction A) (old new : Log) → new ≡ old → HasTrace p s old new (Err Memory)
took-out p (Return x) old new n = (n, inr refl)
took-out p (Fail f) old new n = (n, inr refl)
took-out p (Ask x g) old new n = inl (n, refl)

-- an end of the first
pub took-stop : {A B : Type 0} (p : Question → Option Answer) (s : Interaction A) (next : A → Interaction B) (old new : Log) (e : Halt) → HasTrace p s old new (Err e) → HasTrace p (and_then s next) old new (Err e)
took-stop p (Return x) next old new e (n, inl h) = absurd (cc)
took-stop {A} {B} p (Return x) next old new e (n, inr h) = let k : e ≡ Memory = cc in subst (λ d. HasTrace p (next x) old new (Err d)) (sym k) (took-out p (next x) old new n)
took-stop {A} {B} p (Fail f) next old new e (n, inl h) = let k : e ≡ f = cc in (n, inl (ap (λ x. Err x) k))
took-stop {A} {B} p (Fail f) next old new e (n, inr h) = let k : e ≡ Memory = cc in (n, inr (ap (λ x. Err x) k))
took-stop {A} {B} p (Ask x g) next old new e (inl (n, h)) = let k : e ≡ Memory = cc in inl (n, ap (λ x. Err x) k)
took-stop p (Ask x g) next old new e (inr t) = inr (t.0, t.1, took-stop p (g t.0) next (logged x old) new e t.2)

-- a success of the first, and then the others
pub took-then : {A B : Type 0} (p q : Question → Option Answer) → KeepsPromises p q → (s : Interaction A) (next : A → Interaction B) (old mid new : Log) (x : A) (r : Result B Halt) → HasTrace p s old mid (Ok x) → HasTrace q (next x) mid new r → HasTrace p (and_then s next) old new r
took-then {A} {B} p q k (Return y) next old mid new x r (n, inl h) t =
    let e : x ≡ y = cc in
    subst (λ z. HasTrace p (next z) old new r) e (subst (λ o. HasTrace p (next x) o new r) n (took-kept p q k (next x) mid new r t))
took-then p q k (Return y) next old mid new x r (n, inr h) t = absurd (cc)
took-then p q k (Fail f) next old mid new x r (n, inl h) t = absurd (cc)
took-then p q k (Fail f) next old mid new x r (n, inr h) t = absurd (cc)
took-then p q k (Ask y g) next old mid new x r (inl (n, h)) t = absurd (cc)
took-then p q k (Ask y g) next old mid new x r (inr s) t = inr (s.0, s.1, took-then p q k (g s.0) next (logged y old) mid new x r s.2 t)

-- what was taken of steps and others after them, cut between
abbrev pub Cut : {A B : Type 0} → (Question → Option Answer) → Interaction A → (A → Interaction B) → Log → Log → Result B Halt → Type 0
Cut {A} {B} p s next old new r =
    ((x : A) × (mid : Log) × CanReturn s x × HasTrace p s old mid (Ok x) × HasTrace p (next x) mid new r) ⊎ ((e : Halt) × (r ≡ Err e) × HasTrace p s old new (Err e))

pub took-split : {A B : Type 0} (p : Question → Option Answer) (s : Interaction A) (next : A → Interaction B) (old new : Log) (r : Result B Halt) → HasTrace p (and_then s next) old new r → Cut p s next old new r
took-split p (Return x) next old new r t = inl (x, old, refl, (refl, inl refl), t)
took-split p (Fail e) next old new r (n, inl h) = inr (e, h, (n, inl refl))
took-split p (Fail e) next old new r (n, inr h) = inr (Memory, h, (n, inr refl))
took-split p (Ask q g) next old new r (inl (n, h)) = inr (Memory, h, inl (n, refl))
took-split {A} {B} p (Ask q g) next old new r (inr (a, l, t)) = elim (took-split p (g a) next (logged q old) new r t) [
  | inl (x, mid, gives, first, rest) ↦ inl (x, mid, (a, gives), inr (a, l, first), rest)
  | inr (e, h, first) ↦ inr (e, h, inr (a, l, first))
]

-- no questions, and one before others
pub after-none : (old : Log) → logged_all [] old ≡ old
after-none old = λ i. log_of (append-nil old.entries i) (append-nil old.requests i)

pub after-one : (q : Question) (qs : List Question) (old : Log) → logged_all qs (logged q old) ≡ logged_all (q ∷ qs) old
after-one (ToHost x) qs old = λ i. log_of (append_assoc old.entries (x ∷ []) (calls qs) i) (old.requests ++ requests_in qs)
after-one (ToEvaluator x) qs old = λ i. log_of (old.entries ++ calls qs) (append_assoc old.requests (requests_of x) (requests_in qs) i)

-- steps under fixed answers
pub follows-asked : {A : Type 0} (q : Question) (qs : List Question) (end : Result A Halt) (old new : Log) (r : Result A Halt) → IsTraceOrPrefix qs end (logged q old) new r → IsTraceOrPrefix (q ∷ qs) end old new r
follows-asked q qs end old new r (inl (n, h)) = inl (n ∙ after-one q qs old, h)
follows-asked q qs end old new r (inr (h, (xs, ys, e, n))) = inr (h, (q ∷ xs, ys, ap (λ t. q ∷ t) e, n ∙ after-one q xs old))

pub took-steady : {A : Type 0} (p : Question → Option Answer) (f : Question → Answer) (s : Interaction A) (old new : Log) (r : Result A Halt) → ArePromised p f (trace_under f s) → HasTrace p s old new r → IsTraceOrPrefix (trace_under f s) (result_under f s) old new r
took-steady p f (Return x) old new r h (n, inl e) = inl (n ∙ sym (after-none old), e)
took-steady p f (Return x) old new r h (n, inr e) = inr (inl e, ([], [], refl, n ∙ sym (after-none old)))
took-steady p f (Fail x) old new r h (n, inl e) = inl (n ∙ sym (after-none old), e)
took-steady p f (Fail x) old new r h (n, inr e) = inr (inl e, ([], [], refl, n ∙ sym (after-none old)))
took-steady p f (Ask q g) old new r h (inl (n, e)) = inr (inl e, ([], trace_under f (Ask q g), refl, n ∙ sym (after-none old)))
took-steady p f (Ask q g) old new r h (inr t) =
    let same : f q ≡ t.0 = t.1 (f q) h.0 in
    follows-asked q (trace_under f (g (f q))) (result_under f (g (f q))) old new r
    (took-steady p f (g (f q)) (logged q old) new r h.1 (subst (λ a. HasTrace p (g a) (logged q old) new r) (sym same) t.2))

-- what was taken to a value can come to it
pub took-gives : {A : Type 0} (p : Question → Option Answer) (s : Interaction A) (old new : Log) (x : A) → HasTrace p s old new (Ok x) → CanReturn s x
took-gives {A} p (Return y) old new x (n, inl h) = let e : y ≡ x = cc in e
took-gives p (Return y) old new x (n, inr h) = absurd (cc)
took-gives p (Fail e) old new x (n, inl h) = absurd (cc)
took-gives p (Fail e) old new x (n, inr h) = absurd (cc)
took-gives p (Ask q g) old new x (inl (n, h)) = absurd (cc)
took-gives p (Ask q g) old new x (inr (a, l, t)) = (a, took-gives p (g a) (logged q old) new x t)

-- an end that a caller hands on
pub exited : {A : Type 0} (r : Result A Halt) (e : Halt) → IsErrAnd r (λ y. y ≡ e) → r ≡ Err e
exited (Ok x) e h = absurd h
exited (Err y) e h = ap (λ z. Err z) h

-- one question: one to the evaluator that is not kept, one for variables, and one to the host
pub took-asked : {A : Type 0} (e : Inquiry → Option Answer) (h : Entry → Option Answer) (x : Inquiry) (g : Answer → Interaction A) (a : Answer) (entries : List Entry) (before later : List ScopeRequest) (new : Log) (r : Result A Halt) →
    requests_of x ≡ [] → Answers (e x) (Some a) → later ≡ before → HasTrace (both e h) (g a) (log_of entries later) new r → HasTrace (both e h) (Ask (ToEvaluator x) g) (log_of entries before) new r
took-asked e h x g a entries before later new r none l n t =
    inr (a, (λ b m. l b a m refl), subst (λ rs. HasTrace (both e h) (g a) (log_of entries rs) new r) (n ∙ sym (append-nil before) ∙ ap (λ qs. before ++ qs) (sym none)) t)

pub took-requested : {A : Type 0} (e : Inquiry → Option Answer) (h : Entry → Option Answer) (x : Inquiry) (g : Answer → Interaction A) (a : Answer) (entries : List Entry) (before later : List ScopeRequest) (new : Log) (r : Result A Halt) →
    Answers (e x) (Some a) → later ≡ before ++ requested x (Some a) → HasTrace (both e h) (g a) (log_of entries later) new r → HasTrace (both e h) (Ask (ToEvaluator x) g) (log_of entries before) new r
took-requested e h x g a entries before later new r l n t =
    inr (a, (λ b m. l b a m refl), subst (λ rs. HasTrace (both e h) (g a) (log_of entries rs) new r) n t)

pub took-called : {A : Type 0} (e : Inquiry → Option Answer) (h : Entry → Option Answer) (x : Entry) (g : Answer → Interaction A) (a : Answer) (requests : List ScopeRequest) (before later : List Entry) (new : Log) (r : Result A Halt) →
    Answers (h x) (Some a) → later ≡ before ++ kept_call x (Some a) → HasTrace (both e h) (g a) (log_of later requests) new r → HasTrace (both e h) (Ask (ToHost x) g) (log_of before requests) new r
took-called e h x g a requests before later new r l n t =
    inr (a, (λ b m. l b a m refl), subst (λ es. HasTrace (both e h) (g a) (log_of es requests) new r) n t)

-- a value that is given, and an end
pub took-give : {A : Type 0} (p : Question → Option Answer) (old : Log) (x : A) → HasTrace p (Return x) old old (Ok x)
took-give p old x = (refl, inl refl)

pub took-fail : {A : Type 0} (p : Question → Option Answer) (old : Log) (e : Halt) → HasTrace {A = A} p (Fail e) old old (Err e)
took-fail p old e = (refl, inl refl)

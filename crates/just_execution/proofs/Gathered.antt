-- An interaction for each of some things, one after another.
use Rattle.std.proofs.Common.{◌≡◌, ◌<◌, ◌≤◌, ℕ, ◌+◌, List, [], ◌∷◌, ◌++◌, drop, length, get_or, Option, Result, Ok, Err, refl, sym, ◌∙◌, ap, subst, inl, append_assoc}
use Rattle.std.proofs.lemmas.List.{append-nil, drop_more}
use Rattle.std.proofs.Math.ListN.{drop_of_length-le}
use Rattle.just_errors.specs.declared.halt.Halt.{Halt}
use Rattle.just_errors.specs.declared.halt.Halt.TheVariants.{Memory}
use Rattle.just_run_layers.specs.declared.host.Entry.{Entry}
use Rattle.just_run_layers.specs.Evaluation.{Inquiry, ScopeRequest}
use Rattle.just_run_layers.specs.Host.{Answer, KeepsPromises}
use Rattle.just_run_layers.specs.Interactions.{Log, log_of, Interaction, Return, Fail, Ask, and_then, CanReturn, HasTrace, both}
use Rattle.just_run_layers.proofs.InteractionLemmas.{keeps-both, keeps-self, then-assoc, then-give, then-same, took-out, took-stop, took-then}
use Rattle.just_execution.specs.Arguments.{gathered}
use Rattle.just_run_layers.specs.loops.Interactions.{AsksAlone}

-- what steps come to, by what the first of them comes to
pub gives-split : {A B : Type 0} (s : Interaction A) (k : A → Interaction B) (y : B) → CanReturn (and_then s k) y → (x : A) × CanReturn s x × CanReturn (k x) y
gives-split (Return x) k y g = (x, refl, g)
gives-split (Fail e) k y g = absurd g
gives-split (Ask q l) k y g = let r = gives-split (l g.0) k y g.1 in (r.0, (g.0, r.1), r.2)

-- a question of which the host is asked none, in two parts
pub alone-then : {A B : Type 0} (e d : Inquiry → Option Answer) → KeepsPromises e d → (s : Interaction A) (k : A → Interaction B) (before now later : List ScopeRequest) (x : A) (r : Result B Halt) →
    AsksAlone e s before now (Ok x) → AsksAlone d (k x) now later r → AsksAlone e (and_then s k) before later r
alone-then e d keeps s k before now later x r first rest = λ host entries.
    took-then (both e host) (both d host) (keeps-both e d host host keeps (keeps-self host)) s k (log_of entries before) (log_of entries now) (log_of entries later) x r (first host entries) (rest host entries)

pub alone-stop : {A B : Type 0} (e : Inquiry → Option Answer) (s : Interaction A) (k : A → Interaction B) (before later : List ScopeRequest) (f : Halt) →
    AsksAlone e s before later (Err f) → AsksAlone e (and_then s k) before later (Err f)
alone-stop e s k before later f first = λ host entries. took-stop (both e host) s k (log_of entries before) (log_of entries later) f (first host entries)

pub alone-out : {A : Type 0} (e : Inquiry → Option Answer) (s : Interaction A) (now : List ScopeRequest) → AsksAlone e s now now (Err Memory)
alone-out e s now = λ host entries. took-out (both e host) s (log_of entries now) (log_of entries now) refl

pub alone-give : {A : Type 0} (e : Inquiry → Option Answer) (x y : A) (now : List ScopeRequest) → y ≡ x → AsksAlone e (Return x) now now (Ok y)
alone-give e x y now is = λ host entries. (refl, inl (ap (λ z. Ok z) is))

pub alone-map : {A B : Type 0} (e : Inquiry → Option Answer) (s : Interaction A) (f : A → B) (before later : List ScopeRequest) (x : A) → AsksAlone e s before later (Ok x) → AsksAlone e (and_then s (λ x. Return (f x))) before later (Ok (f x))
alone-map e s f before later x asked = alone-then e e (keeps-self e) s (λ x. Return (f x)) before later later x (Ok (f x)) asked (alone-give e (f x) (f x) later refl)

-- what is still to be asked, after what came
abbrev pub gathered_from : {A B : Type 0} → (A → Interaction (List B)) → List B → List A → Interaction (List B)
gathered_from step done xs = and_then (gathered step xs) (λ more. Return (done ++ more))

gathered-more : {A B : Type 0} (step : A → Interaction (List B)) (done : List B) (x : A) (xs : List A) → gathered_from step done (x ∷ xs) ≡ and_then (step x) (λ ys. gathered_from step (done ++ ys) xs)
gathered-more step done x xs =
    then-assoc (step x) (λ ys. and_then (gathered step xs) (λ more. Return (ys ++ more))) (λ more. Return (done ++ more))
    ∙ then-same (step x) (λ ys. and_then (and_then (gathered step xs) (λ more. Return (ys ++ more))) (λ more. Return (done ++ more))) (λ ys. gathered_from step (done ++ ys) xs)
    (λ ys. then-assoc (gathered step xs) (λ more. Return (ys ++ more)) (λ more. Return (done ++ more))
    ∙ then-same (gathered step xs) (λ more. Return (done ++ (ys ++ more))) (λ more. Return ((done ++ ys) ++ more)) (λ more. ap (λ zs. Return zs) (sym (append_assoc done ys more))))

module _ {A B : Type 0} (step : A → Interaction (List B)) (xs : List A) (e : Inquiry → Option Answer) (before : List ScopeRequest) where
  -- where this came of the first, what is left leads to the whole
  abbrev pub Continues : (Inquiry → Option Answer) → List ScopeRequest → List B → ℕ → Type 0
  Continues d now done i =
      (host : Entry → Option Answer) (entries : List Entry) (new : Log) (r : Result (List B) Halt) → HasTrace (both d host) (gathered_from step done (drop i xs)) (log_of entries now) new r
      → HasTrace (both e host) (gathered step xs) (log_of entries before) new r

  pub gathered-start : Continues e before [] 0
  gathered-start = λ host entries new r t. subst (λ (s : Interaction (List B)). HasTrace (both e host) s (log_of entries before) new r) (then-give (gathered step xs)) t

  module _ (d : Inquiry → Option Answer) (now later : List ScopeRequest) (done : List B) (i : ℕ) (x : A) (within : i < length xs) (is : x ≡ get_or xs i x) (rest : Continues d now done i) where
    next-is : gathered_from step done (drop i xs) ≡ and_then (step x) (λ ys. gathered_from step (done ++ ys) (drop (i + 1) xs))
    next-is = ap (gathered_from step done) (drop_more xs i x within ∙ ap (λ z. z ∷ drop (i + 1) xs) (sym is)) ∙ gathered-more step done x (drop (i + 1) xs)

    pub gathered-next : (o : Inquiry → Option Answer) → KeepsPromises d o → (ys : List B) → AsksAlone d (step x) now later (Ok ys) → Continues o later (done ++ ys) (i + 1)
    gathered-next o keeps ys asked = λ host entries new r t.
        rest host entries new r (subst (λ (s : Interaction (List B)). HasTrace (both d host) s (log_of entries now) new r) (sym next-is)
        (took-then (both d host) (both o host) (keeps-both d o host host keeps (keeps-self host)) (step x) (λ ys. gathered_from step (done ++ ys) (drop (i + 1) xs)) (log_of entries now) (log_of entries later) new ys r (asked host entries) t))

    pub gathered-stop : (f : Halt) → AsksAlone d (step x) now later (Err f) → AsksAlone e (gathered step xs) before later (Err f)
    gathered-stop f asked = λ host entries.
        rest host entries (log_of entries later) (Err f) (subst (λ (s : Interaction (List B)). HasTrace (both d host) s (log_of entries now) (log_of entries later) (Err f)) (sym next-is)
        (took-stop (both d host) (step x) (λ ys. gathered_from step (done ++ ys) (drop (i + 1) xs)) (log_of entries now) (log_of entries later) f (asked host entries)))

    pub gathered-out : (o : Inquiry → Option Answer) → KeepsPromises d o → (ys : List B) → AsksAlone d (step x) now later (Ok ys) → AsksAlone e (gathered step xs) before later (Err Memory)
    gathered-out o keeps ys asked = λ host entries.
        gathered-next o keeps ys asked host entries (log_of entries later) (Err Memory) (took-out (both o host) (gathered_from step (done ++ ys) (drop (i + 1) xs)) (log_of entries later) (log_of entries later) refl)

  pub gathered-all : (d : Inquiry → Option Answer) (now : List ScopeRequest) (done : List B) (i : ℕ) → length xs ≤ i → Continues d now done i → AsksAlone e (gathered step xs) before now (Ok done)
  gathered-all d now done i past rest = λ host entries.
      rest host entries (log_of entries now) (Ok done) (subst (λ (ys : List A). HasTrace (both d host) (gathered_from step done ys) (log_of entries now) (log_of entries now) (Ok done)) (sym (drop_of_length-le xs past))
      (refl, inl (ap (λ zs. Ok zs) (sym (append-nil done)))))

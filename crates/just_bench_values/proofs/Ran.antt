-- What tasks come to, over outcomes.
use Rattle.std.proofs.Common.{◌≡◌, refl, sym, ◌∙◌, ap, append_assoc, Bool, true, false, List, [], ◌∷◌, ◌++◌, Option, None, Some}
use Rattle.std.specs.Option.{option_and_then, option_map}
use Rattle.std.proofs.lemmas.List.{append-nil}
use Rattle.just_names.specs.Texts.{Text}
use Rattle.just_bench_values.specs.Sink.{sent, set_apart, spaced, texts_of}
use Rattle.just_bench_values.specs.Values.{Outcome, one_after_another, put_together}
use Rattle.just_bench_values.specs.declared.sink.Sink.{Sink}
use Rattle.just_bench_values.specs.declared.sink.Sink.TheVariants as sink
use Rattle.just_bench_values.proofs.Sinks.{sent_several, sum_joined, texts_sent}

-- the values of several, where the first has this one
abbrev pub with_rest : Outcome → Option (List (List Text)) → Option (List (List Text))
with_rest first rest = option_and_then (λ x. option_map (λ xs. x ∷ xs) rest) first

module _ (next : Sink → Option Sink) (s : Sink) where
  -- a value that goes to the sink
  pub of_sent : (o : Outcome) (t : Sink) → option_map (sent s) o ≡ Some t → next t ≡ option_and_then (λ value. next (sent s value)) o
  of_sent None t is = absurd (cc is)
  of_sent (Some v) t is = (let same : sent s v ≡ t = cc is in ap next (sym same))

  -- both sides of a sum, which do this to the sink
  of_both : (last : List Text → List Text → Option Sink) → ((l r : List Text) → last l r ≡ next (sent s (put_together l r))) → (lhs rhs : Outcome) →
      option_and_then (λ l. option_and_then (λ r. last l r) rhs) lhs
      ≡ option_and_then (λ value. next (sent s value)) (option_and_then (λ left. option_map (put_together left) rhs) lhs)
  of_both last same None rhs = refl
  of_both last same (Some l) None = refl
  of_both last same (Some l) (Some r) = same l r

  -- the first element of a list and the others
  pub of_elements : (first : Outcome) (rest : Option (List (List Text))) →
      option_and_then (λ v. option_and_then (λ vs. next (sent (sent s v) (one_after_another vs))) rest) first
      ≡ option_and_then (λ vs. next (sent s (one_after_another vs))) (with_rest first rest)
  of_elements None rest = refl
  of_elements (Some v) None = refl
  of_elements (Some v) (Some vs) = ap next (sent_several s v vs)

  -- all elements of a list
  pub of_list : (values : Option (List (List Text))) →
      option_and_then (λ vs. next (sent s (one_after_another vs))) values ≡ option_and_then (λ value. next (sent s value)) (option_map one_after_another values)
  of_list None = refl
  of_list (Some vs) = refl

  module _ (called : List (List Text) → Outcome) where
    abbrev on : List (List Text) → Option (List (List Text)) → Outcome
    on values rest = option_and_then (λ more. called (values ++ more)) rest

    some_argument : (values : List (List Text)) (v : List Text) (rest : Option (List (List Text))) →
        on (values ++ texts_of (sent (sink.Texts []) v) ∷ []) rest ≡ on values (option_map (λ xs. v ∷ xs) rest)
    some_argument values v None = refl
    some_argument values v (Some vs) = ap called (ap (λ x. (values ++ x ∷ []) ++ vs) (texts_sent v) ∙ append_assoc values (v ∷ []) vs)

    -- the next argument of a call
    pub of_argument : (values : List (List Text)) (first : Outcome) (rest : Option (List (List Text))) →
        option_and_then (λ v. option_and_then (λ value. next (sent s value)) (on (values ++ texts_of (sent (sink.Texts []) v) ∷ []) rest)) first
        ≡ option_and_then (λ value. next (sent s value)) (on values (with_rest first rest))
    of_argument values None rest = refl
    of_argument values (Some v) rest = ap (option_and_then (λ value. next (sent s value))) (some_argument values v rest)

    -- a call that has all arguments
    pub of_call : (values : List (List Text)) → option_and_then (λ value. next (sent s value)) (called values) ≡ option_and_then (λ value. next (sent s value)) (on values (Some []))
    of_call values = ap (λ vs. option_and_then (λ value. next (sent s value)) (called vs)) (sym (append-nil values))

    -- a call begins
    pub of_begun : (values : Option (List (List Text))) →
        option_and_then (λ value. next (sent s value)) (on [] values) ≡ option_and_then (λ value. next (sent s value)) (option_and_then called values)
    of_begun None = refl
    of_begun (Some vs) = refl

-- a sum in a sink that keeps texts
pub of_sum_kept : (next : Sink → Option Sink) (texts : List Text) (lhs rhs : Outcome) →
    option_and_then (λ l. option_and_then (λ r. next (sent (sink.Texts texts) (texts_of (set_apart true (sent (set_apart false (sent (sink.Joined [] false) l)) r))))) rhs) lhs
    ≡ option_and_then (λ value. next (sent (sink.Texts texts) value)) (option_and_then (λ left. option_map (put_together left) rhs) lhs)
of_sum_kept next texts = of_both next (sink.Texts texts)
    (λ l r. next (sent (sink.Texts texts) (texts_of (set_apart true (sent (set_apart false (sent (sink.Joined [] false) l)) r)))))
    (λ l r. ap (λ s. next (sent (sink.Texts texts) (texts_of s))) (sum_joined [] l r))

-- a sum in a sink that puts texts together
pub of_sum_joined : (next : Sink → Option Sink) (written : Text) (apart : Bool) (lhs rhs : Outcome) →
    option_and_then (λ l. option_and_then (λ r. next (set_apart true (sent (set_apart false (sent (sink.Joined (spaced apart written) false) l)) r))) rhs) lhs
    ≡ option_and_then (λ value. next (sent (sink.Joined written apart) value)) (option_and_then (λ left. option_map (put_together left) rhs) lhs)
of_sum_joined next written apart = of_both next (sink.Joined written apart)
    (λ l r. next (set_apart true (sent (set_apart false (sent (sink.Joined (spaced apart written) false) l)) r)))
    (λ l r. ap next (sum_joined (spaced apart written) l r))

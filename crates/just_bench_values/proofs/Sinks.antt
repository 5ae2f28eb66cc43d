-- What sinks have after values.
use Rattle.std.proofs.Common.{◌≡◌, refl, sym, ◌∙◌, ap, append_assoc, Bool, true, false, List, [], ◌∷◌, ◌++◌}
use Rattle.std.specs.Prelude.{codes}
use Rattle.std.specs.List.{flat_map}
use Rattle.std.proofs.lemmas.List.{append-nil}
use Rattle.std.proofs.lemmas.List.Concat.{flat_map-cons}
use Rattle.just_names.specs.Texts.{Text}
use Rattle.just_bench_values.specs.Sink.{sent, sent_one, set_apart, texts_of}
use Rattle.just_bench_values.specs.Values.{one_after_another, one_text}
use Rattle.just_bench_values.specs.declared.sink.Sink.{Sink}
use Rattle.just_bench_values.specs.declared.sink.Sink.TheVariants as sink

-- one value after another
pub sent_append : (s : Sink) (v w : List Text) → sent (sent s v) w ≡ sent s (v ++ w)
sent_append s [] w = refl
sent_append s (text ∷ v) w = sent_append (sent_one s text) v w

-- several values, one after another
pub sent_several : (s : Sink) (v : List Text) (vs : List (List Text)) → sent (sent s v) (one_after_another vs) ≡ sent s (one_after_another (v ∷ vs))
sent_several s v vs = sent_append s v (one_after_another vs) ∙ ap (sent s) (sym (flat_map-cons (λ value. value) v vs))

-- texts that are kept
pub sent_texts : (texts v : List Text) → sent (sink.Texts texts) v ≡ sink.Texts (texts ++ v)
sent_texts texts [] = ap sink.Texts (sym (append-nil texts))
sent_texts texts (text ∷ v) = sent_texts (texts ++ text ∷ []) v ∙ ap sink.Texts (append_assoc texts (text ∷ []) v)

-- a value in a sink of its own
pub texts_sent : (v : List Text) → texts_of (sent (sink.Texts []) v) ≡ v
texts_sent v = ap texts_of (sent_texts [] v)

-- texts that are put together, after another of their value
sent_more : (written : Text) (v : List Text) → sent (sink.Joined written true) v ≡ sink.Joined (written ++ flat_map (λ d. codes " " ++ d) v) true
sent_more written [] = ap (λ w. sink.Joined w true) (sym (append-nil written))
sent_more written (text ∷ v) =
    sent_more ((written ++ codes " ") ++ text) v
    ∙ ap (λ w. sink.Joined w true) (append_assoc (written ++ codes " ") text (flat_map (λ d. codes " " ++ d) v)
    ∙ append_assoc written (codes " ") (text ++ flat_map (λ d. codes " " ++ d) v)
    ∙ ap (λ w. written ++ w) (sym (append_assoc (codes " ") text (flat_map (λ d. codes " " ++ d) v)) ∙ sym (flat_map-cons (λ d. codes " " ++ d) text v)))

-- a value that is put together
pub sent_joined : (apart : Bool) (written : Text) (v : List Text) → set_apart apart (sent (sink.Joined written false) v) ≡ sink.Joined (written ++ one_text v) apart
sent_joined apart written [] = ap (λ w. sink.Joined w apart) (sym (append-nil written))
sent_joined apart written (text ∷ v) =
    ap (set_apart apart) (sent_more (written ++ text) v) ∙ ap (λ w. sink.Joined w apart) (append_assoc written text (flat_map (λ d. codes " " ++ d) v))

-- both sides of a sum
pub sum_joined : (written : Text) (l r : List Text) →
    set_apart true (sent (set_apart false (sent (sink.Joined written false) l)) r) ≡ sink.Joined (written ++ (one_text l ++ one_text r)) true
sum_joined written l r =
    ap (λ s. set_apart true (sent s r)) (sent_joined false written l)
    ∙ sent_joined true (written ++ one_text l) r
    ∙ ap (λ w. sink.Joined w true) (append_assoc written (one_text l) (one_text r))

-- Calls of a recorder that are made in turn have the answers of its script in order.
use Rattle.std.proofs.Common.{◌≡◌, ◌++◌, ℕ, suc, Bool, true, false, List, [], ◌∷◌, length, map, Option, Some, None, Ok, codes, refl, sym, ◌∙◌, ap, append_assoc}
use Rattle.std.proofs.lemmas.Bool.{true≢false}
use Rattle.std.proofs.lemmas.List.{append-nil}
use Rattle.just_run_layers.specs.declared.host.Entry.{Entry}
use Rattle.just_run_layers.specs.declared.host.Entry.TheVariants as entry
use Rattle.just_run_layers.specs.Host.{Answer, Ran, given, paired}
use Rattle.just_bench.specs.declared.script.Script.{Script}
use Rattle.just_bench.specs.Queue.{first_or, left_in_queue, next_or}
use Rattle.just_bench.specs.Recorder.{IsCalled, Recording, after_answer, answer_of, is_dotenv, is_line, is_run, is_timestamp, less, recording, refuses, success, told}
use Rattle.just_bench.specs.Turns.{AreCalled, AreMade, AreScripted, IsRefusedNext, answers_among, count_of, one_more, picked}

-- one call: its answer is the first of the queue of its kind
module _ {A : Type 0} (is : Entry → Bool) (queue : Script → List A) (as_answer : A → Answer) (usual : A)
    (asked : (script : Script) (e : Entry) → is e ≡ true → answer_of script e ≡ as_answer (next_or (queue script) usual))
    (takes : (script : Script) (e : Entry) → queue (after_answer script e) ≡ left_in_queue (is e) (queue script)) where
  one : (taken : Bool) (xs : List A) (n : ℕ) (answer : Answer) (answers : List Answer) → (taken ≡ true → answer ≡ as_answer (next_or xs usual)) →
      answers ≡ map as_answer (first_or n (left_in_queue taken xs) usual) → picked taken answer answers ≡ map as_answer (first_or (one_more taken n) xs usual)
  one true xs n answer answers h k = ap (λ x. x ∷ answers) (h refl) ∙ ap (λ ys. as_answer (next_or xs usual) ∷ ys) k
  one false xs n answer answers h k = k

  in-turn : (entries : List Entry) (old new : Recording) (answers : List Answer) → AreCalled entries old answers new →
      answers_among is entries answers ≡ map as_answer (first_or (count_of is entries) (queue old.script) usual)
  in-turn [] old new [] h = refl
  in-turn [] old new (a ∷ answers) h = absurd h
  in-turn (e ∷ entries) old new [] h = absurd h
  in-turn (e ∷ entries) old new (a ∷ answers) (mid, called, others) =
      let left : queue mid.script ≡ left_in_queue (is e) (queue old.script) = ap (λ (r : Recording). queue r.script) called.2 ∙ takes old.script e in
      let rest = in-turn entries mid new answers others in
      one (is e) (queue old.script) (count_of is entries) a (answers_among is entries answers) (λ k. called.1 ∙ asked old.script e k)
      (rest ∙ ap (λ xs. map as_answer (first_or (count_of is entries) xs usual)) left)

-- the calls are kept
kept-in-turn : (entries : List Entry) (old new : Recording) (answers : List Answer) → AreCalled entries old answers new → new.entries ≡ old.entries ++ entries
kept-in-turn [] old new [] h = ap (λ (r : Recording). r.entries) h ∙ sym (append-nil old.entries)
kept-in-turn [] old new (a ∷ answers) h = absurd h
kept-in-turn (e ∷ entries) old new [] h = absurd h
kept-in-turn (e ∷ entries) old new (a ∷ answers) (mid, called, others) =
    kept-in-turn entries mid new answers others ∙ ap (λ (r : Recording). r.entries ++ entries) called.2 ∙ append_assoc old.entries (e ∷ []) entries

asked-run : (script : Script) (e : Entry) → is_run e ≡ true → answer_of script e ≡ Ran (next_or script.runs success)
asked-run script (entry.Begin path groups) h = absurd (cc)
asked-run script (entry.Shell call) h = refl
asked-run script (entry.Script call) h = refl
asked-run script (entry.Command call) h = refl
asked-run script (entry.Confirm prompt) h = absurd (cc)
asked-run script (entry.Show line) h = absurd (cc)
asked-run script (entry.Dotenv path folder) h = absurd (cc)
asked-run script (entry.Timestamp format) h = absurd (cc)

asked-line : (script : Script) (e : Entry) → is_line e ≡ true → answer_of script e ≡ told given (next_or script.lines (Ok (codes "y")))
asked-line script (entry.Begin path groups) h = absurd (cc)
asked-line script (entry.Shell call) h = absurd (cc)
asked-line script (entry.Script call) h = absurd (cc)
asked-line script (entry.Command call) h = absurd (cc)
asked-line script (entry.Confirm prompt) h = refl
asked-line script (entry.Show line) h = absurd (cc)
asked-line script (entry.Dotenv path folder) h = absurd (cc)
asked-line script (entry.Timestamp format) h = absurd (cc)

asked-dotenv : (script : Script) (e : Entry) → is_dotenv e ≡ true → answer_of script e ≡ told paired (next_or script.dotenvs (Ok []))
asked-dotenv script (entry.Begin path groups) h = absurd (cc)
asked-dotenv script (entry.Shell call) h = absurd (cc)
asked-dotenv script (entry.Script call) h = absurd (cc)
asked-dotenv script (entry.Command call) h = absurd (cc)
asked-dotenv script (entry.Confirm prompt) h = absurd (cc)
asked-dotenv script (entry.Show line) h = absurd (cc)
asked-dotenv script (entry.Dotenv path folder) h = refl
asked-dotenv script (entry.Timestamp format) h = absurd (cc)

asked-timestamp : (script : Script) (e : Entry) → is_timestamp e ≡ true → answer_of script e ≡ told given (next_or script.timestamps (Ok (codes "T")))
asked-timestamp script (entry.Begin path groups) h = absurd (cc)
asked-timestamp script (entry.Shell call) h = absurd (cc)
asked-timestamp script (entry.Script call) h = absurd (cc)
asked-timestamp script (entry.Command call) h = absurd (cc)
asked-timestamp script (entry.Confirm prompt) h = absurd (cc)
asked-timestamp script (entry.Show line) h = absurd (cc)
asked-timestamp script (entry.Dotenv path folder) h = absurd (cc)
asked-timestamp script (entry.Timestamp format) h = refl

pub scripted-in-turn : (entries : List Entry) (old new : Recording) (answers : List Answer) → AreCalled entries old answers new → AreScripted old entries answers new
scripted-in-turn entries old new answers h = record {
  kept = kept-in-turn entries old new answers h;
  runs = in-turn is_run (λ (s : Script). s.runs) (λ answer. Ran answer) success asked-run (λ script e. refl) entries old new answers h;
  lines = in-turn is_line (λ (s : Script). s.lines) (told given) (Ok (codes "y")) asked-line (λ script e. refl) entries old new answers h;
  dotenvs = in-turn is_dotenv (λ (s : Script). s.dotenvs) (told paired) (Ok []) asked-dotenv (λ script e. refl) entries old new answers h;
  timestamps = in-turn is_timestamp (λ (s : Script). s.timestamps) (told given) (Ok (codes "T")) asked-timestamp (λ script e. refl) entries old new answers h;
}

-- the call that is refused comes nearer with each call
called-left : (e : Entry) (old new : Recording) (answer : Option Answer) → IsCalled e old answer new → new.left ≡ less old.left
called-left e old new None h = ap (λ (r : Recording). r.left) h
called-left e old new (Some answer) h = ap (λ (r : Recording). r.left) h.2

made-left : (entries : List Entry) (old new : Recording) (answers : List (Option Answer)) → AreMade entries old answers new → old.left ≡ Some (length entries) → new.left ≡ Some 0
made-left [] old new [] h k = ap (λ (r : Recording). r.left) h ∙ k
made-left [] old new (a ∷ answers) h k = absurd h
made-left (e ∷ entries) old new [] h k = absurd h
made-left (e ∷ entries) old new (a ∷ answers) (mid, called, others) k = made-left entries mid new answers others (called-left e old mid a called ∙ ap less k)

last-refused : (entry : Entry) (old new : Recording) (answer : Option Answer) → old.left ≡ Some 0 → IsCalled entry old answer new → answer ≡ None
last-refused entry old new None k h = refl
last-refused entry old new (Some answer) k h = absurd (true≢false (sym (ap refuses k) ∙ h.0))

pub refused-next : (script : Script) (entries : List Entry) → IsRefusedNext script entries
refused-next script entries mid new answers entry answer made called =
    last-refused entry mid new answer (made-left entries (recording script (suc (length entries))) mid answers made refl) called

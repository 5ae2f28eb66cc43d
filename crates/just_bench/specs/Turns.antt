-- Calls of a recorder that are made in turn.
use Rattle.std.specs.Prelude.{◌≡◌, ◌++◌, ℕ, suc, Bool, true, false, List, [], ◌∷◌, length, map, Option, Some, None, Ok, codes}
use Rattle.just_run_layers.specs.declared.host.Entry.{Entry}
use Rattle.just_run_layers.specs.Host.{Answer, Ran, given, paired}
use Rattle.just_bench.specs.declared.script.Script.{Script}
use Rattle.just_bench.specs.Queue.{first_or}
use Rattle.just_bench.specs.Recorder.{IsCalled, Recording, is_dotenv, is_line, is_run, is_timestamp, recording, success, told}

-- these calls are made in turn, and answered so
abbrev pub AreCalled : List Entry → Recording → List Answer → Recording → Type 0
AreCalled [] old [] new = new ≡ old
AreCalled [] old (answer ∷ answers) new = ⊥
AreCalled (entry ∷ entries) old [] new = ⊥
AreCalled (entry ∷ entries) old (answer ∷ answers) new = (mid : Recording) × IsCalled entry old (Some answer) mid × AreCalled entries mid answers new

-- one answer more, or none
abbrev pub picked : Bool → Answer → List Answer → List Answer
picked true answer answers = answer ∷ answers
picked false answer answers = answers

abbrev pub one_more : Bool → ℕ → ℕ
one_more true n = suc n
one_more false n = n

-- the answers to those of the calls that are of a kind, and how many these are
abbrev pub answers_among : (Entry → Bool) → List Entry → List Answer → List Answer
answers_among is [] answers = []
answers_among is (entry ∷ entries) [] = []
answers_among is (entry ∷ entries) (answer ∷ answers) = picked (is entry) answer (answers_among is entries answers)

abbrev pub count_of : (Entry → Bool) → List Entry → ℕ
count_of is [] = 0
count_of is (entry ∷ entries) = one_more (is entry) (count_of is entries)

-- Calls are kept in order, and those of each kind have the answers of its queue in order, and the usual one after these.
pub record AreScripted (old : Recording) (entries : List Entry) (answers : List Answer) (new : Recording) : Type 0 where
  pub kept : new.entries ≡ old.entries ++ entries
  pub runs : answers_among is_run entries answers ≡ map (λ answer. Ran answer) (first_or (count_of is_run entries) old.script.runs success)
  pub lines : answers_among is_line entries answers ≡ map (told given) (first_or (count_of is_line entries) old.script.lines (Ok (codes "y")))
  pub dotenvs : answers_among is_dotenv entries answers ≡ map (told paired) (first_or (count_of is_dotenv entries) old.script.dotenvs (Ok []))
  pub timestamps : answers_among is_timestamp entries answers ≡ map (told given) (first_or (count_of is_timestamp entries) old.script.timestamps (Ok (codes "T")))

-- calls that are made in turn are so
abbrev pub AreAnsweredInOrder : List Entry → Recording → Recording → List Answer → Type 0
AreAnsweredInOrder entries old new answers = AreCalled entries old answers new → AreScripted old entries answers new

-- These calls are made in turn, and this becomes of each: an answer, or none for want of memory.
abbrev pub AreMade : List Entry → Recording → List (Option Answer) → Recording → Type 0
AreMade [] old [] new = new ≡ old
AreMade [] old (answer ∷ answers) new = ⊥
AreMade (entry ∷ entries) old [] new = ⊥
AreMade (entry ∷ entries) old (answer ∷ answers) new = (mid : Recording) × IsCalled entry old answer mid × AreMade entries mid answers new

-- After some calls of a recorder that is refused memory at the next one, that one is refused.
abbrev pub IsRefusedNext : Script → List Entry → Type 0
IsRefusedNext script entries = (mid new : Recording) (answers : List (Option Answer)) (entry : Entry) (answer : Option Answer) →
    AreMade entries (recording script (suc (length entries))) answers mid → IsCalled entry mid answer new → answer ≡ None

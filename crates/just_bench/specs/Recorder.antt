-- What a recorder holds, and what each call answers and leaves.
use Rattle.std.specs.Prelude.{◌≡◌, ◌==◌, ◌++◌, ℕ, zero, suc, pos, Bool, true, false, List, [], ◌∷◌, Option, Some, None, Result, Ok, Err, codes}
use Rattle.just_errors.specs.declared.fault.Fault.{Fault}
use Rattle.just_run_layers.specs.declared.host.Entry.{Entry}
use Rattle.just_run_layers.specs.declared.host.Entry.TheVariants as entry
use Rattle.just_run_layers.specs.declared.run_answer.RunAnswer.{RunAnswer}
use Rattle.just_errors.specs.declared.status.Status.TheVariants as status
use Rattle.just_run_layers.specs.Host.{Answer, Done, Ran, Refused, given, paired}
use Rattle.just_bench.specs.declared.script.Script.{Script}
use Rattle.just_bench.specs.Queue.{left_in_queue, next_or}
use Rattle.just_bench.specs.Script.{unscripted}

-- What it was asked, what it is to answer, and how many calls are answered before one is refused memory, where one is.
pub record Recording : Type 0 where
  pub entries : List Entry
  pub script : Script
  pub left : Option ℕ

-- calls are counted from 1: how many are answered before this one; none where no call has the number
abbrev pub before : ℕ → Option ℕ
before zero = None
before (suc n) = Some n

-- nothing was asked yet, with this script, and the call of this number refused
abbrev pub recording : Script → ℕ → Recording
recording script call = record { entries = []; script = script; left = before call }

abbrev pub fresh : Recording
fresh = recording unscripted 0

-- whether the next call is refused
abbrev pub refuses : Option ℕ → Bool
refuses None = false
refuses (Some n) = n == 0

abbrev pub is_refused : Recording → Bool
is_refused r = refuses r.left

-- a call is counted
abbrev pub less : Option ℕ → Option ℕ
less None = None
less (Some n) = before n

abbrev pub call_counted : Recording → Recording
call_counted r = record { entries = r.entries; script = r.script; left = less r.left }

-- code 0, without a signal
abbrev pub success : RunAnswer
success = record { status = status.Code (pos 0); signal = None }

-- what a layer gives, or its fault, as an answer
abbrev pub told : {A : Type 0} → (A → Answer) → Result A Fault → Answer
told answer (Ok x) = answer x
told answer (Err fault) = Refused fault.message

-- what the script answers a call: the next of its kind, and the usual answer where none of its kind is left
abbrev pub answer_of : Script → Entry → Answer
answer_of script (entry.Begin path groups) = Done
answer_of script (entry.Shell call) = Ran (next_or script.runs success)
answer_of script (entry.Script call) = Ran (next_or script.runs success)
answer_of script (entry.Command call) = Ran (next_or script.runs success)
answer_of script (entry.Confirm prompt) = told given (next_or script.lines (Ok (codes "y")))
answer_of script (entry.Show line) = Done
answer_of script (entry.Dotenv path folder) = told paired (next_or script.dotenvs (Ok []))
answer_of script (entry.Timestamp format) = told given (next_or script.timestamps (Ok (codes "T")))

-- of which kind a call is: a program runs, a line is read, files give an environment, or the time is told
abbrev pub is_run : Entry → Bool
is_run (entry.Shell call) = true
is_run (entry.Script call) = true
is_run (entry.Command call) = true
is_run _ = false

abbrev pub is_line : Entry → Bool
is_line (entry.Confirm prompt) = true
is_line _ = false

abbrev pub is_dotenv : Entry → Bool
is_dotenv (entry.Dotenv path folder) = true
is_dotenv _ = false

abbrev pub is_timestamp : Entry → Bool
is_timestamp (entry.Timestamp format) = true
is_timestamp _ = false

-- what is left of the script after that call: an answer less of its kind
abbrev pub after_answer : Script → Entry → Script
after_answer script entry = record {
  runs = left_in_queue (is_run entry) script.runs;
  lines = left_in_queue (is_line entry) script.lines;
  dotenvs = left_in_queue (is_dotenv entry) script.dotenvs;
  timestamps = left_in_queue (is_timestamp entry) script.timestamps;
}

-- a call that was answered: it is counted and kept, and its answer is taken from the script
abbrev pub after_call : Entry → Recording → Recording
after_call entry r = record { entries = r.entries ++ entry ∷ []; script = after_answer r.script entry; left = less r.left }

-- What becomes of a call: it was not to be refused, and is answered and kept; or memory is refused, and it is only counted.
abbrev pub IsCalled : Entry → Recording → Option Answer → Recording → Type 0
IsCalled entry old None new = new ≡ call_counted old
IsCalled entry old (Some answer) new = (is_refused old ≡ false) × (answer ≡ answer_of old.script entry) × (new ≡ after_call entry old)

-- the usual answer is promised where nothing else is left
abbrev pub if_over : {A : Type 0} → List A → Answer → Option Answer
if_over [] usual = Some usual
if_over (x ∷ xs) usual = None

-- What is promised: that a call which answers nothing is done; and the usual answer of each kind of which the script has none left.
abbrev pub script_promises : Script → Entry → Option Answer
script_promises script (entry.Begin path groups) = Some Done
script_promises script (entry.Shell call) = if_over script.runs (Ran success)
script_promises script (entry.Script call) = if_over script.runs (Ran success)
script_promises script (entry.Command call) = if_over script.runs (Ran success)
script_promises script (entry.Confirm prompt) = if_over script.lines (given (codes "y"))
script_promises script (entry.Show line) = Some Done
script_promises script (entry.Dotenv path folder) = if_over script.dotenvs (paired [])
script_promises script (entry.Timestamp format) = if_over script.timestamps (given (codes "T"))

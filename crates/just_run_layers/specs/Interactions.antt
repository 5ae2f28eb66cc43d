-- What a run asks, as a tree of interactions: each answer decides what comes next.
use Rattle.std.specs.Prelude.{◌≡◌, ◌⊎◌, List, [], ◌∷◌, ◌++◌, Option, Some, Result, Ok, Err}
use Rattle.just_errors.specs.declared.halt.Halt.{Halt}
use Rattle.just_errors.specs.declared.halt.Halt.TheVariants.{Memory, Exhausted}
use Rattle.just_run_layers.specs.declared.host.Entry.{Entry}
use Rattle.just_run_layers.specs.Evaluation.{Inquiry, ScopeRequest, requests_of}
use Rattle.just_run_layers.specs.Host.{Answer, Executed, executed}

-- what is asked of the host or of the evaluator
pub data Question : Type 0 where
  ToHost : Entry → Question
  ToEvaluator : Inquiry → Question

-- what both promise
abbrev pub both : (Inquiry → Option Answer) → (Entry → Option Answer) → Question → Option Answer
both evaluator host (ToHost entry) = host entry
both evaluator host (ToEvaluator inquiry) = evaluator inquiry

-- an interaction: a value; an end; or a question, and what follows its answer
pub data Interaction (A : Type 0) : Type 0 where
  Return : A → Interaction A
  Fail : Halt → Interaction A
  Ask : Question → (Answer → Interaction A) → Interaction A

-- one interaction, and after its success the one for its value
abbrev pub and_then : {A B : Type 0} → Interaction A → (A → Interaction B) → Interaction B
and_then (Return x) next = next x
and_then (Fail e) next = Fail e
and_then (Ask q k) next = Ask q (λ a. and_then (k a) next)

-- it can return this value
abbrev pub CanReturn : {A : Type 0} → Interaction A → A → Type 0
CanReturn (Return x) y = x ≡ y
CanReturn (Fail e) y = ⊥
CanReturn (Ask q k) y = (a : Answer) × CanReturn (k a) y

-- The log of a run: what the host was asked, and for which variables the evaluator was asked, each in order.
pub record Log : Type 0 where
  pub entries : List Entry
  pub requests : List ScopeRequest

abbrev pub log_of : List Entry → List ScopeRequest → Log
log_of entries requests = record { entries = entries; requests = requests }

-- the recipes that were executed, in order
abbrev pub executed_in : Log → List Executed
executed_in kept = executed kept.entries

-- a question is logged after a log: one to the evaluator where it is for variables
abbrev pub logged : Question → Log → Log
logged (ToHost entry) old = log_of (old.entries ++ entry ∷ []) old.requests
logged (ToEvaluator inquiry) old = log_of old.entries (old.requests ++ requests_of inquiry)

-- For every host: the interaction went on with some answers, which are those promised where there is a promise; its questions
-- are logged, and the result is its own. Or memory was refused, after a beginning of such a trace.
abbrev pub HasTrace : {A : Type 0} → (Question → Option Answer) → Interaction A → Log → Log → Result A Halt → Type 0
HasTrace promised (Return x) old new result = (new ≡ old) × ((result ≡ Ok x) ⊎ (result ≡ Err Memory))
HasTrace promised (Fail e) old new result = (new ≡ old) × ((result ≡ Err e) ⊎ (result ≡ Err Memory))
HasTrace promised (Ask q k) old new result =
    ((new ≡ old) × (result ≡ Err Memory)) ⊎ ((a : Answer) × ((b : Answer) → promised q ≡ Some b → b ≡ a) × HasTrace promised (k a) (logged q old) new result)

-- the trace under f: the questions that arise where each is answered by f
abbrev pub trace_under : {A : Type 0} → (Question → Answer) → Interaction A → List Question
trace_under f (Return x) = []
trace_under f (Fail e) = []
trace_under f (Ask q k) = q ∷ trace_under f (k (f q))

-- and the result then
abbrev pub result_under : {A : Type 0} → (Question → Answer) → Interaction A → Result A Halt
result_under f (Return x) = Ok x
result_under f (Fail e) = Err e
result_under f (Ask q k) = result_under f (k (f q))

-- these answers are promised to some questions
abbrev pub ArePromised : (Question → Option Answer) → (Question → Answer) → List Question → Type 0
ArePromised promised f [] = Unit {0}
ArePromised promised f (q ∷ qs) = (promised q ≡ Some (f q)) × ArePromised promised f qs

-- what is logged of questions, of those to the host and of those for variables
abbrev pub calls : List Question → List Entry
calls [] = []
calls (ToHost entry ∷ qs) = entry ∷ calls qs
calls (ToEvaluator inquiry ∷ qs) = calls qs

abbrev pub requests_in : List Question → List ScopeRequest
requests_in [] = []
requests_in (ToHost entry ∷ qs) = requests_in qs
requests_in (ToEvaluator inquiry ∷ qs) = requests_of inquiry ++ requests_in qs

-- they are logged after a log
abbrev pub logged_all : List Question → Log → Log
logged_all qs old = log_of (old.entries ++ calls qs) (old.requests ++ requests_in qs)

-- some beginning of the questions was asked
abbrev pub IsPrefixOfTrace : List Question → Log → Log → Type 0
IsPrefixOfTrace qs old new = (xs : List Question) × (ys : List Question) × (qs ≡ xs ++ ys) × (new ≡ logged_all xs old)

-- exactly this trace, and this result; or, where memory or a count was refused, a beginning of the trace
abbrev pub IsTraceOrPrefix : {A : Type 0} → List Question → Result A Halt → Log → Log → Result A Halt → Type 0
IsTraceOrPrefix qs end old new result =
    ((new ≡ logged_all qs old) × (result ≡ end)) ⊎ (((result ≡ Err Memory) ⊎ (result ≡ Err Exhausted)) × IsPrefixOfTrace qs old new)

-- What a host is asked, and what is answered and promised.
use Rattle.std.specs.Prelude.{◌≡◌, ℕ, List, [], ◌∷◌, Option, Some, None, Result, Ok, Err, flat_map}
use Rattle.just_errors.specs.declared.refusal.Refusal.{Refusal}
use Rattle.just_errors.specs.declared.refusal.Refusal.TheVariants as refusal
use Rattle.just_names.specs.Texts.{Text}
use Rattle.just_paths.specs.declared.modulepath.Modulepath.{Modulepath}
use Rattle.just_ast_expressions.specs.declared.scope.Scope.{Scope}
use Rattle.just_run_layers.specs.declared.environment.EnvironmentChange.{EnvironmentChange}
use Rattle.just_run_layers.specs.declared.environment.EnvironmentPair.{EnvironmentPair}
use Rattle.just_run_layers.specs.declared.held.Held.{Held}
use Rattle.just_run_layers.specs.declared.host.Entry.{Entry}
use Rattle.just_run_layers.specs.declared.host.Entry.TheVariants.{Begin}
use Rattle.just_run_layers.specs.declared.run_answer.RunAnswer.{RunAnswer}

-- What is answered, where there is the memory: that it is done; a text; a value; a scope; what a task holds; pairs, or changes,
-- of an environment; how a program ended; or a fault with its message.
pub data Answer : Type 0 where
  Done : Answer
  TextGiven : Text → Answer
  Valued : List Text → Answer
  ScopeGiven : Scope → Answer
  Bound : Held → Answer
  Paired : List EnvironmentPair → Answer
  Changed : List EnvironmentChange → Answer
  Ran : RunAnswer → Answer
  Refused : Text → Answer

-- no promise is taken away or changed
abbrev pub KeepsPromises : {Q : Type 0} → (Q → Option Answer) → (Q → Option Answer) → Type 0
KeepsPromises {Q} old new = (question : Q) (answer : Answer) → old question ≡ Some answer → new question ≡ Some answer

-- what is promised is what is answered
abbrev pub Answers : Option Answer → Option Answer → Type 0
Answers promise given = (a b : Answer) → promise ≡ Some a → given ≡ Some b → a ≡ b

-- a call is kept where it is answered
abbrev pub kept_call : Entry → Option Answer → List Entry
kept_call entry None = []
kept_call entry (Some answer) = entry ∷ []

-- the answer of a call that answers nothing but that it is done; none for want of memory
abbrev pub done_answer : {A E : Type 0} → Result A E → Option Answer
done_answer (Ok x) = Some Done
done_answer (Err e) = None

-- that of a call by which a program ran
abbrev pub run_answer : {E : Type 0} → Result RunAnswer E → Option Answer
run_answer (Ok answer) = Some (Ran answer)
run_answer (Err e) = None

-- that of a call that may fault, which is an answer too
abbrev pub answered : {A : Type 0} → (A → Answer) → Result A Refusal → Option Answer
answered answer (Ok x) = Some (answer x)
answered answer (Err refusal.Memory) = None
answered answer (Err (refusal.Fault fault)) = Some (Refused fault.message)

-- the answers as functions
abbrev pub given : Text → Answer
given text = TextGiven text

abbrev pub paired : List EnvironmentPair → Answer
paired pairs = Paired pairs

abbrev pub valued : List Text → Answer
valued value = Valued value

abbrev pub answer_of_scope : Scope → Answer
answer_of_scope scope = ScopeGiven scope

abbrev pub bound_to : Held → Answer
bound_to bound = Bound bound

abbrev pub changed : List EnvironmentChange → Answer
changed changes = Changed changes

-- a recipe that was executed: its path, and the groups of its arguments
pub record Executed : Type 0 where
  pub path : Modulepath
  pub groups : List (List (List ℕ))

-- what an entry executes
abbrev pub executed_by : Entry → List Executed
executed_by (Begin path groups) = record { path = path; groups = groups } ∷ []
executed_by entry = []

-- the recipes that were executed, in order
abbrev pub executed : List Entry → List Executed
executed entries = flat_map executed_by entries

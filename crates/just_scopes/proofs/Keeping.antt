-- What is kept of modules that are opened.
use Rattle.std.proofs.Common.{◌≡◌, ◌∙◌, Bool, true, false, cond, List, [], ◌∷◌, ◌++◌, map, Option, Ok, refl, sym, ap, inl, inr}
use Rattle.std.specs.Prelude.{Result}
use Rattle.std.proofs.lemmas.List.{append-nil, append_assoc}
use Rattle.just_ast_expressions.specs.declared.scope.Scope.{Scope}
use Rattle.just_errors.specs.declared.halt.Halt.{Halt}
use Rattle.just_run_layers.proofs.Halts.{failed-not, memory-not}
use Rattle.just_run_layers.proofs.Quiet.{Quiet, quiet-then, took-quiet}
use Rattle.just_errors.specs.declared.run_error.RunError.TheVariants.{Dotenv, Evaluate}
use Rattle.just_justfile.specs.declared.justfile.Justfile.{Justfile}
use Rattle.just_run_layers.proofs.InteractionLemmas.{took-split}
use Rattle.just_run_layers.specs.Evaluation.{ConfigContents}
use Rattle.just_run_layers.specs.Host.{Answer, Bound, Changed, Done, TextGiven, Paired, Ran, Refused, ScopeGiven, Valued}
use Rattle.just_run_layers.specs.Interactions.{Ask, Fail, Return, Log, Question, ToHost, HasTrace, and_then, executed_in, log_of}
use Rattle.just_run_layers.specs.declared.environment.EnvironmentPair.{EnvironmentPair}
use Rattle.just_run_layers.specs.declared.host.Entry.{Entry}
use Rattle.just_scopes.specs.Need.{NumberSets, asked}
use Rattle.just_scopes.specs.Open.{dotenv_entry, kept_of, request_for}
use Rattle.just_scopes.specs.Opening.{Inherited, Handed, Opened, all_opened, around, dotenv_steps, open_steps, opened_with, openings, pairs_answered, scope_answered, scope_steps}
use Rattle.just_scopes.specs.Preorder.{Placed}

-- no answer leads to a recipe that begins
quiet-pairs : (before : List EnvironmentPair) (a : Answer) → Quiet (pairs_answered before a)
quiet-pairs before Done = memory-not
quiet-pairs before (TextGiven text) = memory-not
quiet-pairs before (Valued value) = memory-not
quiet-pairs before (ScopeGiven scope) = memory-not
quiet-pairs before (Bound held) = memory-not
quiet-pairs before (Paired pairs) = tt
quiet-pairs before (Changed changes) = memory-not
quiet-pairs before (Ran answer) = memory-not
quiet-pairs before (Refused message) = failed-not (Dotenv (record { message = message }))

quiet-scope : (a : Answer) → Quiet (scope_answered a)
quiet-scope Done = memory-not
quiet-scope (TextGiven text) = memory-not
quiet-scope (Valued value) = memory-not
quiet-scope (ScopeGiven scope) = tt
quiet-scope (Bound held) = memory-not
quiet-scope (Paired pairs) = memory-not
quiet-scope (Changed changes) = memory-not
quiet-scope (Ran answer) = memory-not
quiet-scope (Refused message) = failed-not (Evaluate (record { message = message }))

quiet-dotenv : (load : Bool) (config : ConfigContents) → config.load_dotenv ≡ load → (j : Justfile) (before : List EnvironmentPair) → Quiet (dotenv_steps config j before)
quiet-dotenv load config is j before = go config.load_dotenv
  where
    go : (b : Bool) → Quiet (dotenv_steps (record config { load_dotenv = b }) j before)
    go true = (refl, quiet-pairs before)
    go false = tt

quiet-one : (sets : NumberSets) (handed : Handed) (p : Placed) (a : Inherited) → Quiet (open_steps sets handed p a)
quiet-one sets handed p a = quiet-then (dotenv_steps handed.config p.justfile a.dotenv)
    (λ dotenv. and_then (scope_steps handed p.justfile (asked sets p.lazy p.justfile) a.scope dotenv) (λ scope. Return (opened_with p dotenv scope)))
    (quiet-dotenv handed.config.load_dotenv handed.config refl p.justfile a.dotenv)
    (λ dotenv. quiet-then (scope_steps handed p.justfile (asked sets p.lazy p.justfile) a.scope dotenv) (λ scope. Return (opened_with p dotenv scope)) (refl, quiet-scope) (λ scope. tt))

quiet-all : (sets : NumberSets) (handed : Handed) (ps : List Placed) (opened : List Opened) → Quiet (openings sets handed ps opened)
quiet-all sets handed [] opened = tt
quiet-all sets handed (p ∷ ps) opened = quiet-then (open_steps sets handed p (around opened p.parent)) (λ o. openings sets handed ps (opened ++ o ∷ [])) (quiet-one sets handed p (around opened p.parent))
    (λ o. quiet-all sets handed ps (opened ++ o ∷ []))

-- so nothing is executed
pub executes-nothing : (sets : NumberSets) (handed : Handed) (ps : List Placed) (p : Question → Option Answer) (old new : Log) (r : Result (List Opened) Halt) → HasTrace p (all_opened sets handed ps) old new r → executed_in new ≡ executed_in old
executes-nothing sets handed ps p old new r t = (took-quiet p (all_opened sets handed ps) old new r (quiet-all sets handed ps []) t).0

pub dotenv-executes : (config : ConfigContents) (j : Justfile) (before : List EnvironmentPair) (p : Question → Option Answer) (old new : Log) (r : Result (List EnvironmentPair) Halt) → HasTrace p (dotenv_steps config j before) old new r → executed_in new ≡ executed_in old
dotenv-executes config j before p old new r t = (took-quiet p (dotenv_steps config j before) old new r (quiet-dotenv config.load_dotenv config refl j before) t).0

-- a success leaves each question once
failed-no : {A : Type 0} (p : Question → Option Answer) (e : Halt) (old new : Log) (x : A) → HasTrace p (Fail e) old new (Ok x) → ⊥
failed-no p e old new x (n, inl h) = cc
failed-no p e old new x (n, inr h) = cc

given-same : {A : Type 0} (p : Question → Option Answer) (y : A) (old new : Log) (x : A) → HasTrace p (Return y) old new (Ok x) → new ≡ old
given-same p y old new x t = t.0

pairs-kept : (p : Question → Option Answer) (before : List EnvironmentPair) (a : Answer) (old new : Log) (x : List EnvironmentPair) → HasTrace p (pairs_answered before a) old new (Ok x) → new ≡ old
pairs-kept p before Done old new x t = absurd (failed-no p _ old new x t)
pairs-kept p before (TextGiven text) old new x t = absurd (failed-no p _ old new x t)
pairs-kept p before (Valued value) old new x t = absurd (failed-no p _ old new x t)
pairs-kept p before (ScopeGiven scope) old new x t = absurd (failed-no p _ old new x t)
pairs-kept p before (Bound held) old new x t = absurd (failed-no p _ old new x t)
pairs-kept p before (Paired pairs) old new x t = t.0
pairs-kept p before (Changed changes) old new x t = absurd (failed-no p _ old new x t)
pairs-kept p before (Ran answer) old new x t = absurd (failed-no p _ old new x t)
pairs-kept p before (Refused message) old new x t = absurd (failed-no p _ old new x t)

scope-kept : (p : Question → Option Answer) (a : Answer) (old new : Log) (x : Scope) → HasTrace p (scope_answered a) old new (Ok x) → new ≡ old
scope-kept p Done old new x t = absurd (failed-no p _ old new x t)
scope-kept p (TextGiven text) old new x t = absurd (failed-no p _ old new x t)
scope-kept p (Valued value) old new x t = absurd (failed-no p _ old new x t)
scope-kept p (ScopeGiven scope) old new x t = t.0
scope-kept p (Bound held) old new x t = absurd (failed-no p _ old new x t)
scope-kept p (Paired pairs) old new x t = absurd (failed-no p _ old new x t)
scope-kept p (Changed changes) old new x t = absurd (failed-no p _ old new x t)
scope-kept p (Ran answer) old new x t = absurd (failed-no p _ old new x t)
scope-kept p (Refused message) old new x t = absurd (failed-no p _ old new x t)

module _ (sets : NumberSets) (handed : Handed) (p : Question → Option Answer) where
  pairs-step : (j : Justfile) (before : List EnvironmentPair) (b : Bool) (q : Entry) (old mid : Log) (x : List EnvironmentPair) → HasTrace p (cond b (Ask (ToHost q) (pairs_answered before)) (Return [])) old mid (Ok x) → mid ≡ log_of (old.entries ++ cond b (q ∷ []) []) old.requests
  pairs-step j before true q old mid x (inl (n, h)) = absurd (cc)
  pairs-step j before true q old mid x (inr (a, l, t)) = pairs-kept p before a (log_of (old.entries ++ q ∷ []) old.requests) mid x t
  pairs-step j before false q old mid x (n, h) = n ∙ ap (λ es. log_of es old.requests) (sym (append-nil old.entries))

  scope-step : (q : Placed) (parent : Scope) (dotenv : List EnvironmentPair) (mid new : Log) (x : Scope) → HasTrace p (scope_steps handed q.justfile (asked sets q.lazy q.justfile) parent dotenv) mid new (Ok x) → new ≡ log_of mid.entries (mid.requests ++ request_for sets q ∷ [])
  scope-step q parent dotenv mid new x (inl (n, h)) = absurd (cc)
  scope-step q parent dotenv mid new x (inr (a, l, t)) = scope-kept p a (log_of mid.entries (mid.requests ++ request_for sets q ∷ [])) new x t

  abbrev once : Placed → Log → Log
  once q old = log_of (old.entries ++ cond handed.config.load_dotenv (dotenv_entry handed q ∷ []) []) (old.requests ++ request_for sets q ∷ [])

  last-step : (q : Placed) (parent : Scope) (dotenv : List EnvironmentPair) (mid new : Log) (x : Opened) →
      HasTrace p (and_then (scope_steps handed q.justfile (asked sets q.lazy q.justfile) parent dotenv) (λ scope. Return (opened_with q dotenv scope))) mid new (Ok x) → new ≡ log_of mid.entries (mid.requests ++ request_for sets q ∷ [])
  last-step q parent dotenv mid new x t = elim (took-split p (scope_steps handed q.justfile (asked sets q.lazy q.justfile) parent dotenv) (λ scope. Return (opened_with q dotenv scope)) mid new (Ok x) t) [
    | inl (scope, late, gives, first, rest) ↦ given-same p (opened_with q dotenv scope) late new x rest ∙ scope-step q parent dotenv mid late scope first
    | inr (e, h, first) ↦ absurd (cc)
  ]

  one-step : (q : Placed) (a : Inherited) (old new : Log) (x : Opened) → HasTrace p (open_steps sets handed q a) old new (Ok x) → new ≡ once q old
  one-step q a old new x t = elim (took-split p (dotenv_steps handed.config q.justfile a.dotenv)
      (λ dotenv. and_then (scope_steps handed q.justfile (asked sets q.lazy q.justfile) a.scope dotenv) (λ scope. Return (opened_with q dotenv scope))) old new (Ok x) t) [
        | inl (dotenv, mid, gives, first, rest) ↦
            last-step q a.scope dotenv mid new x rest ∙ ap (λ (k : Log). log_of k.entries (k.requests ++ request_for sets q ∷ [])) (pairs-step q.justfile a.dotenv handed.config.load_dotenv (dotenv_entry handed q) old mid dotenv first)
        | inr (e, h, first) ↦ absurd (cc)
      ]

  one-more : (b : Bool) (e : Entry) (es fs : List Entry) → (fs ++ cond b (e ∷ []) []) ++ cond b es [] ≡ fs ++ cond b (e ∷ es) []
  one-more true e es fs = append_assoc fs (e ∷ []) es
  one-more false e es fs = append-nil (fs ++ [])

  after-one-more : (q : Placed) (qs : List Placed) (old : Log) → kept_of sets handed qs (once q old) ≡ kept_of sets handed (q ∷ qs) old
  after-one-more q qs old = λ i. log_of (one-more handed.config.load_dotenv (dotenv_entry handed q) (map (dotenv_entry handed) qs) old.entries i) (append_assoc old.requests (request_for sets q ∷ []) (map (request_for sets) qs) i)

  none-more : (b : Bool) (fs : List Entry) → fs ≡ fs ++ cond b [] []
  none-more true fs = sym (append-nil fs)
  none-more false fs = sym (append-nil fs)

  all-steps : (qs : List Placed) (opened : List Opened) (old new : Log) (x : List Opened) → HasTrace p (openings sets handed qs opened) old new (Ok x) → new ≡ kept_of sets handed qs old
  all-steps [] opened old new x t = t.0 ∙ (λ i. log_of (none-more handed.config.load_dotenv old.entries i) (sym (append-nil old.requests) i))
  all-steps (q ∷ qs) opened old new x t = elim (took-split p (open_steps sets handed q (around opened q.parent)) (λ o. openings sets handed qs (opened ++ o ∷ [])) old new (Ok x) t) [
    | inl (o, mid, gives, first, rest) ↦ all-steps qs (opened ++ o ∷ []) mid new x rest ∙ ap (kept_of sets handed qs) (one-step q (around opened q.parent) old mid o first) ∙ after-one-more q qs old
    | inr (e, h, first) ↦ absurd (cc)
  ]

  pub opens-each-once : (qs : List Placed) (old new : Log) (x : List Opened) → HasTrace p (all_opened sets handed qs) old new (Ok x) → new ≡ kept_of sets handed qs old
  opens-each-once qs old new x t = all-steps qs [] old new x t

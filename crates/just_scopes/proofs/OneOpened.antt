-- One module is opened: its pairs, and then its variables.
use Rattle.std.proofs.Common.{◌≡◌, List, Option, Ok, Err, refl, subst}
use Rattle.std.specs.Prelude.{Result}
use Rattle.just_ast_expressions.specs.declared.scope.Scope.{Scope}
use Rattle.just_errors.specs.declared.halt.Halt.{Halt}
use Rattle.just_errors.specs.declared.halt.Halt.TheVariants.{Memory}
use Rattle.just_run_layers.specs.loops.Interactions.{AsksAlone}
use Rattle.just_run_layers.proofs.InteractionLemmas.{keeps-both, keeps-self, took-give, took-out, took-stop, took-then}
use Rattle.just_run_layers.specs.Evaluation.{Inquiry, NumberSet, ScopeRequest}
use Rattle.just_run_layers.specs.Host.{Answer, KeepsPromises}
use Rattle.just_run_layers.specs.Interactions.{Return, Log, Interaction, HasTrace, and_then, both, log_of}
use Rattle.just_run_layers.specs.declared.environment.EnvironmentPair.{EnvironmentPair}
use Rattle.just_run_layers.specs.declared.host.Entry.{Entry}
use Rattle.just_scopes.specs.Need.{NumberSets, asked}
use Rattle.just_scopes.specs.Opening.{Inherited, Handed, Opened, dotenv_steps, open_steps, opened_with, scope_steps}
use Rattle.just_scopes.specs.loops.Opens.{AsksHostAlone}
use Rattle.just_scopes.specs.Preorder.{Placed}

module _ (e : Inquiry → Option Answer) (h k : Entry → Option Answer) (keeps : KeepsPromises h k) (sets : NumberSets) (handed : Handed) (p : Placed) (a : Inherited) (es fs : List Entry) (rs : List ScopeRequest) where
  abbrev pairs : Interaction (List EnvironmentPair)
  pairs = dotenv_steps handed.config p.justfile a.dotenv

  abbrev next : List EnvironmentPair → Interaction Opened
  next dotenv = and_then (scope_steps handed p.justfile (asked sets p.lazy p.justfile) a.scope dotenv) (λ scope. Return (opened_with p dotenv scope))

  -- there are no pairs
  pub stops-first : (d : Halt) → AsksHostAlone h pairs es fs (Err d) → HasTrace (both e h) (open_steps sets handed p a) (log_of es rs) (log_of fs rs) (Err d)
  stops-first d t = took-stop (both e h) pairs next (log_of es rs) (log_of fs rs) d (t e rs)

  module _ (dotenv : List EnvironmentPair) (first : AsksHostAlone h pairs es fs (Ok dotenv)) where
    goes : (new : Log) (r : Result Opened Halt) → HasTrace (both e k) (next dotenv) (log_of fs rs) new r → HasTrace (both e h) (open_steps sets handed p a) (log_of es rs) new r
    goes new r t = took-then (both e h) (both e k) (keeps-both e e h k (keeps-self e) keeps) pairs next (log_of es rs) (log_of fs rs) new dotenv r (first e rs) t

    -- there is no memory for its set
    pub stops-out : HasTrace (both e h) (open_steps sets handed p a) (log_of es rs) (log_of fs rs) (Err Memory)
    stops-out = goes (log_of fs rs) (Err Memory) (took-out (both e k) (next dotenv) (log_of fs rs) (log_of fs rs) refl)

    module _ (set : NumberSet) (is : set ≡ asked sets p.lazy p.justfile) (ss : List ScopeRequest) where
      abbrev scopes : NumberSet → Interaction Scope
      scopes s = scope_steps handed p.justfile s a.scope dotenv

      -- there are no values
      pub stops-last : (d : Halt) → AsksAlone e (scopes set) rs ss (Err d) → HasTrace (both e h) (open_steps sets handed p a) (log_of es rs) (log_of fs ss) (Err d)
      stops-last d t = goes (log_of fs ss) (Err d)
          (took-stop (both e k) (scopes (asked sets p.lazy p.justfile)) (λ scope. Return (opened_with p dotenv scope)) (log_of fs rs) (log_of fs ss) d
          (subst (λ s. HasTrace (both e k) (scopes s) (log_of fs rs) (log_of fs ss) (Err d)) is (t k fs)))

      -- there are
      pub opens : (scope : Scope) → AsksAlone e (scopes set) rs ss (Ok scope) → HasTrace (both e h) (open_steps sets handed p a) (log_of es rs) (log_of fs ss) (Ok (opened_with p dotenv scope))
      opens scope t = goes (log_of fs ss) (Ok (opened_with p dotenv scope))
          (took-then (both e k) (both e k) (keeps-self (both e k)) (scopes (asked sets p.lazy p.justfile)) (λ scope. Return (opened_with p dotenv scope)) (log_of fs rs) (log_of fs ss) (log_of fs ss) scope (Ok (opened_with p dotenv scope))
          (subst (λ s. HasTrace (both e k) (scopes s) (log_of fs rs) (log_of fs ss) (Ok scope)) is (t k fs)) (took-give (both e k) (log_of fs ss) (opened_with p dotenv scope)))

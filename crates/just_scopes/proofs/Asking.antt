-- One call of a layer.
use Rattle.std.proofs.Common.{◌≡◌, ◌∙◌, true, false, cond, List, [], ◌++◌, Option, Some, None, Ok, Err, refl, sym, ap, subst, inl}
use Rattle.std.specs.Prelude.{Result}
use Rattle.std.proofs.lemmas.List.{append-nil}
use Rattle.just_ast_expressions.specs.declared.scope.Scope.{Scope}
use Rattle.just_errors.specs.declared.halt.Halt.{Halt}
use Rattle.just_errors.specs.declared.halt.Halt.TheVariants.{Memory}
use Rattle.just_run_layers.specs.loops.Interactions.{AsksAlone}
use Rattle.just_justfile.specs.declared.justfile.Justfile.{Justfile, out-Justfile}
use Rattle.just_names.specs.Texts.{Text}
use Rattle.just_run_layers.proofs.InteractionLemmas.{took-called, took-requested}
use Rattle.just_run_layers.specs.Evaluation.{Assignments, ConfigContents, ContextContents, Inquiry, NumberSet, ScopeRequest, requested}
use Rattle.just_run_layers.specs.Host.{Answer, Answers, kept_call}
use Rattle.just_run_layers.specs.Interactions.{Ask, Return, Log, Question, Interaction, ToEvaluator, ToHost, HasTrace, both, log_of}
use Rattle.just_run_layers.specs.declared.environment.EnvironmentPair.{EnvironmentPair}
use Rattle.just_run_layers.specs.declared.host.Entry.{Entry}
use Rattle.just_run_layers.specs.declared.host.Entry.TheVariants as entry
use Rattle.just_scopes.specs.Opening.{Handed, context_in, dotenv_steps, working_folder_of, pairs_answered, scope_answered, scope_steps}
use Rattle.just_scopes.specs.loops.Opens.{AsksHostAlone}

-- what follows an answer at once
abbrev pub AtOnce : {A : Type 0} → Interaction A → Result A Halt → Type 0
AtOnce s r = (p : Question → Option Answer) (k : Log) → HasTrace p s k k r

module _ (h : Entry → Option Answer) (config : ConfigContents) (j : Justfile) (before : List EnvironmentPair) (es later : List Entry) (folder : Text) (same : folder ≡ working_folder_of config.working_directory j) where
  abbrev pub call : Entry
  call = entry.Dotenv (out-Justfile j).module_path folder

  abbrev asked : Text → Interaction (List EnvironmentPair)
  asked f = Ask (ToHost (entry.Dotenv (out-Justfile j).module_path f)) (pairs_answered before)

  asked-is : config.load_dotenv ≡ true → asked folder ≡ dotenv_steps config j before
  asked-is on = ap asked same ∙ sym (ap (λ b. cond b (asked (working_folder_of config.working_directory j)) (Return [])) on)

  pub dotenv-answered : config.load_dotenv ≡ true → (a : Answer) (o : Option Answer) → o ≡ Some a → Answers (h call) o → later ≡ es ++ kept_call call o → (r : Result (List EnvironmentPair) Halt) → AtOnce (pairs_answered before a) r →
      AsksHostAlone h (dotenv_steps config j before) es later r
  dotenv-answered on a o is answers recorded r next = λ e rs.
      subst (λ s. HasTrace (both e h) s (log_of es rs) (log_of later rs) r) (asked-is on)
      (took-called e h call (pairs_answered before) a rs es later (log_of later rs) r (subst (Answers (h call)) is answers) (recorded ∙ ap (λ o. es ++ kept_call call o) is) (next (both e h) (log_of later rs)))

  pub dotenv-unanswered : config.load_dotenv ≡ true → (o : Option Answer) → o ≡ None → later ≡ es ++ kept_call call o → AsksHostAlone h (dotenv_steps config j before) es later (Err Memory)
  dotenv-unanswered on o is recorded = λ e rs.
      subst (λ s. HasTrace (both e h) s (log_of es rs) (log_of later rs) (Err Memory)) (asked-is on)
      (inl (ap (λ xs. log_of xs rs) (recorded ∙ ap (λ o. es ++ kept_call call o) is ∙ append-nil es), refl))

module _ (h : Entry → Option Answer) (config : ConfigContents) (j : Justfile) (before : List EnvironmentPair) (es : List Entry) where
  pub dotenv-off : config.load_dotenv ≡ false → (all : List EnvironmentPair) → all ≡ [] → AsksHostAlone h (dotenv_steps config j before) es es (Ok all)
  dotenv-off off all none = λ e rs.
      subst (λ s. HasTrace (both e h) s (log_of es rs) (log_of es rs) (Ok all)) (sym (ap (λ b. cond b (Ask (ToHost (entry.Dotenv (out-Justfile j).module_path (working_folder_of config.working_directory j))) (pairs_answered before)) (Return [])) off))
      (refl, inl (ap (λ x. Ok x) none))

module _ (e : Inquiry → Option Answer) (handed : Handed) (j : Justfile) (set : NumberSet) (parent : Scope) (dotenv : List EnvironmentPair) (context : ContextContents) (same : context ≡ context_in handed j dotenv) (before later : List ScopeRequest) where
  abbrev pub question : Inquiry
  question = Assignments context parent set

  asked-scope : Ask (ToEvaluator question) scope_answered ≡ scope_steps handed j set parent dotenv
  asked-scope = ap (λ c. Ask (ToEvaluator (Assignments c parent set)) scope_answered) same

  pub scope-asked : (a : Answer) (o : Option Answer) → o ≡ Some a → Answers (e question) o → later ≡ before ++ requested question o → (r : Result Scope Halt) → AtOnce (scope_answered a) r → AsksAlone e (scope_steps handed j set parent dotenv) before later r
  scope-asked a o is answers recorded r next = λ h es.
      subst (λ s. HasTrace (both e h) s (log_of es before) (log_of es later) r) asked-scope
      (took-requested e h question scope_answered a es before later (log_of es later) r (subst (Answers (e question)) is answers) (recorded ∙ ap (λ o. before ++ requested question o) is) (next (both e h) (log_of es later)))

  pub scope-unasked : (o : Option Answer) → o ≡ None → later ≡ before ++ requested question o → AsksAlone e (scope_steps handed j set parent dotenv) before later (Err Memory)
  scope-unasked o is recorded = λ h es.
      subst (λ s. HasTrace (both e h) s (log_of es before) (log_of es later) (Err Memory)) asked-scope
      (inl (ap (λ xs. log_of es xs) (recorded ∙ ap (λ o. before ++ requested question o) is ∙ append-nil before), refl))

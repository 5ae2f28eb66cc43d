-- From the text that was made to what the form Evaluate comes to.
use Rattle.std.proofs.Common.{◌≡◌, Bool, true, List, Option, Ok, Err, sym, ap, subst, ◌∙◌}
use Rattle.std.specs.Prelude.{Result}
use Rattle.std.proofs.Math.Path.{fun_ext}
use Rattle.just_errors.specs.declared.error.Error.{Error}
use Rattle.just_errors.specs.declared.halt.Halt.{Halt}
use Rattle.just_errors.specs.declared.halt.Halt.TheVariants as halt
use Rattle.just_execution.specs.declared.run.Report.{Report}
use Rattle.just_justfile.specs.declared.justfile.Justfile.{Justfile}
use Rattle.just_names.specs.Texts.{Text}
use Rattle.just_names.specs.declared.number.Number.{Number}
use Rattle.just_parts.specs.declared.layers.config.EvaluateFormat.{EvaluateFormat}
use Rattle.just_paths.specs.declared.modulepath.Modulepath.{Modulepath}
use Rattle.just_run_layers.proofs.InteractionLemmas.{keeps-self, took-give, took-out, took-steady, took-stop, took-then}
use Rattle.just_run_layers.specs.Evaluation.{Inquiry}
use Rattle.just_run_layers.specs.Host.{Answer}
use Rattle.just_run_layers.specs.Interactions.{Return, Log, HasTrace, both, executed_in}
use Rattle.just_run_layers.specs.declared.host.Entry.{Entry}
use Rattle.just_scopes.specs.Need.{AreNeedsFrom, NumberSets}
use Rattle.just_scopes.specs.Open.{AreLazyModules, OpensLazily}
use Rattle.just_scopes.specs.Opening.{Handed, Opened, all_opened}
use Rattle.just_scopes.specs.Preorder.{IsPreorderUnder, Placed}
use Rattle.just_evaluate.specs.Asked.{AreTargetNumbers}
use Rattle.just_evaluate.specs.Destination.{TellsLack, destination, leads_to}
use Rattle.just_invoke.specs.Evaluation.{IsAnsweredFor, IsEvaluation, IsEvaluationAsExpected, LeadsToValues, ValuesAsked, Writer, evaluated, numbers_of, shut, text_in, text_steps}
use Rattle.just_invoke.specs.loops.Evaluation.{IsTextMade, made, unmade}
use Rattle.just_invoke.specs.Lazily.{HasOpenedLazily}
use Rattle.just_invoke.proofs.Wholes.{late-memory}

-- a set that has exactly the numbers asked for
pub same-numbers : (values : ValuesAsked) (set : Number → Bool) → AreTargetNumbers values.justfile values.variable set → set ≡ numbers_of values
same-numbers values set are = fun_ext are

module _ (displayed : List Text → Text) (root : Justfile) (values : ValuesAsked) (handed : Handed) (e : Inquiry → Option Answer) (h : Entry → Option Answer) (old new : Log) where
  abbrev pub Made : Result Text Halt → Type 0
  Made = IsTextMade displayed root values handed e h old new

  -- there is no memory for the numbers
  pub made-out : (ended : Result Text Halt) → ended ≡ Err halt.Memory → new ≡ old → Made ended
  made-out ended is same = unmade halt.Memory is (λ sets needs ps order. took-out (both e h) (all_opened sets handed ps) old new same) (ap executed_in same)

  module _ (set : Number → Bool) (are : AreTargetNumbers values.justfile values.variable set) where
    -- the modules do not open
    pub made-shut : (d : Halt) (ended : Result Text Halt) → ended ≡ Err d → OpensLazily e h handed root set old new (Err d) → executed_in new ≡ executed_in old → Made ended
    made-shut d ended is opens executed = unmade d is (subst (λ used. OpensLazily e h handed root used old new (Err d)) (same-numbers values set are) opens) executed

    module _ (opened : List Opened) (opens : OpensLazily e h handed root set old new (Ok opened)) (lazy : AreLazyModules root set opened) (executed : executed_in new ≡ executed_in old) where
      has-opened : HasOpenedLazily e h handed root (numbers_of values) old new opened
      has-opened = record {
        steps = subst (λ used. OpensLazily e h handed root used old new (Ok opened)) (same-numbers values set are) opens;
        are = subst (λ used. AreLazyModules root used opened) (same-numbers values set are) lazy;
        unexecuted = executed;
      }

      -- there is no memory for the text
      pub made-late : (ended : Result Text Halt) → ended ≡ Err halt.Memory → Made ended
      made-late ended is = unmade halt.Memory is (λ sets needs ps order. late-memory (both e h) (all_opened sets handed ps) old new opened (has-opened.steps sets needs ps order)) executed

      -- there is
      pub made-text : (ended : Result Text Halt) → ended ≡ Ok (text_in displayed values opened) → Made ended
      made-text ended is = made opened has-opened is

  -- so the steps were taken
  steps-taken : (ended : Result Text Halt) → Made ended → (sets : NumberSets) → AreNeedsFrom (numbers_of values) root sets → (ps : List Placed) → IsPreorderUnder true root ps → HasTrace (both e h) (text_steps displayed sets handed ps values) old new ended
  steps-taken ended (unmade d is opens executed) sets needs ps order = subst (HasTrace (both e h) (text_steps displayed sets handed ps values) old new) (sym is)
      (took-stop (both e h) (all_opened sets handed ps) (λ opened. Return (text_in displayed values opened)) old new d (opens sets needs ps order))
  steps-taken ended (made opened has is) sets needs ps order = subst (HasTrace (both e h) (text_steps displayed sets handed ps values) old new) (sym is)
      (took-then (both e h) (both e h) (keeps-self (both e h)) (all_opened sets handed ps) (λ opened. Return (text_in displayed values opened)) old new new opened (Ok (text_in displayed values opened))
      (has.steps sets needs ps order) (took-give (both e h) new (text_in displayed values opened)))

  module _ (format : EvaluateFormat) (path : Option Modulepath) (leads : LeadsToValues root format path values) (before after : Writer) (result : Result Report Error) where
    pub evaluated-so : (ended : Result Text Halt) → Made ended → IsAnsweredFor ended before after result → IsEvaluation displayed root handed e h format path old new before after result
    evaluated-so ended (unmade d is opens executed) answered =
        let told = subst (λ r. IsAnsweredFor r before after result) is answered in
        shut values d leads told.0 opens executed told.1
    evaluated-so ended (made opened has is) answered = evaluated values opened leads has (subst (λ r. IsAnsweredFor r before after result) is answered)

    one-values : (others : ValuesAsked) → LeadsToValues root format path others → values ≡ others
    one-values others other =
        let same : leads_to values.justfile values.variable ≡ leads_to others.justfile others.variable = sym leads.0 ∙ other.0 in
        let justfile : values.justfile ≡ others.justfile = cc in
        let variable : values.variable ≡ others.variable = cc in
        let formats : values.format ≡ others.format = leads.1 ∙ sym other.1 in
        λ i. record { format = formats i; justfile = justfile i; variable = variable i }

    pub expected-so : (ended : Result Text Halt) → Made ended → IsAnsweredFor ended before after result → IsEvaluationAsExpected displayed root handed e h format path old new before after result
    expected-so ended text answered others other sets needs ps order f promised =
        let same = one-values others other in (
          ended,
          answered,
          took-steady (both e h) f (text_steps displayed sets handed ps others) old new ended promised
              (subst (λ vs. HasTrace (both e h) (text_steps displayed sets handed ps vs) old new ended) same
              (steps-taken ended text sets (subst (λ vs. AreNeedsFrom (numbers_of vs) root sets) (sym same) needs) ps order)),
        )

-- a path that leads nowhere leads to no values
pub leads-nowhere : (root : Justfile) (format : EvaluateFormat) (path : Option Modulepath) (values : ValuesAsked) (e : Error) → TellsLack (destination root path) e → LeadsToValues root format path values → ⊥
leads-nowhere root format path values e lacks leads = subst (λ d. TellsLack d e) leads.0 lacks

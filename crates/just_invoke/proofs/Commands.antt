-- From the steps of a program to what the form Command comes to.
use Rattle.std.proofs.Common.{◌≡◌, ◌∙◌, Bool, BuildHasherDefault, FoldHasher, List, [], ◌∷◌, ◌++◌, Option, None, Some, Ok, Err, ap, subst}
use Rattle.std.specs.Prelude.{IfOk, Result}
use Rattle.std.specs.HashSet.{HashSet, IsEmpty, contains}
use Rattle.std.specs.List.{list_any}
use Rattle.std.proofs.Math.Path.{fun_ext}
use Rattle.std.proofs.lemmas.List.{append-nil}
use Rattle.just_errors.specs.Halts.{come_to, error_of, discard_value}
use Rattle.just_errors.specs.declared.error.Error.{Error}
use Rattle.just_errors.specs.declared.halt.Halt.{Halt}
use Rattle.just_errors.specs.declared.halt.Halt.TheVariants.{Memory}
use Rattle.just_run_layers.proofs.Quiet.{executed-append}
use Rattle.just_execution.specs.declared.run.Report.{Report}
use Rattle.just_justfile.specs.declared.justfile.Justfile.{Justfile}
use Rattle.just_names.specs.declared.number.Number.{Number}
use Rattle.just_parts.specs.Needs.{same_number}
use Rattle.just_run_layers.proofs.InteractionLemmas.{keeps-both, keeps-self, took-kept, took-steady, took-stop, took-then}
use Rattle.just_run_layers.specs.Evaluation.{Inquiry}
use Rattle.just_run_layers.specs.Host.{Answer, KeepsPromises, executed, kept_call}
use Rattle.just_run_layers.specs.Interactions.{HasTrace, Log, both, executed_in}
use Rattle.just_run_layers.specs.declared.calls.CommandCall.{CommandCall}
use Rattle.just_run_layers.specs.declared.host.Entry.{Entry}
use Rattle.just_run_layers.specs.declared.host.Entry.TheVariants as entry
use Rattle.just_scopes.specs.Open.{AreLazyModules, OpensLazily}
use Rattle.just_scopes.specs.Opening.{Handed, Opened, all_opened}
use Rattle.just_invoke.specs.Command.{IsProgramRun, IsProgramRunAsExpected, ProgramAsked, whole_program_steps, program_steps, ran, shut}
use Rattle.just_invoke.specs.Lazily.{no_numbers}

-- an empty set has no numbers
pub holds-none : (set : HashSet Number (BuildHasherDefault FoldHasher)) → IsEmpty set → contains same_number set ≡ no_numbers
holds-none set empty = fun_ext (λ n. ap (λ keys. list_any (same_number n) keys) empty)

-- a call of a program executes nothing
pub call-executes : (entries later : List Entry) (call : CommandCall) (o : Option Answer) → later ≡ entries ++ kept_call (entry.Command call) o → executed later ≡ executed entries
call-executes entries later call None is = ap executed (is ∙ append-nil entries)
call-executes entries later call (Some a) is = ap executed is ∙ executed-append entries (entry.Command call ∷ []) ∙ append-nil (executed entries)

module _ (root : Justfile) (handed : Handed) (e : Inquiry → Option Answer) (h : Entry → Option Answer) (program : ProgramAsked) (old new : Log) (result : Result Report Error) where
  module _ (set : Number → Bool) (none : set ≡ no_numbers) where
    -- the modules do not open
    pub program-shut : (d : Halt) → result ≡ Err (error_of d) → OpensLazily e h handed root set old new (Err d) → executed_in new ≡ executed_in old → IsProgramRun root handed e h program old new result
    program-shut d is opens executed = shut d is (subst (λ used. OpensLazily e h handed root used old new (Err d)) none opens) executed

    -- they do, and then the steps of the program were taken, under more promises
    pub program-ran : (d : Inquiry → Option Answer) (k : Entry → Option Answer) → KeepsPromises e d → KeepsPromises h k → (opened : List Opened) (mid : Log) → OpensLazily e h handed root set old mid (Ok opened) → AreLazyModules root set opened → executed_in mid ≡ executed_in old →
        (ended : Result Report Halt) → result ≡ come_to ended → IfOk ended (λ report. report.calls.items ≡ []) → (discard_value ended ≡ Err Memory → new.entries ≡ mid.entries) → HasTrace (both d k) (program_steps handed.config root program opened) mid new (discard_value ended) → executed_in new ≡ executed_in mid →
        IsProgramRun root handed e h program old new result
    program-ran d k more host opened mid opens lazy before ended is uncounted uncalled taken after =
        ran opened mid ended is uncounted uncalled
        (record {
          steps = subst (λ used. OpensLazily e h handed root used old mid (Ok opened)) none opens;
          are = subst (λ used. AreLazyModules root used opened) none lazy;
          unexecuted = before;
        })
        (took-kept (both e h) (both d k) (keeps-both e d h k more host) (program_steps handed.config root program opened) mid new (discard_value ended) taken)
        (after ∙ before)

  -- so the steps of the form were taken
  pub program-expected : IsProgramRun root handed e h program old new result → IsProgramRunAsExpected root handed e h program old new result
  program-expected (shut d is opens executed) = λ sets needs ps order f promised. (
    Err d,
    is,
    took-steady (both e h) f (whole_program_steps sets handed root ps program) old new (Err d) promised
        (took-stop (both e h) (all_opened sets handed ps) (program_steps handed.config root program) old new d (opens sets needs ps order)),
  )
  program-expected (ran opened mid ended is uncounted uncalled has taken executed) = λ sets needs ps order f promised. (
    ended,
    is,
    took-steady (both e h) f (whole_program_steps sets handed root ps program) old new (discard_value ended) promised
        (took-then (both e h) (both e h) (keeps-self (both e h)) (all_opened sets handed ps) (program_steps handed.config root program) old mid new opened (discard_value ended) (has.steps sets needs ps order) taken),
  )

use Rattle.std.proofs.Common.{◌≡◌, List, ℕ, Option, None, Some, IfSome, refl, rules, subst, sym}
use Rattle.just_names.specs.Texts.{texts}
use Rattle.just_paths.specs.Clean.{IsClean}
use Rattle.just_bench.specs.declared.program_error.ProgramError.TheVariants as program
use Rattle.justrun.specs.Answers.{IsProgramFault, failing, unclean, unread}
use Rattle.justrun.proofs.command.run_input.Goals as goal

-- what is so of a text is so of what was left to read, where that is known
of_left : (left : Option (List ℕ)) (text : List ℕ) (P : List ℕ → Type 0) → IfSome left (λ bytes. text ≡ bytes) → P text → IfSome left P
of_left None text P is h = tt
of_left (Some bytes) text P is h = subst P is h

pub returns-then-not-is_clean-clause-failed : goal.returns-then-not-is_clean-clause-failed
returns-then-not-is_clean-clause-failed g c = λ one.
    let dirty : IsClean c.args.root.now → ⊥ = search rules in
    (program.NotClean c.args.root, unclean c.args.root refl dirty refl)

pub returns-in-Ok-clause-failed : goal.returns-in-Ok-clause-failed
returns-in-Ok-clause-failed g c = λ one.
    let fault = c.run_text.ensures.fault one in
    let old = g.W.Write.contents c.args.output.now in
    let new = g.W.Write.contents c.run_text.new.output in
    let clean : IsClean c.args.root.now = search rules in
    let left = g.R.Read.remaining c.args.input.now in
    let read : IfSome left (λ bytes. c.as_str.result.now ≡ bytes) = subst (λ text. IfSome left (λ bytes. text ≡ bytes)) (sym c.as_str.ensures.value) c.in-Ok.ensures.text in
    (fault.0, failing fault.0 clean (of_left left c.as_str.result.now (λ text. IsProgramFault text c.args.root.now (texts c.args.words.now) old new fault.0) read fault.1))

pub returns-in-Err-clause-failed : goal.returns-in-Err-clause-failed
returns-in-Err-clause-failed g c = λ one. (program.Input c.in-Err.error, unread c.in-Err.error c.in-Err.ensures.fault refl)

-- What a script promises.
use Rattle.std.proofs.Common.{◌≡◌, List, [], ◌∷◌, Some, Ok, codes, refl, sym, ◌∙◌}
use Rattle.just_run_layers.specs.declared.host.Entry.{Entry}
use Rattle.just_run_layers.specs.declared.host.Entry.TheVariants as entry
use Rattle.just_run_layers.specs.Evaluation.{Inquiry}
use Rattle.just_run_layers.specs.Host.{Answer, Ran, given, paired}
use Rattle.just_run_layers.specs.Interactions.{ToHost, ToEvaluator}
use Rattle.just_bench_evaluation.specs.Answered.{plain_answer}
use Rattle.just_bench.specs.declared.script.Script.{Script}
use Rattle.just_bench.specs.Promises.{EachIsPromised}
use Rattle.just_bench.specs.Queue.{next_or}
use Rattle.just_bench.specs.Recorder.{answer_of, if_over, script_promises, success, told}
use Rattle.just_bench.specs.Script.{unscripted}

-- what is promised is what the script answers
over-answers : {A : Type 0} (xs : List A) (usual a : Answer) (answer : List A → Answer) → answer [] ≡ usual → if_over xs usual ≡ Some a → a ≡ answer xs
over-answers [] usual a answer e h = let is : usual ≡ a = cc in sym is ∙ sym e
over-answers (x ∷ xs) usual a answer e h = absurd (cc)

pub promised-answer : (script : Script) (e : Entry) (a : Answer) → script_promises script e ≡ Some a → a ≡ answer_of script e
promised-answer script (entry.Begin path groups) a h = cc
promised-answer script (entry.Shell call) a h = over-answers script.runs _ a (λ runs. Ran (next_or runs success)) refl h
promised-answer script (entry.Script call) a h = over-answers script.runs _ a (λ runs. Ran (next_or runs success)) refl h
promised-answer script (entry.Command call) a h = over-answers script.runs _ a (λ runs. Ran (next_or runs success)) refl h
promised-answer script (entry.Confirm prompt) a h = over-answers script.lines _ a (λ lines. told given (next_or lines (Ok (codes "y")))) refl h
promised-answer script (entry.Show line) a h = cc
promised-answer script (entry.Dotenv path folder) a h = over-answers script.dotenvs _ a (λ dotenvs. told paired (next_or dotenvs (Ok []))) refl h
promised-answer script (entry.Timestamp format) a h = over-answers script.timestamps _ a (λ timestamps. told given (next_or timestamps (Ok (codes "T")))) refl h

-- where no script is left each call has a promise
usual-promised : (e : Entry) → script_promises unscripted e ≡ Some (answer_of unscripted e)
usual-promised (entry.Begin path groups) = refl
usual-promised (entry.Shell call) = refl
usual-promised (entry.Script call) = refl
usual-promised (entry.Command call) = refl
usual-promised (entry.Confirm prompt) = refl
usual-promised (entry.Show line) = refl
usual-promised (entry.Dotenv path folder) = refl
usual-promised (entry.Timestamp format) = refl

pub steady-all : EachIsPromised (λ (inquiry : Inquiry). Some (plain_answer inquiry)) (script_promises unscripted)
steady-all [] = tt
steady-all (ToHost entry ∷ questions) = (usual-promised entry, steady-all questions)
steady-all (ToEvaluator inquiry ∷ questions) = (refl, steady-all questions)

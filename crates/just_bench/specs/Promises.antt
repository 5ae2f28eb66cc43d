-- What the layers of the bench promise.
use Rattle.std.specs.Prelude.{◌≡◌, List, Option}
use Rattle.just_run_layers.specs.declared.host.Entry.{Entry}
use Rattle.just_run_layers.specs.Evaluation.{Inquiry}
use Rattle.just_run_layers.specs.Host.{Answer}
use Rattle.just_run_layers.specs.Interactions.{Question, ToHost, ToEvaluator, ArePromised, both}
use Rattle.just_bench_evaluation.specs.Answered.{plain_answer}
use Rattle.just_bench.specs.declared.script.Script.{Script}
use Rattle.just_bench.specs.Recorder.{answer_of}
use Rattle.just_bench.specs.Script.{unscripted}

-- the answers where nothing is scripted, and those of the plain evaluation
abbrev pub usual_answer : Question → Answer
usual_answer (ToHost entry) = answer_of unscripted entry
usual_answer (ToEvaluator inquiry) = plain_answer inquiry

-- they promise the usual answer to each question
abbrev pub EachIsPromised : (Inquiry → Option Answer) → (Entry → Option Answer) → Type 0
EachIsPromised evaluator host = (questions : List Question) → ArePromised (both evaluator host) usual_answer questions

-- they do where no script is left
abbrev pub ArePromisedUnscripted : Script → (Inquiry → Option Answer) → (Entry → Option Answer) → Type 0
ArePromisedUnscripted script evaluator host = script ≡ unscripted → EachIsPromised evaluator host

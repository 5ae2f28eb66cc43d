-- What was taken of steps where one layer is asked alone, whatever the other one promises and has kept.
use Rattle.std.specs.Prelude.{List, Option, Result}
use Rattle.just_errors.specs.declared.halt.Halt.{Halt}
use Rattle.just_run_layers.specs.declared.host.Entry.{Entry}
use Rattle.just_run_layers.specs.Evaluation.{Inquiry, ScopeRequest}
use Rattle.just_run_layers.specs.Host.{Answer}
use Rattle.just_run_layers.specs.Interactions.{Interaction, HasTrace, both, log_of}

-- steps of the evaluator
abbrev pub AsksEvaluator : {A : Type 0} → (Inquiry → Option Answer) → Interaction A → List ScopeRequest → List ScopeRequest → Result A Halt → Type 0
AsksEvaluator evaluator steps before later result =
    (host : Entry → Option Answer) (entries : List Entry) → HasTrace (both evaluator host) steps (log_of entries before) (log_of entries later) result

-- steps of the host
abbrev pub AsksHost : {A : Type 0} → (Entry → Option Answer) → Interaction A → List Entry → List Entry → Result A Halt → Type 0
AsksHost host steps before later result =
    (evaluator : Inquiry → Option Answer) (requests : List ScopeRequest) → HasTrace (both evaluator host) steps (log_of before requests) (log_of later requests) result

-- What private functions say beside `Interactions.antt`.
use Rattle.std.specs.Prelude.{List, Option, Result}
use Rattle.just_errors.specs.declared.halt.Halt.{Halt}
use Rattle.just_run_layers.specs.declared.host.Entry.{Entry}
use Rattle.just_run_layers.specs.Evaluation.{Inquiry, ScopeRequest}
use Rattle.just_run_layers.specs.Host.{Answer}
use Rattle.just_run_layers.specs.Interactions.{log_of, Interaction, HasTrace, both}

-- questions of which the host is asked none, whatever it has kept
abbrev pub AsksAlone : {A : Type 0} → (Inquiry → Option Answer) → Interaction A → List ScopeRequest → List ScopeRequest → Result A Halt → Type 0
AsksAlone evaluator steps before later result =
    (host : Entry → Option Answer) (entries : List Entry) → HasTrace (both evaluator host) steps (log_of entries before) (log_of entries later) result

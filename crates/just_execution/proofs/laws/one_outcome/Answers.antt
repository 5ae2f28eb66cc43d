use Rattle.std.proofs.Common.{◌∙◌, List, sym, inl, inr}
use Rattle.std.specs.Prelude.{Result}
use Rattle.just_errors.specs.declared.halt.Halt.{Halt}
use Rattle.just_run_layers.specs.Interactions.{Log, Question, IsTraceOrPrefix}
use Rattle.just_execution.specs.Reports.{AgreeUnlessResourceError}
use Rattle.just_execution.proofs.laws.one_outcome.Goals as goal

one : (qs : List Question) (end a b : Result (Unit {0}) Halt) (old new last : Log) → IsTraceOrPrefix qs end old new a → IsTraceOrPrefix qs end old last b → AgreeUnlessResourceError a b new last
one qs end a b old new last (inl h) (inl k) x y = (h.0 ∙ sym k.0, h.1 ∙ sym k.1)
one qs end a b old new last (inl h) (inr k) x y = absurd (y k.0)
one qs end a b old new last (inr h) k x y = absurd (x h.0)

pub returns : goal.returns
returns c = one

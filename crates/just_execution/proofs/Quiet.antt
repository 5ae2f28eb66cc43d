-- Interactions for each of some things, each of which executes nothing.
use Rattle.std.proofs.Common.{List, [], ◌∷◌, ◌++◌}
use Rattle.just_run_layers.specs.Interactions.{Interaction, Return, and_then}
use Rattle.just_run_layers.proofs.Quiet.{Quiet, quiet-then}
use Rattle.just_execution.specs.Arguments.{gathered}

pub quiet-gathered : {A B : Type 0} (step : A → Interaction (List B)) → ((x : A) → Quiet (step x)) → (xs : List A) → Quiet (gathered step xs)
quiet-gathered step h [] = tt
quiet-gathered step h (x ∷ xs) = quiet-then (step x) (λ ys. and_then (gathered step xs) (λ more. Return (ys ++ more))) (h x)
    (λ ys. quiet-then (gathered step xs) (λ more. Return (ys ++ more)) (quiet-gathered step h xs) (λ more. tt))

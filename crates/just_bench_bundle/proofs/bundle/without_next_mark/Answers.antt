use Rattle.std.proofs.Common.{◌∷◌, ◌++◌, [], sym, ◌∙◌}
use Rattle.std.proofs.lemmas.List.{append_assoc}
use Rattle.just_bench_bundle.specs.Bundle.{mark}
use Rattle.just_bench_bundle.proofs.bundle.without_next_mark.Goals as goal

pub returns-in-None-clause-followed : goal.returns-in-None-clause-followed
returns-in-None-clause-followed c = λ front is. absurd (c.in-None.ensures.cases (front ++ 10 ∷ []) (is ∙ sym (append_assoc front (10 ∷ []) mark)))

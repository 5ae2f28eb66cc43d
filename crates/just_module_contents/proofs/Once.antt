-- Lists without a number twice.
use Rattle.std.proofs.Common.{ℕ, suc, List, [], ◌∷◌, sym, ◌∙◌, arith}
use Rattle.std.proofs.lemmas.List.{get_or_default}
use Rattle.just_graph.specs.Steps.{IsOnce}
use Rattle.just_graph.proofs.Leveling.{Once}
use Rattle.just_graph.proofs.Members.{contained}

-- a list without a number twice, by its front
pub from_once : (xs : List ℕ) → IsOnce xs → Once xs
from_once [] once = tt
from_once (x ∷ xs) once = (
  λ h. let c = contained x xs h in once 0 (suc c.0) (omega arith) (omega (arith, c.1)) (sym (get_or_default xs c.0 0 x c.1 ∙ c.2)),
  from_once xs (λ i j l h e. once (suc i) (suc j) (omega (arith, l)) (omega (arith, h)) e),
)

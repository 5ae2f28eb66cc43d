-- A walk over parts that skips the pairs of a table.
use Rattle.std.specs.Prelude.{ℕ, zero, suc, Bool, cond, List, [], ◌∷◌, ◌++◌, map}
use Rattle.just_execution.specs.Firsts.{stands_among}
use Rattle.just_execution.specs.Expansion.{Part, Prepare, Block, part_key}

-- the pairs whose blocks are there
abbrev pub blocks : {P : Type 0} → List (Part P) → List P
blocks [] = []
blocks (Prepare p ∷ xs) = blocks xs
blocks (Block p ∷ xs) = p ∷ blocks xs

-- the walks of a list, each with what ran before it in the table
abbrev pub walks : {P K : Type 0} → (P → K) → (List K → P → List (Part P)) → List K → List P → List (Part P)
walks key f table [] = []
walks key f table (q ∷ qs) = f table q ++ walks key f (table ++ blocks (map (part_key key) (f table q))) qs

-- the walk of a pair: nothing where the table has its key; else its question, the walks of its priors, and its block
abbrev pub walk : {P K : Type 0} → (K → K → Bool) → (P → K) → (P → List P) → ℕ → List K → P → List (Part P)
walk same key priors zero table p = []
walk same key priors (suc n) table p =
    cond (stands_among same table (key p)) [] (Prepare p ∷ (walks key (walk same key priors n) table (priors p) ++ (Block p ∷ [])))

-- What modules have, one after another.
use Rattle.std.specs.Prelude.{List, [], ◌∷◌, ◌++◌}
use Rattle.just_justfile.specs.declared.justfile.Justfile.{Justfile}

-- What each of some modules has, in turn.
pub data AreHadInTurn {X : Type 0} (Has : Justfile → List X → Type 0) : List Justfile → List X → Type 0 where
  nothing : AreHadInTurn Has [] []
  more : {j : Justfile} {js : List Justfile} {here rest : List X} → Has j here → AreHadInTurn Has js rest → AreHadInTurn Has (j ∷ js) (here ++ rest)

-- A chain as the list of its elements.
use Rattle.std.specs.Prelude.{List, [], ◌∷◌, ◌++◌, Option, None, Some}
use Rattle.std.specs.declared.rc.Rc.{Rc}
use Rattle.std.specs.declared.alloc.Global.{Global}
use Rattle.just_data.specs.declared.chain.Link.{Link}

-- the elements before the last one, and the last one
abbrev pub elements_of : {T : Type 0} → Option (Rc (Link T) Global) → List T
elements_of None = []
elements_of (Some rc) = rc.value.front ++ rc.value.last ∷ []

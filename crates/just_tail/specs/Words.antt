-- Words, and groups of words, as texts.
use Rattle.std.specs.Prelude.{List, map}
use Rattle.std.specs.Borrow.{Bor}
use Rattle.std.specs.declared.vec.Vec.{Vec}
use Rattle.std.specs.declared.alloc.Global.{Global}
use Rattle.just_names.specs.Texts.{Text, texts}

-- words, as texts
abbrev pub Words : Type 0
Words = List Text

-- the groups of borrowed words, as texts
abbrev pub as_texts : List (Vec (Bor Text) Global) → List Words
as_texts groups = map (λ g. texts g.items) groups

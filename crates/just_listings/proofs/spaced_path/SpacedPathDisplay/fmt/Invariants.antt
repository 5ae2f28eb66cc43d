use Rattle.std.proofs.Common.{◌∷◌, [], ◌++◌, take}
use Rattle.std.specs.List.{flat_map}
use Rattle.std.specs.Fmt.{HasWritten, IsPlainFormatter}
use Rattle.just_listings.proofs.spaced_path.SpacedPathDisplay.fmt.Given as goal

abbrev pub invariant-loop-name : goal.invariant-loop-name
invariant-loop-name g l = IsPlainFormatter l.initial.f → HasWritten g.W.Write.write_str_gives l.initial.f (flat_map (λ d. (32 ∷ []) ++ d) (take l.name-index l.rest)) l.f

use Rattle.std.proofs.Common.{◌≡◌, drop}
use Rattle.std.specs.Str.{bytes_eq}
use Rattle.std.specs.HashMap.{get}
use Rattle.just_names.specs.Texts.{Text}
use Rattle.just_tail.specs.Options.{first_of}
use Rattle.just_tail.specs.loops.Options.{place_from}
use Rattle.just_errors.specs.declared.switch.Switch.TheVariants.{Long}
use Rattle.just_tail.proofs.plan.long_places.Given as goal

abbrev pub invariant-loop-place : goal.invariant-loop-place
invariant-loop-place l = (name : Text) →
    first_of (place_from l.place (drop l.place l.parameters) (Long name)) (get bytes_eq l.places name) ≡ place_from 0 l.parameters (Long name)

use Rattle.std.proofs.Common.{◌≡◌, ℕ, drop}
use Rattle.std.specs.Prelude.{nat_eq}
use Rattle.std.specs.HashMap.{get}
use Rattle.just_tail.specs.Options.{first_of}
use Rattle.just_tail.specs.loops.Options.{place_from}
use Rattle.just_errors.specs.declared.switch.Switch.TheVariants.{Short}
use Rattle.just_tail.proofs.plan.short_places.Given as goal

abbrev pub invariant-loop-place : goal.invariant-loop-place
invariant-loop-place l = (c : ℕ) →
    first_of (place_from l.place (drop l.place l.parameters) (Short c)) (get nat_eq l.places c) ≡ place_from 0 l.parameters (Short c)

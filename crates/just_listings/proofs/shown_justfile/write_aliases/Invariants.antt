use Rattle.std.proofs.Common.{map}
use Rattle.std.specs.List.{filter_map}
use Rattle.just_listings.specs.Shown.{alias_shown}
use Rattle.just_listings.proofs.Gaps.{AreWritten}
use Rattle.just_listings.proofs.shown_justfile.write_aliases.Given as goal

abbrev pub invariant-loop-alias : goal.invariant-loop-alias
invariant-loop-alias g l = AreWritten g.W.Write.write_str_gives l.initial.f l.initial.begun (filter_map (alias_shown l.recipes) (map (λ a. a.now) l.yielded)) l.f l.begun

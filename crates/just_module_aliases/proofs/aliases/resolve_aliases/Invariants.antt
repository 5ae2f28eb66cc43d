use Rattle.just_module_aliases.specs.Aliased.{alias_targets}
use Rattle.just_module_aliases.proofs.Aliasing.{AreAdded}
use Rattle.just_module_aliases.proofs.aliases.resolve_aliases.Given as goal

abbrev pub invariant-loop-place : goal.invariant-loop-place
invariant-loop-place l = AreAdded (alias_targets l.absent l.disabled l.modules l.recipes) l.definitions.aliases.items l.place l.made

use Rattle.std.proofs.Common.{◌≡◌, ◌<◌, ℕ, false}
use Rattle.just_module_contents.specs.Definitions.{sets_in}
use Rattle.just_module_contents.specs.Settings.{are_incompatible}
use Rattle.just_module_headers.proofs.settings.check_sets.Given as goal

abbrev pub invariant-loop-place : goal.invariant-loop-place
invariant-loop-place g l = (j : ℕ) → j < l.place → (i : ℕ) → i < j → are_incompatible (g.S.Syntax.answers l.syntax).conflicts (sets_in l.definitions) i j ≡ false

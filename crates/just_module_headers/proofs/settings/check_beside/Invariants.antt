use Rattle.std.proofs.Common.{◌≡◌, ◌<◌, ℕ, true, false, take}
use Rattle.just_module_contents.specs.Definitions.{sets_in}
use Rattle.just_module_contents.specs.Settings.{excludes, setting_at, stands_in}
use Rattle.just_module_headers.proofs.settings.check_beside.Given as goal

abbrev pub invariant-loop-keyword : goal.invariant-loop-keyword
invariant-loop-keyword g l = (i : ℕ) → i < l.place → stands_in (setting_at (sets_in l.definitions) i) (take l.keyword-index l.keyword-items) ≡ true
    → excludes (g.S.Syntax.answers l.syntax).conflicts (sets_in l.definitions) l.place i ≡ false

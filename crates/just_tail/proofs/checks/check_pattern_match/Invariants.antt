use Rattle.std.proofs.Common.{◌≡◌, drop}
use Rattle.just_names.specs.Texts.{texts}
use Rattle.just_tail.specs.Checks.{wrong_pattern}
use Rattle.just_tail.proofs.checks.check_pattern_match.Given as goal

abbrev pub invariant-loop-text : goal.invariant-loop-text
invariant-loop-text l =
    wrong_pattern l.parameter (texts (drop l.text-index l.group)) ≡ wrong_pattern l.parameter (texts l.group)

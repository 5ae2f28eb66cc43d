use Rattle.std.proofs.Common.{◌≡◌, take}
use Rattle.just_names.specs.Texts.{texts}
use Rattle.just_invocations.proofs.paths.as_words.Given as goal

abbrev pub invariant-loop-component : goal.invariant-loop-component
invariant-loop-component l = texts l.words.items ≡ take l.component-index l.components

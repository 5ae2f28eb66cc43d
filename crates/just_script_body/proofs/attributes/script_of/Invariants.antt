use Rattle.std.proofs.Common.{◌≡◌, drop}
use Rattle.just_script_body.specs.ScriptAttributes.{script_of}
use Rattle.just_script_body.proofs.attributes.script_of.Given as goal

abbrev pub invariant-loop-named : goal.invariant-loop-named
invariant-loop-named l = script_of l.attributes ≡ script_of (drop l.named-index l.attributes)

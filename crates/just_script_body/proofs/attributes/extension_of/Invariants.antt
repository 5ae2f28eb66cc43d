use Rattle.std.proofs.Common.{◌≡◌, drop}
use Rattle.just_script_body.specs.ScriptAttributes.{extension_of}
use Rattle.just_script_body.proofs.attributes.extension_of.Given as goal

abbrev pub invariant-loop-named : goal.invariant-loop-named
invariant-loop-named l = extension_of l.attributes ≡ extension_of (drop l.named-index l.attributes)

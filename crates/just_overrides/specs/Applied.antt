-- What is answered of overrides.
use Rattle.std.specs.Prelude.{◌≡◌, ◌≢◌, List, []}
use Rattle.std.specs.BTreeMap.{BTreeMap}
use Rattle.std.specs.HashMap.{HashMap}
use Rattle.just_errors.specs.Causes.{Cause, NoVariables}
use Rattle.just_justfile.specs.declared.justfile.Justfile.{Justfile}
use Rattle.just_module_tree.specs.Overrides.{OverrideKey}
use Rattle.just_names.specs.Texts.{Text}
use Rattle.just_names.specs.declared.number.Number.{Number}
use Rattle.just_overrides.specs.Inserted.{AreInserted}
use Rattle.just_overrides.specs.Reached.{overrides_meant, unknown}

-- these keys are told, of which there are some
abbrev pub TellsUnknown : List Text → Cause → Type 0
TellsUnknown texts c = (texts ≢ []) × (c ≡ NoVariables texts)

-- each key means a variable, and the values are put in under their numbers, one after another
abbrev pub AreApplied : {G : Type 0} → Justfile → BTreeMap OverrideKey Text → HashMap Number Text G → HashMap Number Text G → Type 0
AreApplied root given old new = (unknown root given.entries ≡ []) × AreInserted (overrides_meant root given.entries) old new

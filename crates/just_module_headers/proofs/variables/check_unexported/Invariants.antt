use Rattle.std.proofs.Common.{◌≢◌, ℕ, ◌<◌, length}
use Rattle.just_names.specs.Index.{texts_of_names, name_at}
use Rattle.just_module_headers.proofs.variables.check_unexported.Given as goal

abbrev pub invariant-loop-name : goal.invariant-loop-name
invariant-loop-name l = (i j : ℕ) → i < l.name-index → j < length (texts_of_names l.unexports) → name_at (texts_of_names l.names) i ≢ name_at (texts_of_names l.unexports) j

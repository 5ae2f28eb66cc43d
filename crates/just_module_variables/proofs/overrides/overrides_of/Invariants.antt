use Rattle.std.proofs.Common.{◌≡◌, ◌++◌}
use Rattle.just_parts.specs.Layers.{override_at}
use Rattle.just_table.specs.Entries.{shown}
use Rattle.just_module_variables.specs.Overrides.{overrides_found}
use Rattle.just_module_variables.proofs.overrides.overrides_of.Given as goal

abbrev pub invariant-loop-name : goal.invariant-loop-name
invariant-loop-name l =
    overrides_found (override_at l.config.overrides l.path) l.assignments
    ≡ l.found.items ++ overrides_found (override_at l.config.overrides l.path) (shown (λ k. k.now) l.name-iterator)

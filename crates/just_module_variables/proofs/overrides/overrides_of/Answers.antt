use Rattle.std.proofs.Common.{◌∙◌, ap, sym}
use Rattle.std.specs.Map.{lookup}
use Rattle.std.specs.Ordering.{is_eq}
use Rattle.just_parts.specs.Layers.{override_at, variable_cmp}
use Rattle.just_module_variables.proofs.Overriding.{no_elements, nothing_found}
use Rattle.just_module_variables.proofs.overrides.overrides_of.Goals as goal

pub returns-then-is_empty : goal.returns-then-is_empty
returns-then-is_empty c =
    c.new-found.ensures.items
    ∙ sym (nothing_found (override_at c.args.config.now.overrides c.args.path.now) (λ name. ap (lookup (λ k. is_eq (variable_cmp (c.args.path.now, name) k))) (no_elements c.args.config.now.overrides.entries (c.is_empty.ensures.0 c.if-is_empty.true))) c.args.assignments.now)

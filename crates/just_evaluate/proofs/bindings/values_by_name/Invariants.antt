use Rattle.std.proofs.Common.{◌≡◌}
use Rattle.std.specs.HashMap.{get}
use Rattle.std.specs.Option.{option_copied, option_or}
use Rattle.std.specs.Str.{bytes_eq}
use Rattle.just_names.specs.Texts.{Text}
use Rattle.just_parts.specs.Evaluator.{value_in, scope_values}
use Rattle.just_evaluate.proofs.bindings.values_by_name.Given as goal

abbrev pub invariant-loop-binding : goal.invariant-loop-binding
invariant-loop-binding l = (name : Text) → option_or (option_copied (get bytes_eq l.values name)) (value_in l.binding-iterator name) ≡ scope_values l.scope name

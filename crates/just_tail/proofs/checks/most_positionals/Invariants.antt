use Rattle.std.proofs.Common.{◌≡◌, ◌≤◌, ◌+◌, length, drop}
use Rattle.std.specs.List.{list_any}
use Rattle.just_ast_definitions.specs.Parameter.{is_variadic}
use Rattle.just_ast_definitions.specs.declared.parameter.Parameter.{Parameter}
use Rattle.just_tail.specs.Options.{positionals}
use Rattle.just_tail.proofs.checks.most_positionals.Given as goal

abbrev pub invariant-loop-parameter : goal.invariant-loop-parameter
invariant-loop-parameter l = record {
  small : l.count ≤ l.parameter-index;
  counted : l.count + length (positionals (drop l.parameter-index l.parameters)) ≡ length (positionals l.parameters);
  none : list_any (λ (p : Parameter). is_variadic p.kind) (positionals (drop l.parameter-index l.parameters))
      ≡ list_any (λ (p : Parameter). is_variadic p.kind) (positionals l.parameters);
}

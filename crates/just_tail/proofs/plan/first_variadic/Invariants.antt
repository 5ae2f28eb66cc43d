use Rattle.std.proofs.Common.{◌≡◌, ◌≤◌, ◌+◌, drop}
use Rattle.just_tail.specs.Options.{first_variadic}
use Rattle.just_tail.proofs.plan.first_variadic.Given as goal

abbrev pub invariant-loop-parameter : goal.invariant-loop-parameter
invariant-loop-parameter l = record {
  small : l.place ≤ l.parameter-index;
  rest : l.place + first_variadic (drop l.parameter-index l.parameters) ≡ first_variadic l.parameters;
}

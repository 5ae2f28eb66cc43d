use Rattle.std.proofs.Common.{◌≡◌, ◌++◌, drop}
use Rattle.just_module_contents.specs.Recipes.{lent}
use Rattle.just_parts.specs.Evaluator.{interpreter_expressions}
use Rattle.just_module_variables.proofs.expressions.push_interpreter.Given as goal

abbrev pub invariant-loop-argument : goal.invariant-loop-argument
invariant-loop-argument l = lent l.fn.found.items ++ interpreter_expressions l.interpreter ≡ lent l.found.items ++ drop l.argument-index l.argument-items

use Rattle.std.proofs.Common.{take}
use Rattle.std.specs.List.{All}
use Rattle.just_module_variables.specs.Documented.{AreDocumented}
use Rattle.just_module_variables.specs.loops.Documented.{known_by, value_by_tables}
use Rattle.just_module_variables.proofs.Documenting.{IsSoundLabel}
use Rattle.just_module_variables.proofs.docs.document.Given as goal
use Rattle.just_parts.specs.Evaluator.{scope_values}

abbrev pub invariant-loop-label : goal.invariant-loop-label
invariant-loop-label g l = record {
  made : AreDocumented (value_by_tables (g.E.ConstantEvaluation.answers l.given.evaluation.now) l.variables (scope_values l.constants)) (take l.label-index l.labels) l.made.items;
  sound : All (IsSoundLabel (known_by (g.S.Syntax.answers l.given.syntax.now) l.variables) (value_by_tables (g.E.ConstantEvaluation.answers l.given.evaluation.now) l.variables (scope_values l.constants))) (take l.label-index l.labels);
}
